use Rattle.std.proofs.Common.{◌≡◌, ◌<◌, ◌+◌, ◌-◌, ℕ, arith, List, Some, length, take, subst, sym, ap, ◌∙◌}
use Rattle.std.specs.Prelude.{slice_set}
use Rattle.std.proofs.lemmas.Result.{err_from_is_err_and}
use Rattle.bq_import.specs.Budgets.{HasBudget}
use Rattle.bq_import.specs.Lengths.{run_slots}
use Rattle.bq_import.specs.Orders.{slots_in_front}
use Rattle.bq_import.specs.Search.{IsSearching, left_of}
use Rattle.bq_verify.specs.Edges.{IsStart}
use Rattle.bq_verify.proofs.EdgeLemmas.{start_inside}
use Rattle.bq_import.proofs.BudgetLemmas.{full_within, kept_top, left_budget, suffices}
use Rattle.bq_import.proofs.ForwardLemmas.{counted_more, share_suffices, too_long}
use Rattle.bq_import.proofs.StackLemmas.{after_leave, less_leave, now_set, still_set, top_comes, top_starts, top_undone}
use Rattle.bq_import.proofs.search.Search.leave.Goals as goal

pub place-requires-clause-known : goal.place-requires-clause-known
place-requires-clause-known c = rw c.as_slice.ensures.value c.requires.at.ordered.known

pub place-requires-clause-closed : goal.place-requires-clause-closed
place-requires-clause-closed c = rw c.as_slice.ensures.value c.requires.at.ordered.closed

pub place-requires-clause-ready : goal.place-requires-clause-ready
place-requires-clause-ready c = rw c.as_slice.ensures.value c.requires.ready

pub index_mut-requires : goal.index_mut-requires
index_mut-requires c =
    let long = c.requires.top.long in
    let start = c.requires.at.starts c.requires.top.below (omega (arith, long)) in
    let inside = start_inside c.args.old.now c.args.slot (subst (λ (n : ℕ). IsStart c.args.old.now n) c.requires.top.slot_is start) in
    let room = c.requires.at.ordered.room in
    omega (arith, inside, room)

pub returns-clause-ok : goal.returns-clause-ok
returns-clause-ok c =
    let before = c.args.self.now in
    let old = c.args.old.now in
    let back' = c.place.new.self.slots.items in
    let origins' = c.place.new.self.origins.items in
    let places = before.places.items in
    let opens = before.opens.items in
    let stack = before.stack.items in
    let more = c.in_ok-place.ensures.ok in
    let count : c.len.result ≡ length back' = c.len.ensures ∙ c.place.new.self.slots.ok.0 in
    let stack_is : c.pop.new.self.items ≡ take (length stack - 1) stack =
    c.pop.ensures.rest ∙ ap (λ (n : ℕ). take (n - 1) stack) before.stack.ok.0 in
    let origins = before.copy.origins.items in
    let start = top_starts c.args.maps old before.copy.slots.items origins places opens stack c.requires.at c.args.slot c.requires.top in
    let way = top_comes c.args.maps old before.copy.slots.items origins places opens stack c.requires.at c.args.slot c.requires.top in
    let undone = top_undone c.args.maps old before.copy.slots.items origins places opens stack c.requires.at c.args.slot c.requires.top in
    let counted = c.requires.at.ordered.counted in
    let enough = share_suffices old before.copy.slots.items origins places counted c.args.slot start in
    let within = start_inside old c.args.slot start in
    let room = c.requires.at.ordered.room in
    let longer =
    counted_more old before.copy.slots.items origins places counted c.args.slot start way undone
    c.requires.ready (length back' - 1) (omega (arith, within, room)) back' origins' more.front
    (c.in_ok-place.ensures.grown (slots_in_front old c.args.slot counted.order) enough) in
    let at =
    after_leave c.args.maps old before.copy.slots.items origins places opens stack c.requires.at c.args.slot c.requires.top
    c.requires.ready back' origins' more longer in
    let less =
    less_leave c.args.maps old before.copy.slots.items before.copy.origins.items places opens stack c.requires.at c.args.slot
    c.requires.top c.requires.ready back' origins' more in
    record {
      at =
          subst
          (λ (n : ℕ). IsSearching c.args.maps old back' origins' (slice_set places c.args.slot (Some (n - 1))) opens c.pop.new.self.items)
          (sym count) (subst
          (λ (s : List ℕ). IsSearching c.args.maps old back' origins' (slice_set places c.args.slot (Some (length back' - 1))) opens s)
          (sym stack_is) at);
      keeps = λ s e. e;
      less = subst (λ (s : List ℕ). left_of opens s < left_of opens stack) (sym stack_is) less;
    }

pub returns-in_err-place-clause-err : goal.returns-in_err-place-clause-err
returns-in_err-place-clause-err c =
    let p = err_from_is_err_and c.from_residual.result c.from_residual.ensures.1 in
    let before = c.args.self.now in
    let old = c.args.old.now in
    let back = before.copy.slots.items in
    let origins = before.copy.origins.items in
    let places = before.places.items in
    let opens = before.opens.items in
    let stack = before.stack.items in
    let kept = kept_top old back origins places opens stack (run_slots old 0) c.requires.within c.args.slot c.requires.top in
    let enough = suffices old back origins places opens stack (run_slots old 0) c.requires.within c.args.slot c.requires.top in
    let all = kept.all in
    let start = top_starts c.args.maps old back origins places opens stack c.requires.at c.args.slot c.requires.top in
    let way = top_comes c.args.maps old back origins places opens stack c.requires.at c.args.slot c.requires.top in
    let undone = top_undone c.args.maps old back origins places opens stack c.requires.at c.args.slot c.requires.top in
    let counted = c.requires.at.ordered.counted in
    let one = share_suffices old back origins places counted c.args.slot start in
    rw (p.1, p.2) (full_within old back origins places opens stack (run_slots old 0) kept.own
    (length back + kept.own) c.in_err-place.field-0.0 c.requires.linked c.requires.within (omega (arith, all))
    (omega arith) (c.in_err-place.ensures.full kept.own enough) (length back + slots_in_front old c.args.slot counted.order)
    (c.in_err-place.ensures.full (slots_in_front old c.args.slot counted.order) one)
    (too_long old back origins places counted c.args.slot start way undone c.requires.ready))

pub returns-clause-within : goal.returns-clause-within
returns-clause-within c =
    let before = c.args.self.now in
    let old = c.args.old.now in
    let back = before.copy.slots.items in
    let origins = before.copy.origins.items in
    let places = before.places.items in
    let opens = before.opens.items in
    let stack = before.stack.items in
    let back' = c.place.new.self.slots.items in
    let origins' = c.place.new.self.origins.items in
    let place : ℕ = c.len.result - 1 in
    let stack_is : c.pop.new.self.items ≡ take (length stack - 1) stack =
    c.pop.ensures.rest ∙ ap (λ (n : ℕ). take (n - 1) stack) before.stack.ok.0 in
    let long = c.requires.top.long in
    let start = c.requires.at.starts c.requires.top.below (omega (arith, long)) in
    let within = start_inside c.args.old.now c.args.slot (subst (λ (n : ℕ). IsStart c.args.old.now n) c.requires.top.slot_is start) in
    let room = c.requires.at.ordered.room in
    let inside : c.args.slot < length places = omega (arith, within, room) in
    λ extra budget.
    let kept = kept_top old back origins places opens stack extra budget c.args.slot c.requires.top in
    let enough = suffices old back origins places opens stack extra budget c.args.slot c.requires.top in
    subst (λ (s : List ℕ). HasBudget c.args.old.now back' origins' (slice_set places c.args.slot (Some (c.len.result - 1))) opens s extra)
    (sym stack_is) (left_budget old back origins places opens stack extra budget c.args.slot c.requires.top back' origins'
    (slice_set places c.args.slot (Some place)) (still_set places c.args.slot place inside)
    (now_set places c.args.slot place inside) c.in_ok-place.ensures.ok.front (c.in_ok-place.ensures.grown kept.own enough))
