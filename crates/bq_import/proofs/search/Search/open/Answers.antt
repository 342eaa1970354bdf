use Rattle.std.proofs.Common.{◌≡◌, ◌<◌, ◌+◌, ◌++◌, [], ◌∷◌, ℕ, List, length, true, subst, sym, arith}
use Rattle.std.specs.Prelude.{slice_set}
use Rattle.bq_verify.proofs.EdgeLemmas.{start_inside}
use Rattle.bq_import.specs.Budgets.{HasBudget}
use Rattle.bq_import.specs.Lengths.{run_slots}
use Rattle.bq_import.specs.Search.{IsSearching, left_of}
use Rattle.bq_import.proofs.BudgetLemmas.{begun_landing, begun_more, begun_next}
use Rattle.bq_import.proofs.StackLemmas.{after_open, keeps_open, less_open}
use Rattle.bq_import.proofs.search.Search.open.Goals as goal

pub returns-clause-ok : goal.returns-clause-ok
returns-clause-ok c =
    let before = c.args.self.now in
    let old = c.args.old.now in
    let back = before.copy.slots.items in
    let origins = before.copy.origins.items in
    let places = before.places.items in
    let opens = before.opens.items in
    let stack = before.stack.items in
    let stack_is : c.push.new.self.items ≡ stack ++ (c.args.slot ∷ []) = c.in_ok-push.ensures.items in
    record {
      at =
          subst (λ (s : List ℕ). IsSearching c.args.maps old back origins places (slice_set opens c.args.slot true) s)
          (sym stack_is) (after_open c.args.maps old back origins places opens stack c.requires.at c.args.slot
          c.requires.start c.requires.new (λ top is. (c.requires.edge top is).0) c.requires.reached);
      keeps =
          keeps_open c.args.maps old back origins places opens stack c.requires.at c.args.slot c.requires.start c.requires.new
          (λ top is. (c.requires.edge top is).0);
      less =
          subst (λ (s : List ℕ). left_of (slice_set opens c.args.slot true) s < left_of opens stack) (sym stack_is)
          (less_open c.args.maps old back origins places opens stack c.requires.at c.args.slot c.requires.start c.requires.new
          (λ top is. (c.requires.edge top is).0));
    }

pub returns-clause-landing : goal.returns-clause-landing
returns-clause-landing c =
    let before = c.args.self.now in
    let old = c.args.old.now in
    let back = before.copy.slots.items in
    let origins = before.copy.origins.items in
    let places = before.places.items in
    let opens = before.opens.items in
    let stack = before.stack.items in
    let stack_is : c.push.new.self.items ≡ stack ++ (c.args.slot ∷ []) = c.in_ok-push.ensures.items in
    let room = c.requires.at.room in
    let start = start_inside old c.args.slot c.requires.start in
    let inside : c.args.slot < length opens = omega (arith, room, start) in
    λ landing extra budget.
    subst (λ (s : List ℕ). HasBudget c.args.old.now back origins places (slice_set opens c.args.slot true) s extra) (sym stack_is)
    (begun_landing old back origins places opens stack extra budget c.args.slot inside c.requires.edge c.requires.new landing)

pub returns-clause-next : goal.returns-clause-next
returns-clause-next c =
    let before = c.args.self.now in
    let old = c.args.old.now in
    let back = before.copy.slots.items in
    let origins = before.copy.origins.items in
    let places = before.places.items in
    let opens = before.opens.items in
    let stack = before.stack.items in
    let stack_is : c.push.new.self.items ≡ stack ++ (c.args.slot ∷ []) = c.in_ok-push.ensures.items in
    let room = c.requires.at.room in
    let start = start_inside old c.args.slot c.requires.start in
    let inside : c.args.slot < length opens = omega (arith, room, start) in
    λ top is last extra budget.
    subst (λ (s : List ℕ). HasBudget c.args.old.now back origins places (slice_set opens c.args.slot true) s extra) (sym stack_is)
    (begun_next old back origins places opens stack extra budget c.args.slot inside c.requires.edge c.requires.linked top is last)

pub returns-clause-more : goal.returns-clause-more
returns-clause-more c =
    let before = c.args.self.now in
    let old = c.args.old.now in
    let back = before.copy.slots.items in
    let origins = before.copy.origins.items in
    let places = before.places.items in
    let opens = before.opens.items in
    let stack = before.stack.items in
    let stack_is : c.push.new.self.items ≡ stack ++ (c.args.slot ∷ []) = c.in_ok-push.ensures.items in
    let room = c.requires.at.room in
    let start = start_inside old c.args.slot c.requires.start in
    let inside : c.args.slot < length opens = omega (arith, room, start) in
    λ extra budget.
    subst (λ (s : List ℕ).
    HasBudget c.args.old.now back origins places (slice_set opens c.args.slot true) s
    (extra + run_slots c.args.old.now c.args.slot))
    (sym stack_is) (begun_more old back origins places opens stack extra budget c.args.slot inside c.requires.edge)
