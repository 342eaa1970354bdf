use Rattle.std.proofs.Common.{◌≡◌, ◌<◌, ◌∙◌, ℕ, ap, sym, subst, inl, inr, arith, length}
use Rattle.std.proofs.lemmas.List.{get_or_read}
use Rattle.bq_verify.specs.Paths.{Path}
use Rattle.bq_verify.specs.Passes.{IsAmongTargets}
use Rattle.bq_verify.proofs.EdgeLemmas.{Path-push}
use Rattle.bq_import.specs.Search.{AllComeTo, is_open}
use Rattle.bq_import.proofs.StackLemmas.{comes_queued}
use Rattle.bq_import.proofs.landings.find_landings.Goals as goal

pub loop-index-preserved : goal.loop-index-preserved
loop-index-preserved c =
    let slots = c.args.slots.now in
    let queue = c.loop-index.walk.queue.items in
    let slot = c.index.result.now in
    let count = c.len.ensures ∙ c.loop-index.walk.queue.ok.0 in
    let test = c.if-index-len.false in
    let inside : c.loop-index.index < length c.loop-index.walk.queue.items = omega (arith, count, test) in
    let read : c.index.result.now ≡ _ = get_or_read queue c.loop-index.index slot inside c.index.ensures 0 in
    let here : Path c.args.slots.now 0 c.index.result.now =
    subst (λ (n : ℕ). Path c.args.slots.now 0 n) (sym read) (c.loop-index.invariant.1 c.loop-index.index inside) in
    let on : (to : ℕ) → IsAmongTargets c.targets_of-targets.result to → Path c.args.slots.now 0 to =
    λ to of. Path-push slots 0 slot to here (c.targets_of-targets.ensures.edges to of) in
    let landed : AllComeTo c.args.slots.now c.land.new.self.queue.items =
    subst (λ q. AllComeTo c.args.slots.now q.items) (sym c.land.ensures.queue) c.loop-index.invariant.1 in
    let once =
    comes_queued slots c.land.new.self.queue.items c.targets_of-targets.result.jump c.find-in-loop-index.new.self.queue.items
    c.in_ok-find-2.ensures.queue landed (λ k is. on k (inr is)) in (
      λ s e.
          let same = ap (λ v. is_open v.items s) (c.find-in-loop-index-2.ensures.landings ∙ c.find-in-loop-index.ensures.landings) in
          elim (c.land.ensures.landings s (sym same ∙ e)) [
            | inl before ↦ c.loop-index.invariant.0 s before
            | inr is ↦ ((slot, c.targets_of-targets.ensures.jumps s is), on s (inr is))
          ],
      comes_queued slots c.find-in-loop-index.new.self.queue.items c.targets_of-targets.result.next
          c.find-in-loop-index-2.new.self.queue.items c.in_ok-find-3.ensures.queue once (λ k is. on k (inl is)),
    )
