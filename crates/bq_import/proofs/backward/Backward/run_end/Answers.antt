use Rattle.std.proofs.Common.{ℕ, subst}
use Rattle.bq_import.specs.Backward.{IsFront}
use Rattle.bq_import.specs.Search.{IsNextSlot}
use Rattle.bq_import.proofs.RunningLemmas.{next_same, run_on}
use Rattle.bq_import.proofs.backward.Backward.run_end.Goals as goal

pub loop-next-preserved : goal.loop-next-preserved
loop-next-preserved c =
    let old = c.args.old.now in
    let slot = c.args.slot in
    let last = c.loop-next.last in
    let found = c.in-Some.ensures.some in
    let before = c.loop-next.invariant in (
      run_on old c.args.places.now slot last c.in-Some.next c.requires.linked c.requires.closed before.0 found.0,
      λ next n front.
          let same = before.1 next n front in
          let here : IsNextSlot c.args.old.now c.args.slot c.in-Some.next =
          subst (λ (k : ℕ). IsNextSlot c.args.old.now k c.in-Some.next) same found.0 in
          let one = next_same old slot next c.in-Some.next n here in
          absurd (found.1 (subst (λ (k : ℕ). IsFront c.args.self.now.slots.items c.args.self.now.origins.items k) one front)),
    )
