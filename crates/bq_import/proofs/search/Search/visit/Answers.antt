use Rattle.std.proofs.Common.{◌≡◌, ◌+◌, inl, inr, ℕ, ap, arith, subst}
use Rattle.bq_import.specs.Lengths.{run_slots}
use Rattle.bq_import.specs.Searching.{IsSearchWithin}
use Rattle.bq_import.proofs.BudgetLemmas.{budget_more}
use Rattle.bq_import.proofs.search.Search.visit.Goals as goal

pub loop-slot-init : goal.loop-slot-init
loop-slot-init c =
    let old = c.args.old.now in
    let root = c.args.root in
    let opened = c.in_ok-open.ensures in
    let now = c.open.new.self in (
      opened.ok.at,
      opened.opened,
      elim c.requires.root [
        | inl landing ↦
            budget_more old now.copy.slots.items now.copy.origins.items now.places.items now.opens.items now.stack.items 0
            (run_slots old 0) (omega arith) (opened.landing landing 0 c.requires.within)
        | inr first ↦
            let same : run_slots old root ≡ run_slots old 0 = ap (run_slots old) first in
            let all : 0 + run_slots old root ≡ run_slots old 0 = omega (arith, same) in
            subst (λ (n : ℕ). IsSearchWithin c.args.old.now c.open.new.self n) all (opened.more 0 c.requires.within)
      ],
      λ landing. opened.landing landing 0 c.requires.within,
    )

pub loop-slot-preserved : goal.loop-slot-preserved
loop-slot-preserved c =
    let before = c.loop-slot.invariant in
    let went = c.in_ok-advance.ensures.ok in
    let within = c.in_ok-advance.ensures.within in (
      went.at,
      went.keeps c.args.root before.1,
      within (run_slots c.args.old.now 0) before.2,
      λ landing. within 0 (before.3 landing),
    )
