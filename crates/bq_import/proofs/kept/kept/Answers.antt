use Rattle.std.proofs.Common.{◌≡◌, ◌+◌, ◌-◌, ℕ, Bool, List, Option, true, arith, length, reverse, subst, sym, ap, ◌∙◌}
use Rattle.std.proofs.lemmas.List.{length-reverse}
use Rattle.bq_insn.specs.declared.Insn.{Insn}
use Rattle.bq_insn.specs.Slots.{spread}
use Rattle.bq_insn.specs.Spelling.{is_well_formed}
use Rattle.bq_import.specs.Copies.{IsCopy}
use Rattle.bq_import.specs.Keeping.{AllReached, IsKeeping}
use Rattle.bq_import.proofs.KeepLemmas.{nothing_kept}
use Rattle.bq_import.proofs.OrderLemmas.{is_copy}
use Rattle.bq_import.proofs.ProgramLemmas.{written_is_well_formed}
use Rattle.bq_import.proofs.ReachLemmas.{all_reached, kept_front}
use Rattle.bq_import.proofs.kept.kept.Goals as goal

pub loop-done-init : goal.loop-done-init
loop-done-init c =
    let old = c.args.old.now in
    let found = c.in_ok-reached.reached.items in
    let back = c.new.result.slots.items in
    let origins = c.new.result.origins.items in
    let places = c.in_ok-no_places.field-0.items in
    let same : length c.args.old.now ≡ length c.args.old.now - 0 = omega arith in
    subst (λ (n : ℕ).
    IsKeeping c.args.maps c.args.old.now c.in_ok-reached.reached.items n c.new.result.slots.items c.new.result.origins.items
    c.in_ok-no_places.field-0.items) same
    (nothing_kept c.args.maps old found back origins places c.in_ok-reached.ensures (c.new.ensures.built c.args.maps old)
    c.new.ensures.empty c.in_ok-no_places.ensures.blank c.in_ok-no_places.ensures.room)

pub keep-requires-clause-keeping : goal.keep-requires-clause-keeping
keep-requires-clause-keeping c =
    let now = c.loop-done.keeping in
    let lt = c.loop-done-test.true in
    let same : length c.args.old.now - c.loop-done.done ≡ length c.args.old.now - 1 - c.loop-done.done + 1 = omega (arith, lt) in
    rw c.as_slice.ensures.value (subst
    (λ (n : ℕ).
    IsKeeping c.args.maps c.args.old.now c.in_ok-reached.reached.items n now.copy.slots.items
    now.copy.origins.items now.places.items) same c.loop-done.invariant)

pub loop-done-preserved : goal.loop-done-preserved
loop-done-preserved c =
    let now = c.keep.new.self in
    let same : length c.args.old.now - 1 - c.loop-done.done ≡ length c.args.old.now - (c.loop-done.done + 1) = omega arith in
    subst (λ (n : ℕ).
    IsKeeping c.args.maps c.args.old.now c.in_ok-reached.reached.items n now.copy.slots.items
    now.copy.origins.items now.places.items) same
    (subst (λ (f : List Bool).
    IsKeeping c.args.maps c.args.old.now f (length c.args.old.now - 1 - c.loop-done.done) now.copy.slots.items
    now.copy.origins.items now.places.items) c.as_slice.ensures.value c.in_ok-keep.ensures.ok)

pub returns-clause-copy : goal.returns-clause-copy
returns-clause-copy c =
    let now = c.loop-done.keeping in
    let found = c.in_ok-reached.reached.items in
    let ordered = c.in_ok-ordered.ordered in
    let turned = c.in_ok-ordered.ensures in
    let end = c.loop-done-test.false in
    let front =
    kept_front c.args.maps c.args.old.now found (length c.args.old.now - c.loop-done.done) now.copy.slots.items
    now.copy.origins.items now.places.items c.in_ok-reached.ensures (omega (arith, end)) c.loop-done.invariant in
    let built = c.loop-done.invariant.built in
    subst (λ (xs : List (Option Insn)). IsCopy c.args.maps c.args.old.now xs ordered.origins.items)
    (sym (ap spread turned.insns ∙ built.spread_is))
    (subst (λ (ys : List ℕ). IsCopy c.args.maps c.args.old.now (reverse now.copy.slots.items) ys) (sym turned.origins)
    (is_copy c.args.maps c.args.old.now now.copy.slots.items now.copy.origins.items built front))

pub returns-clause-long : goal.returns-clause-long
returns-clause-long c =
    let now = c.loop-done.keeping in
    let ordered = c.in_ok-ordered.ordered in
    let turned = c.in_ok-ordered.ensures in
    let built = c.loop-done.invariant.built in
    let a : length ordered.origins.items ≡ length now.copy.origins.items =
    ap length turned.origins ∙ length-reverse now.copy.origins.items in
    let b : length (spread ordered.insns.items) ≡ length now.copy.slots.items =
    ap length (ap spread turned.insns ∙ built.spread_is) ∙ length-reverse now.copy.slots.items in
    a ∙ (built.as_long ∙ sym b)

pub returns-clause-reached : goal.returns-clause-reached
returns-clause-reached c =
    let now = c.loop-done.keeping in
    let found = c.in_ok-reached.reached.items in
    let turned = c.in_ok-ordered.ensures in
    let end = c.loop-done-test.false in
    let none : length c.args.old.now - c.loop-done.done ≡ 0 = omega (arith, end) in
    let at : IsKeeping c.args.maps c.args.old.now c.in_ok-reached.reached.items 0 now.copy.slots.items
    now.copy.origins.items now.places.items =
    subst (λ (n : ℕ).
    IsKeeping c.args.maps c.args.old.now c.in_ok-reached.reached.items n now.copy.slots.items
    now.copy.origins.items now.places.items) none c.loop-done.invariant in
    let built = c.loop-done.invariant.built in
    subst (λ (xs : List (Option Insn)). AllReached xs) (sym (ap spread turned.insns ∙ built.spread_is))
    (all_reached c.args.maps c.args.old.now found now.copy.slots.items now.copy.origins.items now.places.items c.in_ok-reached.ensures at)

pub returns-clause-well_formed : goal.returns-clause-well_formed
returns-clause-well_formed c =
    let now = c.loop-done.keeping in
    let found = c.in_ok-reached.reached.items in
    let end = c.loop-done-test.false in
    let front =
    kept_front c.args.maps c.args.old.now found (length c.args.old.now - c.loop-done.done) now.copy.slots.items
    now.copy.origins.items now.places.items c.in_ok-reached.ensures (omega (arith, end)) c.loop-done.invariant in
    subst (λ (xs : List Insn). is_well_formed xs ≡ true) (sym c.in_ok-ordered.ensures.insns)
    (written_is_well_formed c.args.maps c.args.old.now now.copy.slots.items now.copy.origins.items c.loop-done.invariant.built front)
