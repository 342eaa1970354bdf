use Rattle.std.proofs.Common.{◌≡◌, ◌<◌, ℕ, List, Option, length, sym, ap, refl, subst, ◌∙◌}
use Rattle.std.proofs.lemmas.Result.{err_from_is_err_and}
use Rattle.bq_insn.specs.declared.Insn.{Insn}
use Rattle.bq_insn.specs.Slots.{spread}
use Rattle.bq_verify.specs.Faults.{IsFaultless}
use Rattle.bq_verify.specs.Passes.{Measured}
use Rattle.bq_verify.specs.Subjects.{subject_of_program}
use Rattle.bq_verify.proofs.GraphLemmas.{spread_whole, faultless_sound, heights_are, first_height_is_longest}
use Rattle.bq_verify.specs.Control.{BoundsCalls}
use Rattle.bq_verify.proofs.VerdictLemmas.{passable_program, verdict_of_graph}
use Rattle.bq_verify.proofs.program.verify_slots.Goals as goal

pub check_graph-requires-clause-whole : goal.check_graph-requires-clause-whole
check_graph-requires-clause-whole c = spread_whole _ _ (c.as_slice-2.ensures.value ∙ c.in_ok-slots.ensures)

pub heights_of-requires-clause-sound : goal.heights_of-requires-clause-sound
heights_of-requires-clause-sound c =
    let same = c.as_slice-2.ensures.value ∙ sym c.as_slice-3.ensures.value in
    faultless_sound _ _ (c.as_slice-3.ensures.value ∙ c.in_ok-slots.ensures)
    (subst (λ (s : List (Option Insn)). IsFaultless s) same c.in_ok-check_graph.ensures.ok)

pub new-requires-clause-passable : goal.new-requires-clause-passable
new-requires-clause-passable c =
    let same : c.in_ok-slots.slots.items ≡ spread c.args.program.insns.items = c.in_ok-slots.ensures ∙ ap spread c.as_slice.ensures.value in
    passable_program c.args.program.insns.items c.in_ok-slots.slots.items
    c.args.program.form same c.requires.registers c.requires.some c.requires.short
    (subst (λ (s : List (Option Insn)). IsFaultless s) c.as_slice-2.ensures.value c.in_ok-check_graph.ensures.ok)

pub new-requires-clause-heights : goal.new-requires-clause-heights
new-requires-clause-heights c =
    let measured =
    subst (λ (s : List (Option Insn)). Measured s 0 c.in_ok-heights.heights.items) c.as_slice-3.ensures.value
    c.in_ok-heights.ensures.measured in
    heights_are c.in_ok-slots.slots.items c.as_slice-4.result.now
    (faultless_sound _ _ c.in_ok-slots.ensures
    (subst (λ (s : List (Option Insn)). IsFaultless s) c.as_slice-2.ensures.value c.in_ok-check_graph.ensures.ok))
    (subst (λ (h : List ℕ). Measured c.in_ok-slots.slots.items 0 h) (sym c.as_slice-4.ensures.value) measured)

pub returns-in-Ok-clause-budget : goal.returns-in-Ok-clause-budget
returns-in-Ok-clause-budget c =
    let same : c.in_ok-slots.slots.items ≡ spread c.args.program.insns.items = c.in_ok-slots.ensures ∙ ap spread c.as_slice.ensures.value in
    let some : 0 < length c.in_ok-slots.slots.items = subst (λ (s : List (Option Insn)). 0 < length s) (sym same) c.requires.some in
    let measured =
    subst (λ (s : List (Option Insn)). Measured s 0 c.in_ok-heights.heights.items) c.as_slice-3.ensures.value
    c.in_ok-heights.ensures.measured in
    rw (c.in-Ok.ensures.slots, c.in-Ok.ensures.budget, c.as_slice-4.ensures.value)
    (first_height_is_longest c.args.program.insns.items c.in_ok-slots.slots.items c.in_ok-heights.heights.items same some measured)

pub new-requires-clause-made : goal.new-requires-clause-made
new-requires-clause-made c =
    let made = c.in_ok-check_graph.ensures.made in
    (made.0, subst (λ (s : List (Option Insn)). BoundsCalls s made.0) c.as_slice-2.ensures.value made.1)

pub returns-in_err-slots-clause-refused : goal.returns-in_err-slots-clause-refused
returns-in_err-slots-clause-refused c =
    let error = err_from_is_err_and c.from_residual.result c.from_residual.ensures.1 in
    rw (error.1, error.2) tt

pub returns-in_err-slots-clause-total_on_straight : goal.returns-in_err-slots-clause-total_on_straight
returns-in_err-slots-clause-total_on_straight c = λ straight.
    let error = err_from_is_err_and c.from_residual.result c.from_residual.ensures.1 in
    rw (error.1, error.2) refl

pub returns-in_err-check_graph-clause-refused : goal.returns-in_err-check_graph-clause-refused
returns-in_err-check_graph-clause-refused c =
    let error = err_from_is_err_and c.from_residual-in_err-check_graph.result c.from_residual-in_err-check_graph.ensures.1 in
    rw (error.1, error.2) (verdict_of_graph (subject_of_program c.args.program) _
    (rw (c.as_slice-2.ensures.value, c.in_ok-slots.ensures, c.as_slice.ensures.value) at c.in_err-check_graph.ensures.refused))

pub returns-in-Ok-clause-faultless : goal.returns-in-Ok-clause-faultless
returns-in-Ok-clause-faultless c = rw c.in-Ok.ensures.slots (rw c.as_slice-2.ensures.value at c.in_ok-check_graph.ensures.ok)

pub returns-in-Ok-clause-accepted : goal.returns-in-Ok-clause-accepted
returns-in-Ok-clause-accepted c = c.in-Ok.ensures.accepted

pub check_graph-requires-clause-some : goal.check_graph-requires-clause-some
check_graph-requires-clause-some c = rw (c.as_slice-2.ensures.value, c.in_ok-slots.ensures, c.as_slice.ensures.value) c.requires.some

pub check_graph-requires-clause-short : goal.check_graph-requires-clause-short
check_graph-requires-clause-short c = rw (c.as_slice-2.ensures.value, c.in_ok-slots.ensures, c.as_slice.ensures.value) c.requires.short

pub heights_of-requires-clause-short : goal.heights_of-requires-clause-short
heights_of-requires-clause-short c = rw (c.as_slice-3.ensures.value, c.in_ok-slots.ensures, c.as_slice.ensures.value) c.requires.short

pub new-requires-clause-some : goal.new-requires-clause-some
new-requires-clause-some c = rw (c.in_ok-slots.ensures, c.as_slice.ensures.value) c.requires.some

pub new-requires-clause-as_many : goal.new-requires-clause-as_many
new-requires-clause-as_many c = rw c.as_slice-4.ensures.value (c.in_ok-heights.ensures.room ∙ ap length c.as_slice-3.ensures.value)

pub returns-in_err-heights-clause-refused : goal.returns-in_err-heights-clause-refused
returns-in_err-heights-clause-refused c =
    let error = err_from_is_err_and c.from_residual-in_err-heights.result c.from_residual-in_err-heights.ensures.1 in
    rw (error.1, error.2) tt

pub returns-in_err-heights-clause-total_on_straight : goal.returns-in_err-heights-clause-total_on_straight
returns-in_err-heights-clause-total_on_straight c = λ straight.
    let error = err_from_is_err_and c.from_residual-in_err-heights.result c.from_residual-in_err-heights.ensures.1 in
    rw (error.1, error.2) refl
