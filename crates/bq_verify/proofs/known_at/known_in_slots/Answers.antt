use Rattle.std.proofs.Common.{◌≡◌, List, Option, sym, ap, subst, ◌∙◌}
use Rattle.bq_insn.specs.declared.Insn.{Insn}
use Rattle.bq_insn.specs.Slots.{spread}
use Rattle.bq_verify.specs.Faults.{IsFaultless}
use Rattle.bq_verify.specs.Subjects.{subject_of_program}
use Rattle.bq_verify.proofs.GraphLemmas.{spread_whole}
use Rattle.bq_verify.proofs.KnownLemmas.{none_known}
use Rattle.bq_verify.proofs.VerdictLemmas.{passable_program}
use Rattle.bq_verify.specs.declared.refused.Refused.TheVariants.{OutOfMemory}
use Rattle.bq_verify.proofs.known_at.known_in_slots.Goals as goal

pub check_graph-requires-clause-whole : goal.check_graph-requires-clause-whole
check_graph-requires-clause-whole c = spread_whole _ _ (c.as_slice-2.ensures.value ∙ c.in_ok-slots.ensures)

pub known_in_pass-requires : goal.known_in_pass-requires
known_in_pass-requires c =
    let same : c.as_slice-in-Ok.result.now ≡ spread c.args.program.now.insns.items =
    c.as_slice-in-Ok.ensures.value ∙ c.in_ok-slots.ensures ∙ ap spread c.as_slice.ensures.value in
    let faultless = c.as_slice-2.ensures.value ∙ sym c.as_slice-in-Ok.ensures.value in
    rw (c.as_slice-in-Ok-2.ensures.value, c.context_length.ensures)
    (passable_program c.args.program.now.insns.items c.as_slice-in-Ok.result.now
    c.args.program.now.form same c.requires.registers c.requires.some c.requires.short
    (subst (λ (s : List (Option Insn)). IsFaultless s) faultless c.in-Ok.ensures.ok))

pub returns-in-Err-At : goal.returns-in-Err-At
returns-in-Err-At c =
    let same : c.as_slice-2.result.now ≡ spread c.args.program.now.insns.items =
    c.as_slice-2.ensures.value ∙ c.in_ok-slots.ensures ∙ ap spread c.as_slice.ensures.value in
    none_known (subject_of_program c.args.program.now) c.args.until c.new.result.items c.new.ensures.items (λ k straight.
    let memory : c.in-Err-At.field-0 ≡ OutOfMemory =
    c.in-Err-At.ensures.passes (subst (λ (s : List (Option Insn)). IsFaultless s) (sym same) straight.faultless) in
    let other = c.in-Err-At.field-0-is in
    let no : ⊥ = cc in
    no)
