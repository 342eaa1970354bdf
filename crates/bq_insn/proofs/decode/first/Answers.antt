use Rattle.std.proofs.Common.{◌∙◌, sym, subst}
use Rattle.bq_insn.specs.declared.Insn.{Insn}
use Rattle.bq_insn.specs.Faults.{HasFront}
use Rattle.bq_insn.proofs.FrontLemmas.{has_front}
use Rattle.bq_insn.proofs.ReadingLemmas.{faultless_slots_read}
use Rattle.bq_insn.proofs.NumberLemmas.{numbers_read, second_small}
use Rattle.bq_insn.proofs.decode.first.Goals as goal

pub returns-clause-ok : goal.returns-clause-ok
returns-clause-ok c =
    let s = c.front-next.result.0 in
    let next = c.front-next.result.1 in
    let read =
    faultless_slots_read c.in-Some.form s next c.front-next.ensures.fits (sym c.of.ensures ∙ c.in-Some.is)
    (sym c.cause_at.ensures ∙ c.in_default-cause_at.is) in
    subst (λ (i : Insn). HasFront c.args.bytes.now i) (sym c.insn_of.ensures)
    (has_front c.args.bytes.now s next _ c.front-next.ensures.begins read
    (numbers_read c.in-Some.form s next c.front-next.ensures.fits (second_small _ s next c.front-next.ensures.begins)))
