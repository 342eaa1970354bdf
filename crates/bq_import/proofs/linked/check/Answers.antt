use Rattle.std.proofs.Common.{arith, below_more}
use Rattle.std.proofs.lemmas.Result.{err_from_is_err_and}
use Rattle.bq_verify.proofs.EdgeLemmas.{start_inside}
use Rattle.bq_import.proofs.SearchLemmas.{first_wrong}
use Rattle.bq_import.proofs.linked.check.Goals as goal

pub loop-slot-preserved : goal.loop-slot-preserved
loop-slot-preserved c = below_more _ _ c.loop-slot.invariant c.in_ok-slot_leads_well.ensures.ok

pub returns-in_err-slot_leads_well-clause-err : goal.returns-in_err-slot_leads_well-clause-err
returns-in_err-slot_leads_well-clause-err c =
    let p = err_from_is_err_and c.from_residual.result c.from_residual.ensures.1 in
    rw (p.1, p.2) (first_wrong c.args.slots.now c.loop-slot.slot c.in_err-slot_leads_well.field-0.0
    c.loop-slot.invariant c.in_err-slot_leads_well.ensures.err)

pub returns-clause-ok : goal.returns-clause-ok
returns-clause-ok c = record {
  good = c.requires.good;
  gaps = c.requires.gaps;
  short = c.requires.short;
  leads = λ slot insn here.
      let inside = start_inside c.args.slots.now slot (record { insn = insn; here = here }) in
      c.loop-slot.invariant slot (omega (arith, inside)) insn here;
}
