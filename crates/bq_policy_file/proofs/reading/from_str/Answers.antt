use Rattle.std.proofs.Common.{sym, subst}
use Rattle.std.specs.Prelude.{IfErr}
use Rattle.std.proofs.lemmas.Result.{err_from_is_err_and}
use Rattle.bq_policy_file.specs.Files.{HasHead, IsTextFault, IsWholeText}
use Rattle.bq_policy_file.proofs.HeadLemmas.{bad_program, uncombinable_is_fault}
use Rattle.bq_policy_file.proofs.reading.from_str.Goals as goal

pub returns-in-Ok-clause-policy : goal.returns-in-Ok-clause-policy
returns-in-Ok-clause-policy c = record {
  text = c.utf8.text;
  stated = c.in_ok-stated.stated;
  head = c.in_ok-stated.ensures.head;
  combined = c.in-Ok.ensures.ok;
  assembles = c.in_ok-insns.ensures.assembles;
  lines = c.in_ok-lines.ensures;
}

pub returns-in_err-insns-clause-fault : goal.returns-in_err-insns-clause-fault
returns-in_err-insns-clause-fault c =
    let text = c.args.text.now in
    let given = c.args.given.now in
    let p = err_from_is_err_and c.from_residual-in_err-insns.result c.from_residual-in_err-insns.ensures.1 in
    let head : HasHead text c.in_ok-stated.stated = record { text = c.utf8.text; states = c.in_ok-stated.ensures.head } in
    let is = bad_program text given c.in_ok-stated.stated c.in_err-insns.field-0.0 head c.in_err-insns.ensures.fault in
    subst (λ r. IfErr r (IsTextFault text given)) (sym p.1) (subst (IsTextFault text given) (sym p.2) is)

pub returns-clause-fault : goal.returns-clause-fault
returns-clause-fault c =
    let whole : IsWholeText c.args.text.now c.in_ok-stated.stated =
    record {
      head = record { text = c.utf8.text; states = c.in_ok-stated.ensures.head };
      insns = c.in_ok-insns.insns.items;
      assembles = c.in_ok-insns.ensures.assembles;
    } in
    uncombinable_is_fault c.args.text.now c.args.given.now c.in_ok-stated.stated c.in-Err.fault whole c.in-Err.ensures.err
