use Rattle.bq_policy_run.proofs.FieldLemmas.{context_small, none_outside, none_within}
use Rattle.std.proofs.Common.{arith}
use Rattle.bq_policy_run.proofs.fields.field_named.Goals as goal

pub returns-in_err-field-clause-none : goal.returns-in_err-field-clause-none
returns-in_err-field-clause-none c =
    rw c.from_residual.ensures (none_within c.args.hook c.args.version c.args.name.now c.in_err-field.ensures.none)

pub returns-in_err-end-clause-none : goal.returns-in_err-end-clause-none
returns-in_err-end-clause-none c =
    let small = context_small c.args.hook c.args.version in
    rw c.from_residual-in_err-end.ensures
    (none_outside c.args.hook c.args.version c.args.name.now c.in_ok-field.field c.in_ok-field.ensures.some
    (omega (arith, c.in_err-end.ensures)))

pub returns-then-end-context_length-clause-none : goal.returns-then-end-context_length-clause-none
returns-then-end-context_length-clause-none c =
    none_outside c.args.hook c.args.version c.args.name.now c.in_ok-field.field c.in_ok-field.ensures.some
    (omega (arith, c.in_ok-end.ensures))
