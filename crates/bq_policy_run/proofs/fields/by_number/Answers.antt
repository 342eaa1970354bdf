use Rattle.bq_policy_run.specs.Fields.{field_of_row}
use Rattle.bq_policy_run.proofs.FieldLemmas.{none_by_digits, none_by_number, none_then}
use Rattle.bq_policy_run.proofs.fields.by_number.Goals as goal

pub returns-in_err-number-clause-none : goal.returns-in_err-number-clause-none
returns-in_err-number-clause-none c =
    rw c.from_residual-in_err-number.ensures
    (λ field small. none_by_digits c.args.hook c.args.stem.now c.args.digits.now c.in_err-number.ensures.none field)

pub returns-clause-none : goal.returns-clause-none
returns-clause-none c =
    none_then c.numbered.result c.numbered.ensures.none
    (none_by_number c.args.hook c.args.stem.now c.args.digits.now (field_of_row c.in_ok-row.row) c.in_ok-number.number
    c.in_ok-row.ensures.some c.in_ok-number.ensures.some)
