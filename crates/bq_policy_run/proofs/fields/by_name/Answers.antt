use Rattle.bq_policy_run.specs.Fields.{field_of_row}
use Rattle.bq_policy_run.proofs.FieldLemmas.{none_by_name, none_then}
use Rattle.bq_policy_run.proofs.fields.by_name.Goals as goal

pub returns-clause-none : goal.returns-clause-none
returns-clause-none c =
    none_then c.single.result c.single.ensures.none
    (none_by_name c.args.hook c.args.name.now (field_of_row c.in_ok-row.row) c.in_ok-row.ensures.some)
