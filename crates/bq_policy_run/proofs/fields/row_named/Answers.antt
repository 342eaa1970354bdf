use Rattle.bq_policy_run.proofs.FieldLemmas.{none_row, some_row}
use Rattle.bq_policy_run.proofs.fields.row_named.Goals as goal

pub returns : goal.returns
returns c = record {
  some = some_row c.rows.result.now c.args.name.now _ _ c.rows.ensures c.first_named.ensures;
  none = none_row c.rows.result.now c.args.name.now _ _ c.rows.ensures c.first_named.ensures;
}
