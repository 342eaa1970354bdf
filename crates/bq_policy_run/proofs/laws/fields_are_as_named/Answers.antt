use Rattle.bq_policy_run.proofs.FieldsLawLemmas.{fields_are_as_named}
use Rattle.bq_policy_run.proofs.laws.fields_are_as_named.Goals as goal

pub returns : goal.returns
returns c = fields_are_as_named
