use Rattle.bq_policy_run.proofs.FieldLemmas.{none_around_dot, none_by_dot, none_then}
use Rattle.bq_policy_run.proofs.fields.field_by.Goals as goal

pub returns-in-None-clause-none : goal.returns-in-None-clause-none
returns-in-None-clause-none c =
    none_then c.by_name.result c.by_name.ensures.none
    (λ none field small. none_by_dot c.args.hook c.args.name.now c.in-None.ensures none field)

pub returns-in-Some-clause-none : goal.returns-in-Some-clause-none
returns-in-Some-clause-none c =
    none_then c.by_number.result c.by_number.ensures.none
    (none_around_dot c.args.hook c.args.name.now c.in-Some.stem.now c.in-Some.digits.now c.in-Some.ensures)
