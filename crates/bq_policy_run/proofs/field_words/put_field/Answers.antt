use Rattle.bq_policy_run.specs.Naming.{SetsField}
use Rattle.bq_console.proofs.GivenLemmas.{none_given}
use Rattle.bq_policy_run.proofs.RefusalLemmas.{no_field_named, no_field_put, no_field_value}
use Rattle.bq_policy_run.proofs.field_words.put_field.Goals as goal

pub returns-in_default-field_word-clause-refused : goal.returns-in_default-field_word-clause-refused
returns-in_default-field_word-clause-refused c =
    none_given (SetsField c.args.hook c.args.version c.args.part.now c.args.context.now) c.wrong_field.result
    (no_field_value c.args.hook c.args.version c.args.part.now c.args.context.now c.in-Some.name.now c.in-Some.text.now
    c.in-Some.ensures c.in_default-field_word.ensures.none)

pub returns-in_default-field_named-clause-refused : goal.returns-in_default-field_named-clause-refused
returns-in_default-field_named-clause-refused c =
    none_given (SetsField c.args.hook c.args.version c.args.part.now c.args.context.now) c.unknown.result
    (no_field_named c.args.hook c.args.version c.args.part.now c.args.context.now c.in-Some.name.now c.in-Some.text.now
    c.in-Some.ensures c.in_default-field_named.ensures.none)

pub returns-then-not-put-clause-refused : goal.returns-then-not-put-clause-refused
returns-then-not-put-clause-refused c =
    none_given (SetsField c.args.hook c.args.version c.args.part.now c.args.context.now) c.unfit.result
    (no_field_put c.args.hook c.args.version c.args.part.now c.args.context.now c.in-Some.name.now c.in-Some.text.now
    c.in-Some-field_word.word c.in-Some-field_named.field c.in-Some.ensures c.in-Some-field_word.ensures.some
    c.in-Some-field_named.ensures.some c.if-not-put.ensures.none)
