use Rattle.std.specs.Prelude.{codes}
use Rattle.bq_policy_run.specs.declared.permitted.Permission.TheVariants.{Permitted, NotPermitted}
use Rattle.bq_policy_run.proofs.JudgeLemmas.{not_permitted_is_left, text_begins_with_word}
use Rattle.bq_policy_run.proofs.word_text.preempt_text.Goals as goal

pub returns-in-Permitted : goal.returns-in-Permitted
returns-in-Permitted c = λ other. text_begins_with_word c.args.word Permitted (codes "0 stays, 1 gives way") c.in-Permitted.is

pub returns-in-NotPermitted : goal.returns-in-NotPermitted
returns-in-NotPermitted c = λ other.
    text_begins_with_word c.args.word NotPermitted (codes "an answer is 0 or 1")
    (not_permitted_is_left c.args.word c.in-NotPermitted.is other)
