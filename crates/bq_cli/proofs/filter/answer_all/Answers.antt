use Rattle.std.proofs.lemmas.Result.{IfOk-weaker, on_err_weaker}
use Rattle.bq_streams.proofs.ResultLemmas.{OnErr-anyhow}
use Rattle.bq_cli.proofs.AnswerLemmas.{broken_before, answered, broken_in}
use Rattle.bq_cli.specs.Filtering.{FilterWrites}
use Rattle.bq_cli.proofs.filter.answer_all.Goals as goal

pub returns-in_err-whole-clause-part : goal.returns-in_err-whole-clause-part
returns-in_err-whole-clause-part g c = OnErr-anyhow _ (broken_before (FilterWrites c.args.filter.now) _ _ _ c.in_err-whole.ensures.part)

pub returns-in_err-answer-clause-part : goal.returns-in_err-answer-clause-part
returns-in_err-answer-clause-part g c =
    OnErr-anyhow _ (broken_before (FilterWrites c.args.filter.now) _ _ _ (c.in_ok-whole.whole.items, c.in_ok-whole.ensures.all.0))

pub returns-clause-ok : goal.returns-clause-ok
returns-clause-ok g c =
    IfOk-weaker c.write_answer.result _ _
    (λ ended wrote.
    answered (FilterWrites c.args.filter.now) _ _ _ _ _ _ _ _ ended c.in_ok-whole.ensures.all c.as_slice.ensures.value
    c.in_ok-answer.ensures wrote) c.write_answer.ensures.ok

pub returns-clause-part : goal.returns-clause-part
returns-clause-part g c =
    on_err_weaker c.write_answer.result
    (λ wrote.
    broken_in (FilterWrites c.args.filter.now) _ _ _ _ _ _ _ _ c.in_ok-whole.ensures.all c.as_slice.ensures.value
    c.in_ok-answer.ensures wrote) c.write_answer.ensures.part
