use Rattle.std.proofs.Common.{inl, inr, refl}
use Rattle.std.proofs.lemmas.Result.{IfOk-weaker}
use Rattle.bq_policy_run.specs.Running.{RunsFile, RunsTo}
use Rattle.bq_policy_check.specs.Given.{GivesHead}
use Rattle.bq_console.proofs.GivenLemmas.{gives_none}
use Rattle.bq_policy_run.proofs.running.run.Goals as goal

pub returns-in-Ok : goal.returns-in-Ok
returns-in-Ok g c =
    IfOk-weaker c.run_file.result (RunsFile c.args.words.now c.args.bytes.now c.in-Ok.head) (RunsTo c.args.words.now c.args.bytes.now)
    (λ answer runs. inr (c.in-Ok.head, c.in-Ok.ensures.gives, runs)) c.run_file.ensures

pub returns-in-Err-Words : goal.returns-in-Err-Words
returns-in-Err-Words g c =
    inl ((_, refl), gives_none (GivesHead c.args.words.now.policy) _ _ c.in-Err-Words.field-0-is c.in-Err-Words.ensures.none)
