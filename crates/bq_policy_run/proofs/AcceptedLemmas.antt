-- What the verifier answers of a policy's program, it answers of the policy.
use Rattle.bq_verify.specs.Accepted.{Accepted}
use Rattle.bq_policy_file.specs.declared.policy_source.PolicySource.{PolicySource}
use Rattle.bq_explain.specs.Verdicts.{IsAcceptedPolicy}
use Rattle.bq_policy_check.specs.declared.answered.Answered.{Answered}
use Rattle.bq_policy_check.specs.declared.words.RunWords.{RunWords}
use Rattle.bq_policy_run.specs.Running.{IsProgramOf, RunsAccepted, RunsProgram}

-- the run of a policy's program is that of the policy
pub runs_accepted : (w : RunWords) (p : PolicySource) (program : Accepted) (answered_as : Answered)
    → IsProgramOf p program → IsAcceptedPolicy p program.budget → RunsProgram w program answered_as
    → RunsAccepted w p answered_as
runs_accepted w p program answered_as of accepted runs = record { program = program; of = of; accepted = accepted; runs = runs }
