use Rattle.std.proofs.Common.{sym, subst}
use Rattle.std.proofs.lemmas.Result.{IfErr-weaker}
use Rattle.bq_cli.proofs.CommandLemmas.{IfOk-anyhow}
use Rattle.bq_cli.specs.Commands.{IsCommandIn}
use Rattle.bq_cli.proofs.command.job.Goals as goal

pub returns-clause-faultless : goal.returns-clause-faultless
returns-clause-faultless c = IfOk-anyhow c.command_in.result c.in_ok-matches.ensures.faultless

pub returns-clause-taken : goal.returns-clause-taken
returns-clause-taken c =
    IfErr-weaker c.command_in.result _ _
    (λ e only taken command given. only command (subst (λ f. IsCommandIn f command) (sym c.in_ok-matches.ensures.ok) given))
    c.command_in.ensures.taken
