use Rattle.std.proofs.Common.{◌∙◌, ap}
use Rattle.clap.specs.Words.{app_of, with_subcommand}
use Rattle.bq_console.proofs.TableLemmas.{commands-next}
use Rattle.bq_console.proofs.tables.with_commands.Goals as goal

pub commands-preserved : goal.commands-preserved
commands-preserved c =
    commands-next _ _ c.args.texts.now c.commands.text-index _ c.commands-test.true
    (c.in_ok-program.ensures.shape c.in_ok-command.ensures.local
    ∙ ap (λ s. with_subcommand (app_of c.commands.program) s) c.in_ok-command.ensures.shape)
    ∙ c.commands.invariant
