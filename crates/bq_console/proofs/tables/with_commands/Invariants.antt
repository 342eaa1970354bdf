use Rattle.std.proofs.Common.{◌≡◌, drop, map}
use Rattle.clap.specs.Words.{app_of}
use Rattle.bq_console.specs.Tables.{shape_of_command, with_commands}
use Rattle.bq_console.proofs.tables.with_commands.Given as goal

-- the commands that are left lead where all lead
abbrev pub invariant-commands : goal.invariant-commands
invariant-commands l =
    with_commands (app_of l.program) (map shape_of_command (drop l.text-index l.texts))
    ≡ with_commands (app_of l.initial.program) (map shape_of_command l.texts)
