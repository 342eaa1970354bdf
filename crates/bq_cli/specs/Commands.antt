-- The command that words ask for.
use Rattle.std.specs.Prelude.{◌≡◌, List, Option, Some, codes}
use Rattle.clap.specs.Words.{Row, Text, subcommand_of}
use Rattle.bq_cli.specs.BqsimApp.{bqsim_app}
use Rattle.bq_cli.specs.Words.{AreAsmWords, AreCheckWords, AreDisWords, ArePolicyWords, AreReplayWords, AreRunWords, AreSimulateWords, AreTimelineWords, AreParWords}
use Rattle.bq_cli.specs.declared.command.Command.{Command}
use Rattle.bq_cli.specs.declared.command.Command.TheVariants.{Asm, Check, Dis, Import, Par, Replay, Run, Simulate, Timeline}

-- the name of a command
abbrev pub command_name : Command → Text
command_name (Asm w) = codes "asm"
command_name (Check w) = codes "check"
command_name (Dis w) = codes "dis"
command_name (Run w) = codes "run"
command_name (Import w) = codes "import"
command_name (Par p) = codes "par"
command_name (Replay w) = codes "replay"
command_name (Timeline w) = codes "timeline"
command_name (Simulate w) = codes "simulate"

-- the command's values are those that were found for its options
abbrev pub HasValues : List Row → Command → Type 0
HasValues rows (Asm w) = AreAsmWords rows w
HasValues rows (Check w) = AreCheckWords rows w
HasValues rows (Dis w) = AreDisWords rows w
HasValues rows (Run w) = AreRunWords rows w
HasValues rows (Import w) = ArePolicyWords rows w
HasValues rows (Par p) = AreParWords rows p
HasValues rows (Replay w) = AreReplayWords rows w
HasValues rows (Timeline w) = AreTimelineWords rows w
HasValues rows (Simulate w) = AreSimulateWords rows w

-- the command and its values are those that were found
abbrev pub IsCommandIn : Option (Text × List Row) → Command → Type 0
IsCommandIn found c = (rows : List Row) × (found ≡ Some (command_name c, rows)) × HasValues rows c

-- the command and its values are those that clap finds in the words
abbrev pub IsCommand : List Text → Command → Type 0
IsCommand words c = IsCommandIn (subcommand_of bqsim_app words) c
