-- Tables of commands and their options, as clap's words on command lines have them.
use Rattle.std.specs.Prelude.{true, Some, List, [], ◌∷◌, ◌++◌, codes, flat_map, map}
use Rattle.std.specs.Borrow.{Bor}
use Rattle.clap.specs.Simple.{new_shape, on_top}
use Rattle.clap.specs.Words.{App, Rule, Shape, Text, new_app, new_rule, with_subcommand}
use Rattle.clap.specs.declared.builder.action.ArgAction.TheVariants.{Append, SetTrue}
use Rattle.bq_console.specs.declared.tables.Given.{Given}
use Rattle.bq_console.specs.declared.tables.Given.TheVariants.{Alone, Several, Once, Needed, Often, Flag}
use Rattle.bq_console.specs.declared.tables.OptionText.{OptionText}
use Rattle.bq_console.specs.declared.tables.CommandText.{CommandText}

-- a word without a name
abbrev pub word_rule : Text → Rule
word_rule name = record (new_rule name) { value_names = 1 }

-- several words without a name
abbrev pub words_rule : Text → Rule
words_rule name = record (word_rule name) { action = Some Append }

-- an option that takes one value
abbrev pub option_rule : Text → Rule
option_rule name = record (new_rule name) { long = Some name; value_names = 1 }

-- an option that takes one value, and may not be left out
abbrev pub needed_rule : Text → Rule
needed_rule name = record (option_rule name) { required = true }

-- an option that may be given several times, each time with one value
abbrev pub often_rule : Text → Rule
often_rule name = record (option_rule name) { action = Some Append }

-- an option without a value
abbrev pub flag_rule : Text → Rule
flag_rule name = record (new_rule name) { long = Some name; action = Some SetTrue }

-- an option by how it is given
abbrev pub rule_given : Text → Given → Rule
rule_given name (Alone value) = word_rule name
rule_given name (Several value) = words_rule name
rule_given name (Once value) = option_rule name
rule_given name (Needed value) = needed_rule name
rule_given name (Often value) = often_rule name
rule_given name Flag = flag_rule name

-- an option of a table
abbrev pub option_of : OptionText → Rule
option_of o = rule_given o.name.now o.given

-- the options of these tables, one table after another
abbrev pub options_of : List (Bor (List OptionText)) → List Rule
options_of tables = flat_map (λ table. map option_of table.now) tables

-- a command with these options
abbrev pub command : Text → List Rule → Shape
command name rules = record (new_shape name) { rules = rules }

-- a command of a table
abbrev pub shape_of_command : CommandText → Shape
shape_of_command c = command c.name.now (options_of c.options.now)

-- the program without commands: it has a version, words come without its name, and one of them has to be a command
abbrev pub empty_program : App
empty_program = on_top (λ s. record s { no_binary_name = true; has_version = true; subcommand_required = true; arg_required_else_help = true }) (new_app (codes "bqsim"))

-- a program with these commands more, one after another
abbrev pub with_commands : App → List Shape → App
with_commands a [] = a
with_commands a (c ∷ more) = with_commands (with_subcommand a c) more

-- a command with these options more
abbrev pub with_rules : App → List Rule → App
with_rules a rules = on_top (λ s. record s { rules = s.rules ++ rules }) a
