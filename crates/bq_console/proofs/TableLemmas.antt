-- One option or command more of a table.
use Rattle.std.proofs.Common.{◌≡◌, ℕ, suc, ◌+◌, ◌<◌, List, [], ◌∷◌, ◌++◌, Result, true, length, drop, get_or, add-one, ap, append_assoc, map, refl, subst}
use Rattle.std.proofs.Math.Seq.{drop-cons}
use Rattle.std.specs.Prelude.{IfErr}
use Rattle.std.specs.Borrow.{Bor}
use Rattle.clap.specs.Simple.{on_top}
use Rattle.clap.specs.Words.{App, Rule, Text, takes, with_rule, with_subcommand}
use Rattle.clap.specs.declared.parser.matches.ArgMatches.{ArgMatches}
use Rattle.bq_console.specs.declared.fault.WordsFault.{WordsFault}
use Rattle.bq_console.specs.declared.fault.WordsFault.TheVariants.{OutOfMemory}
use Rattle.bq_console.specs.declared.tables.OptionText.{OptionText}
use Rattle.bq_console.specs.declared.tables.CommandText.{CommandText}
use Rattle.bq_console.specs.Tables.{shape_of_command, option_of, options_of, with_commands, with_rules}

-- options that come in two parts
with_rules-append : (a : App) (some more : List Rule) → with_rules (with_rules a some) more ≡ with_rules a (some ++ more)
with_rules-append a some more = ap (λ rules. on_top (λ s. record s { rules = rules }) a) (append_assoc a.top.rules some more)

-- what the options from a place on make of a command, those behind it make of the command with the option there
pub options-next : (a b : App) (xs : List OptionText) (i : ℕ) (d : OptionText) → i < length xs → b ≡ with_rule a (option_of (get_or xs i d))
    → with_rules b (map option_of (drop (i + 1) xs)) ≡ with_rules a (map option_of (drop i xs))
options-next a b xs i d h e =
    rw (e, add-one, drop-cons xs i d) (with_rules-append a (option_of (get_or xs i d) ∷ []) (map option_of (drop (suc i) xs)))

-- what the tables from a place on make of a command, those behind it make of the command with the options of the table there
pub tables-next : (a b : App) (xs : List (Bor (List OptionText))) (i : ℕ) (d : Bor (List OptionText))
    → i < length xs → b ≡ with_rules a (map option_of (get_or xs i d).now)
    → with_rules b (options_of (drop (i + 1) xs)) ≡ with_rules a (options_of (drop i xs))
tables-next a b xs i d h e =
    rw (e, add-one, drop-cons xs i d) (with_rules-append a (map option_of (get_or xs i d).now) (options_of (drop (suc i) xs)))

-- what the commands from a place on make of a program, those behind it make of the program with the command there
pub commands-next : (a b : App) (xs : List CommandText) (i : ℕ) (d : CommandText)
    → i < length xs → b ≡ with_subcommand a (shape_of_command (get_or xs i d))
    → with_commands b (map shape_of_command (drop (i + 1) xs)) ≡ with_commands a (map shape_of_command (drop i xs))
commands-next a b xs i d h e = rw (e, add-one, drop-cons xs i d) refl

-- a fault that is out of memory if one command takes the words is so for the same command under another name
pub taken-alike : (a b : App) (words : List Text) (r : Result ArgMatches WordsFault) → a ≡ b
    → IfErr r (λ e. takes a words ≡ true → e ≡ OutOfMemory) → IfErr r (λ e. takes b words ≡ true → e ≡ OutOfMemory)
taken-alike a b words r same reported = subst (λ x. IfErr r (λ e. takes x words ≡ true → e ≡ OutOfMemory)) same reported
