use Rattle.std.proofs.Common.{◌≡◌, rules, List, Some}
use Rattle.std.specs.Prelude.{option_map, codes}
use Rattle.std.proofs.lemmas.Result.{err_from_is_err_and}
use Rattle.clap.specs.Words.{Row, Text, found_of, rows_of, subcommand_name_of, subcommand_rows_of}
use Rattle.clap.specs.declared.parser.matches.ArgMatches.TheViews.{out-ArgMatches, out-SubCommand}
use Rattle.std.specs.Box.{box_value}
use Rattle.bq_cli.specs.Commands.{command_name}
use Rattle.bq_cli.proofs.CommandLemmas.{only_par_has_its_name, name_and_rows_of_entry}
use Rattle.bq_cli.proofs.command.command_in.Goals as goal

pub returns-in_err-par_words-clause-taken : goal.returns-in_err-par_words-clause-taken
returns-in_err-par_words-clause-taken c =
    let p = err_from_is_err_and c.from_residual-in_err-par_words.result c.from_residual-in_err-par_words.ensures.1 in
    let m = c.args.matches.now in
    let rows = rows_of (found_of c.in-Some-subcommand_matches-5.matches.now) in
    let named : subcommand_name_of m ≡ Some (codes "par") = search rules in
    let listed : option_map (λ (q : Text × List Row). q.1) (subcommand_rows_of m) ≡ Some rows = search rules in
    rw (p.1, p.2) (λ command given.
    let both =
    name_and_rows_of_entry (out-ArgMatches m).subcommand (λ b. (out-SubCommand (box_value b)).name.now)
    (λ b. rows_of (found_of (out-SubCommand (box_value b)).matches)) (codes "par") (command_name command) given.0 rows
    named listed given.1 in
    only_par_has_its_name given.0 rows command _ both.0 both.1 given.2 c.in_err-par_words.ensures.taken)
