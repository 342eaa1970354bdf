use Rattle.std.proofs.Common.{◌∙◌, ap, map, refl, sym}
use Rattle.std.proofs.lemmas.Result.{IfOk-weaker}
use Rattle.clap.specs.Words.{fault_of, is_simple, is_simple_and_free, subcommand_of}
use Rattle.bq_console.proofs.TableLemmas.{taken-alike}
use Rattle.bq_cli.proofs.command.found.Goals as goal

-- the program is a simple one
pub returns-clause-ok : goal.returns-clause-ok
returns-clause-ok c = IfOk-weaker c.found_in.result _ _ (λ m found.
    (found (ap is_simple c.in_ok-command.ensures ∙ refl)).1
    ∙ ap (λ a. subcommand_of a (map (λ w. w.now) c.args.words.now)) c.in_ok-command.ensures) c.found_in.ensures.matches

pub returns-clause-faultless : goal.returns-clause-faultless
returns-clause-faultless c = IfOk-weaker c.found_in.result _ _ (λ m none.
    ap (λ a. fault_of a (map (λ w. w.now) c.args.words.now)) (sym c.in_ok-command.ensures) ∙ none)
    (c.found_in.ensures.faultless (ap is_simple_and_free c.in_ok-command.ensures ∙ refl))

pub returns-clause-taken : goal.returns-clause-taken
returns-clause-taken c = taken-alike _ _ _ _ c.in_ok-command.ensures c.found_in.ensures.taken
