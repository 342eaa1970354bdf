use Rattle.std.proofs.Common.{◌≡◌, ◌≢◌, refl, rules, sym}
use Rattle.bq_states.specs.declared.abstract_state.ValueKind.TheVariants.{Number}
use Rattle.bq_states.proofs.LearnLemmas.{found_at}
use Rattle.bq_states.proofs.WordLemmas.{number_within}
use Rattle.bq_transfer.proofs.moves.number.Goals as goal

pub returns-clause-holds : goal.returns-clause-holds
returns-clause-holds c = λ f s contains.
    let found = found_at f c.args.state.now s c.args.register c.in-Some.word c.in-Some.ensures contains in
    let plain : c.in-Some.word.kind ≡ Number = search rules in
    (found.0, found.1, number_within f.shapes c.in-Some.word found.0 plain found.2)

pub returns-then-ne-clause-pointer : goal.returns-then-ne-clause-pointer
returns-then-ne-clause-pointer c =
    let other : c.in-Some.word.kind ≢ Number = search rules in
    (λ e. (c.in-Some.word, sym c.in-Some.ensures, other), λ h. refl)
