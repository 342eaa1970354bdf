use Rattle.std.proofs.Common.{rules, ◌≡◌, ◌∷◌, true, false, string_bytes}
use Rattle.bq_console.specs.Words.{is_joined}
use Rattle.bq_console.proofs.JoinedLemmas.{joined_alone, joined_pair}
use Rattle.bq_console.proofs.joined.value_after.Goals as goal

pub returns-then-is_joined-clause-value : goal.returns-then-is_joined-clause-value
returns-then-is_joined-clause-value c =
    let split : c.args.more.now ≡ c.in-Some.value.now ∷ c.in-Some.behind.now = search rules in
    let is : is_joined c.args.has_ended c.args.word.now (string_bytes c.in-Some.value.now) ≡ true = search rules in
    rw split (joined_pair _ _ _ _ is)

pub returns-else-is_joined-clause-alone : goal.returns-else-is_joined-clause-alone
returns-else-is_joined-clause-alone c = λ none.
    let split : c.args.more.now ≡ c.in-Some.value.now ∷ c.in-Some.behind.now = search rules in
    let is : is_joined c.args.has_ended c.args.word.now (string_bytes c.in-Some.value.now) ≡ false = search rules in
    rw split (joined_alone _ _ _ _ is)
