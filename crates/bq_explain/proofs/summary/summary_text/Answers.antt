use Rattle.std.proofs.Common.{◌≡◌, ◌++◌}
use Rattle.std.specs.Prelude.{codes, string_bytes}
use Rattle.std.specs.Fmt.{decimal}
use Rattle.std.proofs.lemmas.Result.{IfOk-weaker}
use Rattle.bq_insn.specs.Appending.{StartsWith}
use Rattle.bq_explain.specs.Beginnings.{accepted_beginning}
use Rattle.bq_explain.proofs.BeginningLemmas.{goes_on}
use Rattle.bq_explain.proofs.summary.summary_text.Goals as goal

pub returns : goal.returns
returns c =
    let behind =
    codes ", helpers "
    ++ (string_bytes c.in_ok-helpers.helpers
    ++ (codes ", counters "
    ++ (decimal c.args.summary.now.counters ++ (codes ", slots " ++ (decimal c.args.summary.now.slots ++ codes "\n"))))) in
    IfOk-weaker c.format.result (λ text. string_bytes text ≡ string_bytes c.in_ok-words.words ++ behind)
    (λ text. StartsWith (accepted_beginning c.args.policy.now c.args.budget) (string_bytes text))
    (λ text is. goes_on (string_bytes text) (string_bytes c.in_ok-words.words) _ behind is c.in_ok-words.ensures)
    c.format.ensures.ok
