use Rattle.std.proofs.Common.{◌≡◌, List, ℕ, subst, rules}
use Rattle.std.specs.Prelude.{IfErr}
use Rattle.bq_policy_file.specs.Files.{IsTextFault}
use Rattle.bq_policy_file.proofs.reading.from_text.Goals as goal

pub returns-in-Ok-clause-fault : goal.returns-in-Ok-clause-fault
returns-in-Ok-clause-fault c =
    let same : c.in-Ok.text.now ≡ c.args.bytes.now = search rules in
    subst (λ (text : List ℕ). IfErr c.from_str.result (IsTextFault text c.args.given.now)) same c.from_str.ensures.fault
