use Rattle.std.specs.Prelude.{string_bytes}
use Rattle.std.proofs.lemmas.Result.{IfOk-weaker}
use Rattle.bq_policy_file.specs.Listed.{IsListed}
use Rattle.bq_policy_file.specs.ReadBack.{IsFileOf}
use Rattle.bq_policy_file.proofs.LawLemmas.{listing_is_read_back}
use Rattle.bq_policy_file.proofs.policy_listing.policy_text.Goals as goal

pub returns-clause-file : goal.returns-clause-file
returns-clause-file c =
    let policy = c.args.policy.now in
    IfOk-weaker c.marked.result (λ text. IsListed policy c.args.has_slots (string_bytes text)) (λ text. IsFileOf policy (string_bytes text))
    (λ text listed. listing_is_read_back policy c.args.has_slots (string_bytes text) c.requires listed) c.marked.ensures
