use Rattle.bq_policy_file.proofs.LawLemmas as Law
use Rattle.bq_policy_file.proofs.laws.listing_is_read_back.Goals as goal

pub returns : goal.returns
returns c = Law.listing_is_read_back
