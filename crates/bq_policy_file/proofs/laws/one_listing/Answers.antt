use Rattle.bq_policy_file.proofs.OneAnswerLemmas as answer
use Rattle.bq_policy_file.proofs.laws.one_listing.Goals as goal

pub returns : goal.returns
returns c = answer.one_listing
