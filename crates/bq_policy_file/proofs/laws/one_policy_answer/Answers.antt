use Rattle.bq_policy_file.proofs.OneFileLemmas as file
use Rattle.bq_policy_file.proofs.laws.one_policy_answer.Goals as goal

pub returns : goal.returns
returns c = file.one_policy_answer
