use Rattle.bq_asm.proofs.LawLemmas as laws
use Rattle.bq_asm.proofs.laws.one_name.Goals as goal

pub returns : goal.returns
returns c = laws.one_name
