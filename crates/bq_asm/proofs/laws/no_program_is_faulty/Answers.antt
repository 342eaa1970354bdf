use Rattle.bq_asm.proofs.LawLemmas as laws
use Rattle.bq_asm.proofs.laws.no_program_is_faulty.Goals as goal

pub returns : goal.returns
returns c = laws.no_program_is_faulty
