use Rattle.bq_insn.proofs.ApartLemmas as apart
use Rattle.bq_insn.proofs.laws.no_program_is_faulty.Goals as goal

pub returns : goal.returns
returns c = apart.no_program_is_faulty
