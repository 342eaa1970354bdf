use Rattle.bq_insn.proofs.LengthLemmas as lengths
use Rattle.bq_insn.proofs.laws.no_program_is_refused.Goals as goal

pub returns : goal.returns
returns c = lengths.no_program_is_refused
