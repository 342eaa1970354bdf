use Rattle.bq_asm.proofs.AssembledLemmas.{assembles_well_formed}
use Rattle.bq_asm.proofs.laws.programs_are_well_formed.Goals as goal

pub returns : goal.returns
returns c = assembles_well_formed
