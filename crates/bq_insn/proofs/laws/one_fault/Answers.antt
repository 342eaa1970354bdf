use Rattle.bq_insn.proofs.OneFaultLemmas as one
use Rattle.bq_insn.proofs.laws.one_fault.Goals as goal

pub returns : goal.returns
returns c = one.one_fault
