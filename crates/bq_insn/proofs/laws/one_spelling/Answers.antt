use Rattle.bq_insn.proofs.UniqueLemmas as unique
use Rattle.bq_insn.proofs.laws.one_spelling.Goals as goal

pub returns : goal.returns
returns c = unique.one_spelling
