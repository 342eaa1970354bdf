use Rattle.bq_asm.proofs.LawLemmas as laws
use Rattle.bq_asm.proofs.laws.each_text_is_judged.Goals as goal

pub returns : goal.returns
returns c = laws.each_text_is_judged
