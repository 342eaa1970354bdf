use Rattle.bq_load.proofs.LawLemmas as laws
use Rattle.bq_load.proofs.laws.no_image_is_faulty.Goals as goal

pub returns : goal.returns
returns c = laws.no_image_is_faulty
