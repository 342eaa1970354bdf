use Rattle.bq_load.proofs.LoadLemmas.{straight_bytes}
use Rattle.bq_load.proofs.reader.ImageReader.finish_load.Goals as goal

pub returns-in-Some-clause-accepts : goal.returns-in-Some-clause-accepts
returns-in-Some-clause-accepts c =
    λ bytes h fits straight. absurd (straight_bytes bytes c.in-Some.fault fits straight (c.in-Some.ensures.fault bytes h))
