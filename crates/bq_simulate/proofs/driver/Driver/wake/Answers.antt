use Rattle.std.proofs.lemmas.Result.{IfOk-weaker}
use Rattle.bq_simulate.proofs.DriveLemmas.{Places-of}
use Rattle.bq_simulate.proofs.driver.Driver.wake.Goals as goal

pub returns-clause-does : goal.returns-clause-does
returns-clause-does g c =
    IfOk-weaker c.place.result _ _
    (λ to h. Places-of g.S.Sink.takes _ _ _ _ _ _ _ _ _ to _ _ c.in_ok-perform.ensures.does h.1 h.2) c.place.ensures.does
