use Rattle.std.proofs.lemmas.Result.{on_ok_weaker}
use Rattle.bq_simulate.proofs.simulation.record_pull.Goals as goal

pub returns-clause-agrees : goal.returns-clause-agrees
returns-clause-agrees c =
    on_ok_weaker c.switch.result (λ stays h. stays (c.in_ok-move_pulled.ensures.agrees h)) c.switch.ensures.agrees
