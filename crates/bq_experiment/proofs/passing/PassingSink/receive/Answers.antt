use Rattle.bq_experiment.proofs.PassingLemmas.{OnOk-passed}
use Rattle.bq_experiment.proofs.passing.PassingSink.receive.Goals as goal

pub returns : goal.returns
returns g c =
    OnOk-passed g.S.Sink.takes g.S.Texts.pending g.S.Texts.clears _ c.receive.new.self _ _ _ _ _ c.pass_on.result
    c.in_ok-receive.ensures c.pass_on.ensures
