use Rattle.std.proofs.lemmas.Result.{on_ok_weaker}
use Rattle.bq_workload.specs.declared.roster.Roster.{Roster}
use Rattle.bq_workload.proofs.roster.Roster.enter.Goals as goal
use Rattle.bq_workload.proofs.RosterAgreesLemmas.{grown-agreed}

pub returns-clause-agrees : goal.returns-clause-agrees
returns-clause-agrees c =
    let old : Roster = c.args.self.now in
    let mid : Roster = c.grow.new.self in
    let more = c.in_ok-grow.ensures in
    on_ok_weaker c.switch.result
    (λ stays h. stays (grown-agreed c.args.processor c.args.count old mid more.accounts more.event_queue more.periods h))
    c.switch.ensures.agrees
