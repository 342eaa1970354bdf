use Rattle.std.proofs.lemmas.Result.{on_ok_weaker}
use Rattle.bq_workload.specs.declared.roster.Roster.{Roster}
use Rattle.bq_workload.proofs.roster.Roster.leave.Goals as goal
use Rattle.bq_workload.proofs.RosterAgreesLemmas.{shrunk-agreed}

pub returns-clause-agrees : goal.returns-clause-agrees
returns-clause-agrees c =
    let old : Roster = c.args.self.now in
    let mid : Roster = c.shrink.new.self in
    let less = c.in_ok-shrink.ensures in
    on_ok_weaker c.switch.result (λ stays h. stays (shrunk-agreed c.args.processor old mid less.accounts less.event_queue less.periods h))
    c.switch.ensures.agrees
