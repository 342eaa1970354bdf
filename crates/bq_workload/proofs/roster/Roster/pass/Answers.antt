use Rattle.std.proofs.lemmas.Result.{on_ok_weaker}
use Rattle.bq_workload.specs.declared.roster.Roster.{Roster}
use Rattle.bq_workload.proofs.roster.Roster.pass.Goals as goal
use Rattle.bq_workload.proofs.RosterAgreesLemmas.{grown-agreed, shrunk-agreed}

pub returns-clause-agrees : goal.returns-clause-agrees
returns-clause-agrees c =
    let old : Roster = c.args.self.now in
    let mid : Roster = c.shrink.new.self in
    let new : Roster = c.grow.new.self in
    let less = c.in_ok-shrink.ensures in
    on_ok_weaker c.grow.result (λ is h.
    grown-agreed c.args.to 1 mid new is c.grow.ensures.event_queue c.grow.ensures.periods
    (shrunk-agreed c.args.from old mid less.accounts less.event_queue less.periods h)) c.grow.ensures.accounts
