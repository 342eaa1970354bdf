use Rattle.bq_workload.specs.Accounts.{accounts_of}
use Rattle.bq_workload.proofs.roster.Roster.first.Goals as goal
use Rattle.bq_workload.proofs.NextDueLemmas.{first-next, none-next}

pub returns-in-None-clause-next : goal.returns-in-None-clause-next
returns-in-None-clause-next c =
    none-next c.args.self.now.periods.end (accounts_of c.args.self.now) c.args.self.now.event_queue c.in-None.ensures.none

pub returns-in-Some-clause-next : goal.returns-in-Some-clause-next
returns-in-Some-clause-next c =
    first-next c.args.self.now.periods.end (accounts_of c.args.self.now) c.args.self.now.event_queue c.in-Some.time
    c.in-Some.rank c.at.result c.in-Some.ensures.first c.at.ensures
