use Rattle.bq_workload.specs.declared.roster.Roster.{Roster}
use Rattle.bq_workload.proofs.roster.Roster.beat.Goals as goal
use Rattle.bq_workload.proofs.RosterAgreesLemmas.{beaten-agreed}

pub returns-clause-agrees : goal.returns-clause-agrees
returns-clause-agrees c =
    let old : Roster = c.args.self.now in
    let mid : Roster = c.plan_tick.new.self in
    let new : Roster = c.set_processor_state.new.self in
    let plan = c.in_ok-next.ensures in
    let set = c.set_processor_state.ensures in
    beaten-agreed c.args.processor c.args.now c.in_ok-next.next c.in_ok-processor_state.processor_state old mid
    new c.in_ok-processor_state.ensures.there plan.next plan.planned plan.by_task plan.by_processor plan.periods
    set.by_processor set.by_task set.event_queue set.periods
