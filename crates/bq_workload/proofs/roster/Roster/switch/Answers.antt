use Rattle.std.proofs.Common.{◌≡◌, None, Some, false, rules, sym, subst}
use Rattle.std.proofs.lemmas.Result.{IfErr-weaker, on_ok_weaker}
use Rattle.bq_workload.specs.declared.periods.Periods.{Periods}
use Rattle.bq_workload.specs.declared.roster.Roster.{Roster}
use Rattle.bq_workload.specs.Accounts.{accounts_of, is_same}
use Rattle.bq_workload.specs.Next.{QueueAgrees}
use Rattle.bq_workload.proofs.StrayLemmas.{idled-plans, switched-astray}
use Rattle.bq_workload.proofs.roster.Roster.switch.Goals as goal
use Rattle.bq_workload.proofs.ProcessorAgreesLemmas.{idled-agrees, started-agrees}
use Rattle.bq_workload.proofs.RosterAgreesLemmas.{both-ok, charged-agreed}

pub returns-in-Some-clause-agrees : goal.returns-in-Some-clause-agrees
returns-in-Some-clause-agrees c =
    let old : Roster = c.args.self.now in
    let mid : Roster = c.charge.new.self in
    let new : Roster = c.start.new.self in
    let p = c.args.processor in
    let now = c.args.now in
    let charge = c.in_ok-charge.ensures in
    let start = c.start.ensures in
    on_ok_weaker c.start.result (λ w h.
    let plans = w.1 in
    subst (λ (k : Periods). QueueAgrees k.end (accounts_of new) new.event_queue) (sym start.periods)
    (started-agrees mid.periods p c.in-Some.task now plans.0 plans.2.0 (accounts_of mid)
    (accounts_of new) mid.event_queue new.event_queue
    (charged-agreed p now c.in_ok-processor_state.processor_state old mid c.in_ok-processor_state.ensures.there
    charge.accounts charge.event_queue charge.periods h) plans.1 w.0.1 w.0.0 plans.2.1 plans.2.2))
    (both-ok _ _ c.start.result (both-ok _ _ c.start.result start.accounts start.rests) start.plans)

pub returns-in-None-clause-agrees : goal.returns-in-None-clause-agrees
returns-in-None-clause-agrees c =
    let old : Roster = c.args.self.now in
    let mid : Roster = c.charge.new.self in
    let new : Roster = c.idle.new.self in
    let p = c.args.processor in
    let now = c.args.now in
    let charge = c.in_ok-charge.ensures in
    let idle = c.idle.ensures in
    on_ok_weaker c.idle.result (λ w h.
    let plans = w.1 in
    subst (λ (k : Periods). QueueAgrees k.end (accounts_of new) new.event_queue) (sym idle.periods)
    (idled-agrees mid.periods p now plans.0 (accounts_of mid) (accounts_of new) mid.event_queue new.event_queue
    (charged-agreed p now c.in_ok-processor_state.processor_state old mid c.in_ok-processor_state.ensures.there
    charge.accounts charge.event_queue charge.periods h) plans.1 w.0 plans.2))
    (both-ok _ _ c.idle.result idle.accounts idle.plans)

pub returns-in-None-clause-plans : goal.returns-in-None-clause-plans
returns-in-None-clause-plans c =
    let old : Roster = c.args.self.now in
    let mid : Roster = c.charge.new.self in
    let new : Roster = c.idle.new.self in
    let charge = c.in_ok-charge.ensures in
    let other : is_same c.in_ok-processor_state.processor_state.run c.args.run ≡ false = search rules in
    on_ok_weaker c.idle.result (λ w.
    idled-plans c.args.processor c.args.now c.args.run c.in_ok-processor_state.processor_state w.0 new.by_task.items
    old mid new.event_queue c.in_ok-processor_state.ensures.there other c.in-None.is charge.accounts
    charge.event_queue charge.periods w.1 w.2) c.idle.ensures.plans

pub returns-in-Some-clause-stray : goal.returns-in-Some-clause-stray
returns-in-Some-clause-stray c =
    let charge = c.in_ok-charge.ensures in
    let other : is_same c.in_ok-processor_state.processor_state.run c.args.run ≡ false = search rules in
    IfErr-weaker c.start.result _ _
    (λ why astray.
    switched-astray c.args.processor c.args.now c.args.run (Some c.in-Some.task) c.in_ok-processor_state.processor_state
    c.args.self.now c.charge.new.self c.in_ok-processor_state.ensures.there other charge.accounts charge.periods
    c.in-Some.is astray) c.start.ensures.stray

pub returns-in-None-clause-stray : goal.returns-in-None-clause-stray
returns-in-None-clause-stray c =
    let charge = c.in_ok-charge.ensures in
    let other : is_same c.in_ok-processor_state.processor_state.run c.args.run ≡ false = search rules in
    IfErr-weaker c.idle.result _ _ (λ why astray.
    switched-astray c.args.processor c.args.now c.args.run None c.in_ok-processor_state.processor_state c.args.self.now
    c.charge.new.self c.in_ok-processor_state.ensures.there other charge.accounts charge.periods c.in-None.is astray)
    c.idle.ensures.stray
