use Rattle.std.proofs.Common.{refl, sym, ap, ◌∙◌, subst, Option, arith}
use Rattle.bq_workload.specs.declared.action.Action.{Action}
use Rattle.bq_workload.specs.declared.action.Length.{Length}
use Rattle.bq_workload.specs.declared.roster.Roster.{Roster}
use Rattle.bq_workload.specs.Accounts.{IsPhaseDone, accounts_of}
use Rattle.bq_simulate.specs.Actions.{acted, asked_by}
use Rattle.bq_simulate.specs.Simulations.{DrawsFor}
use Rattle.bq_simulate.proofs.DeedLemmas.{GoesOnUnreported-acts}
use Rattle.bq_simulate.proofs.PhaseEndLemmas.{has_ended, no_stray_action, no_stray_end, no_stray_length, no_stray_progress}
use Rattle.bq_simulate.proofs.StreamLemmas.{kept_roster}
use Rattle.bq_simulate.proofs.simulation.Simulation.take_action.Goals as goal

pub returns-clause-acts : goal.returns-clause-acts
returns-clause-acts c =
    let kinds = c.args.workload.now.tasks.items in
    let task = c.in_ok-task.task in
    let before = c.in_ok-task.before in
    let length = c.in_ok-length.length in
    let ended = c.in_ok-task.ensures in
    let set = c.in_ok-take_up.ensures in
    let P : Option Length → Type 0 =
    λ o. DrawsFor task o (record c.args.self.now { roster = c.end_phase.new.self }) length c.length_for.new.self in
    let draws = subst P (c.asked_by.ensures ∙ ap asked_by c.in_ok-action.ensures.action) c.in_ok-length.ensures.drawn in
    let does =
    c.in_ok-after.ensures.next ∙ ap (λ (a : Option Action). acted kinds a length c.args.now before) c.in_ok-action.ensures.action in
    GoesOnUnreported-acts kinds _ _ _ _ c.args.processor task c.args.now length
    c.in_ok-action.action before c.in_ok-after.after c.in_ok-action.ensures.action
    (record { agrees = ended.agrees; periods = ended.periods; seed = refl; streams = refl; firsts = refl }) refl ended.accounts
    ended.done draws does (record { agrees = set.agrees; periods = set.periods; seed = refl; streams = refl; firsts = refl })
    refl set.by_task (ap (λ l. l.items) set.by_processor)

-- where the end of this phase is what comes next nothing goes astray

pub returns-in_err-task-clause-ends : goal.returns-in_err-task-clause-ends
returns-in_err-task-clause-ends c = λ well next.
    absurd (no_stray_end c.args.workload.now c.args.now c.args.processor c.args.self.now well next c.in_err-task.ensures.stray)

pub returns-in_err-action-clause-ends : goal.returns-in_err-action-clause-ends
returns-in_err-action-clause-ends c = λ well next.
    let ended = c.in_ok-task.ensures in
    let e =
    has_ended c.args.workload.now c.args.now c.args.processor c.in_ok-task.task c.in_ok-task.before c.args.self.now
    c.end_phase.new.self well ended.agrees ended.accounts ended.done in
    absurd (omega (arith, c.in_err-action.ensures.stray, e.stands.action))

pub returns-in_err-length-clause-ends : goal.returns-in_err-length-clause-ends
returns-in_err-length-clause-ends c = λ well next.
    let ended = c.in_ok-task.ensures in
    let e =
    has_ended c.args.workload.now c.args.now c.args.processor c.in_ok-task.task c.in_ok-task.before c.args.self.now
    c.end_phase.new.self well ended.agrees ended.accounts ended.done in
    let (asked, asks, short) = c.in_err-length.ensures.stray in
    absurd (no_stray_length c.args.workload.now well.sound c.args.processor c.in_ok-task.task c.in_ok-task.before
    c.args.self.now c.in_ok-action.action asked e c.in_ok-action.ensures.action (sym c.asked_by.ensures ∙ asks) short)

pub returns-in_err-after-clause-ends : goal.returns-in_err-after-clause-ends
returns-in_err-after-clause-ends c = λ well next.
    let ended = c.in_ok-task.ensures in
    let e =
    has_ended c.args.workload.now c.args.now c.args.processor c.in_ok-task.task c.in_ok-task.before c.args.self.now
    c.end_phase.new.self well ended.agrees ended.accounts ended.done in
    absurd (no_stray_action c.args.workload.now well.sound c.in_ok-task.task c.in_ok-task.before c.in_ok-action.action
    e.stands c.in_ok-action.ensures.action c.in_err-after.ensures.stray)

pub returns-in_err-take_up-clause-ends : goal.returns-in_err-take_up-clause-ends
returns-in_err-take_up-clause-ends c = λ well next.
    let ended = c.in_ok-task.ensures in
    let task = c.in_ok-task.task in
    let before = c.in_ok-task.before in
    let e =
    has_ended c.args.workload.now c.args.now c.args.processor task before c.args.self.now c.end_phase.new.self well
    ended.agrees ended.accounts ended.done in
    let P : Option Length → Type 0 =
    λ o.
    DrawsFor task o (record c.args.self.now { roster = c.end_phase.new.self }) c.in_ok-length.length c.length_for.new.self in
    let same =
    kept_roster task (asked_by c.in_ok-action.action) (record c.args.self.now { roster = c.end_phase.new.self })
    c.in_ok-length.length c.length_for.new.self (subst P c.asked_by.ensures c.in_ok-length.ensures.drawn) in
    let done = subst (λ (r : Roster). IsPhaseDone (accounts_of r) c.args.processor task before) (sym same) ended.done in
    absurd (no_stray_progress c.args.workload.now c.in_ok-action.action c.args.processor task c.in_ok-length.length
    c.args.now before c.in_ok-after.after c.args.self.now (accounts_of c.length_for.new.self.roster) e done
    c.in_ok-after.ensures.next c.in_err-take_up.ensures.stray)
