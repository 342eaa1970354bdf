use Rattle.std.proofs.Common.{ℕ, [], ◌∷◌, Option, refl, ap, sym, ◌∙◌}
use Rattle.std.proofs.lemmas.Result.{err_from_is_err_and}
use Rattle.bq_parts.specs.declared.event.Event.TheVariants.{BeginWake, EndWake, Drain}
use Rattle.bq_simulate.specs.Drives.{runs_now}
use Rattle.bq_simulate.proofs.DriveLemmas.{EventsAreDriven-join, EventsAreDriven-one, EventsAreDriven-places}
use Rattle.bq_workload.specs.declared.periods.Periods.{Periods}
use Rattle.bq_workload.specs.Accounts.{Accounts, accounts_of, accounts_entered, of_task}
use Rattle.bq_workload.specs.TaskProgress.{progress_woken}
use Rattle.bq_simulate.proofs.DeedLemmas.{GoesOnBy-wakes}
use Rattle.bq_simulate.proofs.NoStrayCallLemmas.{drain_fails, wake_enters, wake_fails, wake_rests}
use Rattle.bq_simulate.proofs.simulation.Simulation.wake.Goals as goal

pub returns-clause-events : goal.returns-clause-events
returns-clause-events g c =
    let stated = c.in_ok-entered.ensures.does in (
      c.in_ok-to.to,
      EventsAreDriven-join g.S.Sink.takes _ _ _ c.args.self.now.driver c.wake-2.new.self c.drain.new.self
          (BeginWake c.args.from c.args.task ∷ EndWake c.args.from c.args.now ∷ [])
          (Drain c.in_ok-to.to c.args.now ∷ []) (EventsAreDriven-places g.S.Sink.takes _ _ _ _ _ _ _ _ c.in_ok-to.ensures.does)
          (EventsAreDriven-one g.S.Sink.takes _ _ _ _ (Drain c.in_ok-to.to c.args.now) stated.0 stated.3),
    )

-- the processor takes in as many as the answer says, and the task has no phase yet
pub returns-clause-goes_on : goal.returns-clause-goes_on
returns-clause-goes_on g c =
    let stated = c.in_ok-entered.ensures.does in
    let to = c.in_ok-to.to in
    let now = c.args.now in
    let was = c.args.self.now.roster in
    let woke = c.wake.new.self in
    let entered = c.in_ok-entered.entered in
    let rest = of_task progress_woken c.args.task (accounts_of was) in
    let costs = ap (λ (p : Periods). accounts_entered to entered.count entered.run now p (accounts_of woke)) c.in_ok-wake.ensures.periods in
    let rises = ap (λ (a : Accounts). accounts_entered to entered.count entered.run now was.periods a) c.in_ok-wake.ensures.accounts in
    let runs = ap (λ (r : Option ℕ). accounts_entered to entered.count r now was.periods rest) (sym stated.1) in
    let counts = ap (λ (n : ℕ). accounts_entered to n (runs_now stated.0) now was.periods rest) (sym stated.2) in
    GoesOnBy-wakes g.S.Sink.takes _ _ _ _ _ c.wake-2.new.self c.args.from c.args.task to now stated.0 c.requires
    (record {
      agrees = λ h. c.in_ok-enter.ensures.agrees (c.in_ok-wake.ensures.agrees h);
      periods = c.in_ok-enter.ensures.periods ∙ c.in_ok-wake.ensures.periods;
      seed = refl;
      streams = refl;
      firsts = refl;
    }) c.in_ok-to.ensures.does stated.3 (c.in_ok-enter.ensures.accounts ∙ costs ∙ rises ∙ runs ∙ counts)

-- the task rests
pub returns-in_err-wake-clause-ends : goal.returns-in_err-wake-clause-ends
returns-in_err-wake-clause-ends g c =
    λ w well.
    absurd (wake_rests w c.args.now c.args.self.now c.args.from c.args.task well c.requires c.in_err-wake.ensures.stray)

-- its wake fails only for memory
pub returns-in_err-to-clause-ends : goal.returns-in_err-to-clause-ends
returns-in_err-to-clause-ends g c =
    let p = err_from_is_err_and c.from_residual-in_err-to.result c.from_residual-in_err-to.ensures.1 in
    λ w well.
    rw p.1 (p.2
    (wake_fails w c.args.now c.args.self.now c.args.from c.args.task c.in_err-to.field-0.0 well c.requires c.in_err-to.ensures.fault))

-- a task's entry where it was placed fails only for memory
pub returns-in_err-entered-clause-ends : goal.returns-in_err-entered-clause-ends
returns-in_err-entered-clause-ends g c =
    let p = err_from_is_err_and c.from_residual-in_err-entered.result c.from_residual-in_err-entered.ensures.1 in
    let placed = c.in_ok-to.ensures.does in
    λ w well.
    rw p.1 (p.2 (drain_fails w c.args.now c.args.self.now c.wake-2.new.self c.args.from c.args.task c.in_ok-to.to
    placed.reported well c.requires placed.holds c.in_err-entered.field-0.0 c.in_err-entered.ensures.fault))

-- the entry of a task can be recorded
pub returns-in_err-enter-clause-ends : goal.returns-in_err-enter-clause-ends
returns-in_err-enter-clause-ends g c =
    let placed = c.in_ok-to.ensures.does in
    let stated = c.in_ok-entered.ensures.does in
    let entered = c.in_ok-entered.entered in
    let woke = c.in_ok-wake.ensures in
    λ w well.
    absurd (wake_enters w c.args.now c.args.self.now c.wake-2.new.self c.drain.new.self c.args.from c.args.task c.in_ok-to.to
    entered.count entered.run placed.reported stated.3.reported stated.0 c.wake.new.self.periods (accounts_of c.wake.new.self)
    well c.requires placed.holds stated.3.holds stated.1 stated.2 woke.periods woke.accounts c.in_err-enter.ensures.stray)
