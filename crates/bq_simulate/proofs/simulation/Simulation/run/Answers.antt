use Rattle.std.proofs.Common.{ℕ, List, inl, inr, subst, sym, ◌∙◌, true≢false, arith}
use Rattle.bq_workload.specs.declared.periods.Periods.{Periods}
use Rattle.bq_workload.specs.Accounts.{accounts_of}
use Rattle.bq_workload.specs.Next.{NothingComes}
use Rattle.bq_simulate.specs.Deeds.{Deed}
use Rattle.bq_simulate.specs.GoingWell.{EndsEarly}
use Rattle.bq_simulate.specs.Steps.{AreJustEvents, last_ticks}
use Rattle.bq_simulate.proofs.DeedLemmas.{GoesOnBy-weaker}
use Rattle.bq_simulate.proofs.GoesWellLemmas.{err-by, wants-no-end}
use Rattle.bq_simulate.proofs.LastTicksLemmas.{came-to-end, keep_phases}
use Rattle.bq_simulate.proofs.SoundWorkloadLemmas.{sound_times}
use Rattle.bq_simulate.proofs.simulation.Simulation.run.Goals as goal

-- where the sink has enough the rest is left
pub returns-then-has_enough-clause-runs : goal.returns-then-has_enough-clause-runs
returns-then-has_enough-clause-runs g c = inr (sym c.has_enough.ensures ∙ c.if-has_enough.true, c.in_ok-tasks.ensures.goes_on)

pub returns-clause-runs : goal.returns-clause-runs
returns-clause-runs g c =
    let kinds = c.args.workload.now.tasks.items in
    let end = c.args.workload.now.machine.duration in
    let ended = c.proceed.new.self in
    let ticks : ℕ → List Deed → Type 0 = λ n. AreJustEvents (last_ticks end n) in
    inl (record {
      sink = c.proceed.new.sink;
      ended = ended;
      proceeds = c.in_ok-tasks.ensures.goes_on;
      nothing_due = c.in_ok-tasks.ensures.nothing_due (sym c.has_enough.ensures ∙ c.if-has_enough.false);
      over = sym c.is_over.ensures.over ∙ c.if-not-is_over.false;
      ticks =
          GoesOnBy-weaker g.S.Sink.takes kinds _ _ (λ xs are. subst (λ (n : ℕ). ticks n xs) c.processors-processors.ensures are)
          _ _ _ _ (c.in_ok-finish.ensures.goes_on kinds);
    })

pub returns-in_err-tasks-clause-ends : goal.returns-in_err-tasks-clause-ends
returns-in_err-tasks-clause-ends g c = λ starts.
    err-by c.from_residual.result c.from_residual.ensures.1
    (λ e is. subst (λ x. EndsEarly c.args.workload.now x) (sym is) (c.in_err-tasks.ensures.ends starts))

-- where nothing comes any more all is over
pub returns-then-not-is_over-clause-ends : goal.returns-then-not-is_over-clause-ends
returns-then-not-is_over-clause-ends g c = λ starts.
    let w = c.args.workload.now in
    let ended = c.proceed.new.self in
    let gone = c.in_ok-tasks.ensures.well starts in
    let none = c.in_ok-tasks.ensures.nothing_due (sym c.has_enough.ensures ∙ c.if-has_enough.false) gone.well.agreed in
    let left = subst (λ (p : Periods). NothingComes p.end (accounts_of ended.roster)) gone.well.periods none in
    let over =
    c.is_over.ensures.nothing_due (sound_times w gone.well.sound).duration gone.well.agreed.homes left
    ∙ keep_phases gone.now (accounts_of ended.roster) gone.well.kept.on_time in
    absurd (true≢false (sym over ∙ c.if-not-is_over.true))

pub returns-in_err-finish-clause-ends : goal.returns-in_err-finish-clause-ends
returns-in_err-finish-clause-ends g c = λ starts.
    let w = c.args.workload.now in
    let gone = c.in_ok-tasks.ensures.well starts in
    let none = c.in_ok-tasks.ensures.nothing_due (sym c.has_enough.ensures ∙ c.if-has_enough.false) gone.well.agreed in
    let came =
    came-to-end g.S.Sink.takes c.args.policies.now w _ _ c.args.self.now c.proceed.new.self starts c.in_ok-tasks.ensures.goes_on
    none gone in
    let wants = c.in_err-finish.ensures.ends w came.0 (omega (arith, c.processors-processors.ensures, came.1)) in
    err-by c.from_residual-in_err-finish.result c.from_residual-in_err-finish.ensures.1 (λ e is. inl (is ∙ wants))

pub returns-in_err-tasks-clause-too_many_steps : goal.returns-in_err-tasks-clause-too_many_steps
returns-in_err-tasks-clause-too_many_steps g c =
    λ starts.
    err-by c.from_residual.result c.from_residual.ensures.1
    (λ e is ends. c.in_err-tasks.ensures.too_many_steps starts (sym is ∙ ends))

pub returns-in_err-finish-clause-too_many_steps : goal.returns-in_err-finish-clause-too_many_steps
returns-in_err-finish-clause-too_many_steps g c = λ starts.
    let w = c.args.workload.now in
    let gone = c.in_ok-tasks.ensures.well starts in
    let none = c.in_ok-tasks.ensures.nothing_due (sym c.has_enough.ensures ∙ c.if-has_enough.false) gone.well.agreed in
    let came =
    came-to-end g.S.Sink.takes c.args.policies.now w _ _ c.args.self.now c.proceed.new.self starts c.in_ok-tasks.ensures.goes_on
    none gone in
    let wants = c.in_err-finish.ensures.ends w came.0 (omega (arith, c.processors-processors.ensures, came.1)) in
    err-by c.from_residual-in_err-finish.result c.from_residual-in_err-finish.ensures.1
    (λ e is ends. absurd (wants-no-end (sym (is ∙ wants) ∙ ends)))
