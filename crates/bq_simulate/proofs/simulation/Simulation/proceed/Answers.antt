-- Policies are installed, tasks are admitted, and then what comes due is met.
use Rattle.std.proofs.Common.{◌≡◌, ℕ, inl, length, ap, subst, sym, ◌∙◌}
use Rattle.bq_words.specs.Sizes.{processors_in}
use Rattle.bq_workload.specs.Bounds.{most_steps}
use Rattle.bq_simulate.specs.GoingWell.{EndsEarly, OpensWell, StartsWell}
use Rattle.bq_simulate.specs.Simulations.{GoesOnFromBook}
use Rattle.bq_simulate.specs.Steps.{AreAllMet, AreMet}
use Rattle.bq_simulate.proofs.GoesWellLemmas.{err-by, wants-no-end}
use Rattle.bq_simulate.proofs.OpensWellLemmas.{installed-well, opened-well, streams-there}
use Rattle.bq_simulate.proofs.WholeSimulationLemmas.{GoesOnBy-opens, Proceeds-join, ProceedsBy-join}
use Rattle.bq_simulate.proofs.simulation.Simulation.proceed.Given as given
use Rattle.bq_simulate.proofs.simulation.Simulation.proceed.Goals as goal
use Rattle.bq_simulate.proofs.simulation.Simulation.proceed.Goals.{After-admit}

-- a simulation that starts well opens well once policies are installed, and keeps no first task yet
installed : (g : given.Over) (c : After-admit g) → StartsWell c.args.workload.now c.args.self.now
    → OpensWell c.args.workload.now 0 c.install.new.self × (length c.install.new.self.firsts.items ≡ 0)
installed g c starts = (
  installed-well g.S.Sink.takes _ _ c.args.workload.now c.args.policies.now _ _ _ c.processors-processors.ensures
      c.in_ok-install.ensures.goes_on c.in_ok-install.ensures.counts starts.opens,
  ap (λ v. length v.items) c.in_ok-install.ensures.firsts ∙ starts.none,
)

pub returns-clause-goes_on : goal.returns-clause-goes_on
returns-clause-goes_on g c =
    let takes = g.S.Sink.takes in
    let w = c.args.workload.now in
    let kinds = w.tasks.items in
    let end = w.machine.duration in
    let ended = c.run_until_end.new.self in
    let all = processors_in w.machine.size in
    let policies = c.args.policies.now in
    let opened =
    GoesOnBy-opens takes policies _ all kinds _ _ _ _ _ _ c.processors-processors.ensures c.in_ok-install.ensures.goes_on
    c.in_ok-admit.ensures.goes_on in
    let was = c.args.self.now in
    let mid = c.admit.new.self in
    let met =
    subst (λ (n : ℕ). GoesOnFromBook takes kinds (AreMet kinds mid.seed mid.roster.periods n end) c.admit.new.sink mid c.run_until_end.new.sink ended)
    c.most_steps.ensures c.in_ok-run_until_end.ensures.goes_on in
    Proceeds-join takes policies all kinds (most_steps w) end _ _ _ was mid ended opened met

pub returns-in_err-install-clause-ends : goal.returns-in_err-install-clause-ends
returns-in_err-install-clause-ends g c = λ starts.
    let wants = c.in_err-install.ensures.ends c.args.workload.now starts c.processors-processors.ensures in
    err-by c.from_residual.result c.from_residual.ensures.1 (λ e is. inl (is ∙ wants))

pub returns-in_err-admit-clause-ends : goal.returns-in_err-admit-clause-ends
returns-in_err-admit-clause-ends g c = λ starts.
    let at = installed g (goal.at.returns-in_err-admit-clause-ends g c).After-admit starts in
    let wants = c.in_err-admit.ensures.ends at.0 at.1 in
    err-by c.from_residual-in_err-admit.result c.from_residual-in_err-admit.ensures.1 (λ e is. inl (is ∙ wants))

pub returns-in_err-tasks-clause-ends : goal.returns-in_err-tasks-clause-ends
returns-in_err-tasks-clause-ends g c = λ starts.
    let w = c.args.workload.now in
    let at = installed g (goal.at.returns-in_err-tasks-clause-ends g c).After-admit starts in
    let all = c.in_ok-admit.ensures.well at.0 in
    absurd (c.in_err-tasks.ensures.stray (all.counted ∙ sym (streams-there w _ _ all)))

pub returns-in_err-run_until_end-clause-ends : goal.returns-in_err-run_until_end-clause-ends
returns-in_err-run_until_end-clause-ends g c = λ starts.
    let w = c.args.workload.now in
    let at = installed g (goal.at.returns-in_err-run_until_end-clause-ends g c).After-admit starts in
    let all = c.in_ok-admit.ensures.well at.0 in
    let many = all.opening.agree.mirrors.processors.many ∙ all.opening.processors_there in
    let early = c.in_err-run_until_end.ensures.ends (opened-well w _ (c.in_ok-admit.ensures.firsts at.1) all) many c.most_steps.ensures in
    err-by c.from_residual-in_err-run_until_end.result c.from_residual-in_err-run_until_end.ensures.1 (λ e is. subst (λ x. EndsEarly w x) (sym is) early)

pub returns-clause-well : goal.returns-clause-well
returns-clause-well g c = λ starts.
    let w = c.args.workload.now in
    let at = installed g (goal.at.returns-clause-well g c).After-admit starts in
    c.in_ok-run_until_end.ensures.well (opened-well w _ (c.in_ok-admit.ensures.firsts at.1) (c.in_ok-admit.ensures.well at.0))

-- a fault for memory is not the fault that there are too many steps
pub returns-in_err-install-clause-too_many_steps : goal.returns-in_err-install-clause-too_many_steps
returns-in_err-install-clause-too_many_steps g c = λ starts.
    let wants = c.in_err-install.ensures.ends c.args.workload.now starts c.processors-processors.ensures in
    err-by c.from_residual.result c.from_residual.ensures.1 (λ e is ends. absurd (wants-no-end (sym (is ∙ wants) ∙ ends)))

pub returns-in_err-admit-clause-too_many_steps : goal.returns-in_err-admit-clause-too_many_steps
returns-in_err-admit-clause-too_many_steps g c = λ starts.
    let at = installed g (goal.at.returns-in_err-admit-clause-too_many_steps g c).After-admit starts in
    let wants = c.in_err-admit.ensures.ends at.0 at.1 in
    err-by c.from_residual-in_err-admit.result c.from_residual-in_err-admit.ensures.1
    (λ e is ends. absurd (wants-no-end (sym (is ∙ wants) ∙ ends)))

pub returns-in_err-tasks-clause-too_many_steps : goal.returns-in_err-tasks-clause-too_many_steps
returns-in_err-tasks-clause-too_many_steps g c = λ starts.
    let w = c.args.workload.now in
    let at = installed g (goal.at.returns-in_err-tasks-clause-too_many_steps g c).After-admit starts in
    let all = c.in_ok-admit.ensures.well at.0 in
    absurd (c.in_err-tasks.ensures.stray (all.counted ∙ sym (streams-there w _ _ all)))

-- as many things have come due as are counted
pub returns-in_err-run_until_end-clause-too_many_steps : goal.returns-in_err-run_until_end-clause-too_many_steps
returns-in_err-run_until_end-clause-too_many_steps g c = λ starts.
    let takes = g.S.Sink.takes in
    let w = c.args.workload.now in
    let kinds = w.tasks.items in
    let end = w.machine.duration in
    let ended = c.run_until_end.new.self in
    let all = processors_in w.machine.size in
    let policies = c.args.policies.now in
    let opened =
    GoesOnBy-opens takes policies _ all kinds _ _ _ _ _ _ c.processors-processors.ensures c.in_ok-install.ensures.goes_on
    c.in_ok-admit.ensures.goes_on in
    let was = c.args.self.now in
    let mid = c.admit.new.self in
    let at = installed g (goal.at.returns-in_err-run_until_end-clause-too_many_steps g c).After-admit starts in
    let well = opened-well w _ (c.in_ok-admit.ensures.firsts at.1) (c.in_ok-admit.ensures.well at.0) in
    err-by c.from_residual-in_err-run_until_end.result c.from_residual-in_err-run_until_end.ensures.1 (λ e is ends.
    let met =
    subst
    (λ (n : ℕ). GoesOnFromBook takes kinds (AreAllMet kinds mid.seed mid.roster.periods n end) c.admit.new.sink mid c.run_until_end.new.sink ended)
    c.most_steps.ensures (c.in_err-run_until_end.ensures.too_many_steps well (sym is ∙ ends)) in
    ProceedsBy-join takes policies all kinds (most_steps w) end _ _ _ was mid ended opened met)
