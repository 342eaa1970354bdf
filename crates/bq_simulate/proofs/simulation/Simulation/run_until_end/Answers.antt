use Rattle.std.proofs.Common.{◌≡◌, ◌≤◌, inl, inr, refl, sym, ◌∙◌, arith}
use Rattle.std.proofs.lemmas.Option.{MatchOption-at_none}
use Rattle.bq_workload.specs.Accounts.{accounts_of}
use Rattle.bq_workload.specs.Next.{IsAgreed, IsNextDue, NothingComes}
use Rattle.bq_simulate.specs.Simulations.{book_of}
use Rattle.bq_simulate.specs.Steps.{AreAllMet}
use Rattle.bq_simulate.proofs.BookLemmas.{met-more}
use Rattle.bq_simulate.proofs.DeedLemmas.{GoesOnBy-same, OnlyPlansOrCounts-here}
use Rattle.bq_simulate.proofs.DueInOrderLemmas.{AreMet-none}
use Rattle.bq_simulate.proofs.FewUntilEndLemmas.{bound-passed, counted-well, none-came}
use Rattle.bq_simulate.proofs.GoesWellLemmas.{comes-well, err-by, given-well, met-well, next-given, wants-no-end}
use Rattle.bq_simulate.proofs.WholeSimulationLemmas.{GoesOnFromBook-all, GoesOnFromBook-within}
use Rattle.bq_simulate.proofs.simulation.Simulation.run_until_end.Goals as goal
use Rattle.bq_simulate.proofs.simulation.Simulation.run_until_end.Goals.{then-now-last-via-then-now-last, then-now-last-via-else-now-last+then-now-end}

pub steps-preserved : goal.steps-preserved
steps-preserved g c =
    let count = c.steps.counter in
    let last = c.steps.last in
    let due = c.in-Some.due in
    let now = c.in-Some.now in
    let later : last ≤ now = omega (arith, c.if-now-last.false) in
    let here = c.steps.self.roster in
    let next : IsAgreed here → IsNextDue here.periods.end (accounts_of here) due now =
    λ agreed. next-given here now due _ c.in-Some.is (c.first.ensures.next agreed) in
    record {
      goes_on =
          met-more g.S.Sink.takes c.args.workload.now.tasks.items count last now due _ _ _ _ _ _ later next
          c.steps.invariant.goes_on c.in_ok-handle_due.ensures.goes_on;
      within = omega (arith, c.if-now-end.false);
      well = λ begins.
          let w = c.args.workload.now in
          let well = c.steps.invariant.well begins in
          let comes = comes-well w last now due c.steps.self well (next well.agreed) in
          met-well g.S.Sink.takes _ _ w due now _ _ c.in_ok-handle_due.ensures.goes_on comes.2;
      counted = λ begins many.
          let w = c.args.workload.now in
          let well = c.steps.invariant.well begins in
          let was = c.steps.invariant.counted begins many in
          let comes = comes-well w last now due c.steps.self well (next well.agreed) in
          counted-well g.S.Sink.takes _ _ w due count last now _ _ later (next well.agreed) c.in_ok-handle_due.ensures.goes_on comes.2 was.0 was.1;
    }

pub steps-init : goal.steps-init
steps-init g c =
    let was = c.args.self.now in
    let kinds = c.args.workload.now.tasks.items in
    record {
      goes_on = λ drawn had firsts agreed.
          GoesOnBy-same g.S.Sink.takes (AreAllMet kinds was.seed was.roster.periods 0 0 (book_of was drawn))
          (AreMet-none kinds was.seed was.roster.periods (book_of was drawn)) _ _ _ (OnlyPlansOrCounts-here _) kinds drawn had firsts;
      within = omega arith;
      well = λ begins. begins;
      counted = λ begins many. (many, none-came c.args.workload.now was.driver (book_of was begins.drawn) begins.sound begins.kept many);
    }

pub returns-in_default-clause-nothing_due : goal.returns-in_default-clause-nothing_due
returns-in_default-clause-nothing_due g c =
    let here = c.steps.self.roster in
    λ wants agreed.
    MatchOption-at_none (NothingComes here.periods.end (accounts_of here))
    (λ d. IsNextDue here.periods.end (accounts_of here) d.1 d.0) c.in_default.is (c.first.ensures.next agreed)

pub returns-in_default-clause-goes_on : goal.returns-in_default-clause-goes_on
returns-in_default-clause-goes_on g c =
    let was = c.args.self.now in
    let few : c.steps.counter ≤ c.args.step_limit = omega (arith, c.steps-test.true) in
    GoesOnFromBook-within g.S.Sink.takes c.args.workload.now.tasks.items was.seed was.roster.periods c.steps.counter c.args.step_limit
    c.steps.last c.args.workload.now.machine.duration _ _ _ _ few c.steps.invariant.within c.steps.invariant.goes_on

pub returns-then-has_enough-clause-goes_on : goal.returns-then-has_enough-clause-goes_on
returns-then-has_enough-clause-goes_on g c =
    let was = c.args.self.now in
    let few : c.steps.counter ≤ c.args.step_limit = omega (arith, c.steps-test.true) in
    GoesOnFromBook-within g.S.Sink.takes c.args.workload.now.tasks.items was.seed was.roster.periods c.steps.counter c.args.step_limit
    c.steps.last c.args.workload.now.machine.duration _ _ _ _ few c.steps.invariant.within c.steps.invariant.goes_on

-- what comes next is neither past nor beyond the end
pub returns-in_err-handle_due-clause-ends : goal.returns-in_err-handle_due-clause-ends
returns-in_err-handle_due-clause-ends g c = λ begins many bound.
    let comes =
    given-well c.args.workload.now c.steps.last c.in-Some.now c.in-Some.due c.steps.self _ c.in-Some.is c.first.ensures.next
    (c.steps.invariant.well begins) in
    let wants = c.in_err-handle_due.ensures.ends comes.2 comes.3 in
    err-by c.from_residual.result c.from_residual.ensures.1 (λ e is. inl (is ∙ wants))

pub returns-then-now-last-clause-ends : goal.returns-then-now-last-clause-ends
returns-then-now-last-clause-ends g c = λ begins many bound.
    let comes =
    given-well c.args.workload.now c.steps.last c.in-Some.now c.in-Some.due c.steps.self _ c.in-Some.is c.first.ensures.next
    (c.steps.invariant.well begins) in
    absurd (elim c.then-now-last.branch [
      | then-now-last-via-then-now-last v ↦ omega (arith, v.if-now-last.true, comes.0)
      | then-now-last-via-else-now-last+then-now-end v ↦ omega (arith, v.if-now-end.true, comes.1)
    ])

-- as many things have come as are counted
pub returns-clause-ends : goal.returns-clause-ends
returns-clause-ends g c = λ begins many bound.
    let w = c.args.workload.now in
    let counted = c.steps.invariant.counted begins many in
    let all : c.args.step_limit ≤ c.steps.counter = omega (arith, c.steps-test.false) in
    inr (
      refl,
      bound-passed w c.steps.counter c.steps.last c.args.step_limit (accounts_of c.steps.self.roster) c.steps.invariant.within
          all bound counted.1,
    )

-- a fault for memory is not the fault that there are too many steps
pub returns-in_err-handle_due-clause-too_many_steps : goal.returns-in_err-handle_due-clause-too_many_steps
returns-in_err-handle_due-clause-too_many_steps g c = λ begins.
    let comes =
    given-well c.args.workload.now c.steps.last c.in-Some.now c.in-Some.due c.steps.self _ c.in-Some.is c.first.ensures.next
    (c.steps.invariant.well begins) in
    let wants = c.in_err-handle_due.ensures.ends comes.2 comes.3 in
    err-by c.from_residual.result c.from_residual.ensures.1 (λ e is ends. absurd (wants-no-end (sym (is ∙ wants) ∙ ends)))

pub returns-clause-too_many_steps : goal.returns-clause-too_many_steps
returns-clause-too_many_steps g c = λ begins is.
    let was = c.args.self.now in
    let all : c.steps.counter ≡ c.args.step_limit = omega (arith, c.steps-test.false, c.steps.auto.counter-end) in
    GoesOnFromBook-all g.S.Sink.takes c.args.workload.now.tasks.items was.seed was.roster.periods c.steps.counter c.args.step_limit
    c.steps.last c.args.workload.now.machine.duration _ _ _ _ all c.steps.invariant.within c.steps.invariant.goes_on
