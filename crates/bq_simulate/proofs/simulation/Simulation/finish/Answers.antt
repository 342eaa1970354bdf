use Rattle.std.proofs.Common.{◌≡◌, ◌+◌, ℕ, List, ◌∷◌, [], ◌++◌, arith, ◌∙◌, sym, subst, refl}
use Rattle.bq_parts.specs.declared.event.Event.{Event}
use Rattle.bq_parts.specs.declared.event.Event.TheVariants.{Tick}
use Rattle.bq_simulate.specs.Deeds.{Deed}
use Rattle.bq_simulate.specs.Steps.{AreJustEvents, last_ticks}
use Rattle.bq_simulate.proofs.AllProcessorsLemmas.{each_more}
use Rattle.bq_simulate.proofs.DeedLemmas.{GoesOnBy-join, GoesOnBy-same, GoesOnBy-weaker, OnlyPlansOrCounts-here}
use Rattle.bq_simulate.proofs.DueInOrderLemmas.{AreJustEvents-join}
use Rattle.bq_simulate.proofs.GoesWellLemmas.{err-by}
use Rattle.bq_simulate.proofs.LastTicksLemmas.{ticked-well}
use Rattle.bq_simulate.proofs.simulation.Simulation.finish.Goals as goal

pub processors-preserved : goal.processors-preserved
processors-preserved g c =
    let end = c.args.end in
    let count = c.processors.processor in
    let before = last_ticks end count in
    let next = Tick count end ∷ [] in
    let after = last_ticks end (count + 1) in
    let events : before ++ next ≡ after = sym (each_more (λ processor. Tick processor end) count) in
    let join : (xs ys : List Deed) → AreJustEvents before xs → AreJustEvents next ys → AreJustEvents after (xs ++ ys) =
    λ xs ys h k. subst (λ (l : List Event). AreJustEvents l (xs ++ ys)) events (AreJustEvents-join before next xs ys h k) in
    record {
      goes_on = λ kinds.
          GoesOnBy-join g.S.Sink.takes kinds (AreJustEvents before) (AreJustEvents next) (AreJustEvents after) join _ _ _ _ _ _
          (c.processors.invariant.goes_on kinds) (c.in_ok-tick.ensures.goes_on kinds);
    }

pub processors-init : goal.processors-init
processors-init g c = record { goes_on = GoesOnBy-same g.S.Sink.takes (AreJustEvents []) refl _ _ _ (OnlyPlansOrCounts-here _) }

pub returns-clause-goes_on : goal.returns-clause-goes_on
returns-clause-goes_on g c =
    let all : c.processors.processor ≡ c.args.processors = omega (arith, c.processors-test.false, c.processors.auto.processor-end) in
    let ticks : ℕ → List Deed → Type 0 = λ n. AreJustEvents (last_ticks c.args.end n) in
    λ kinds.
    GoesOnBy-weaker g.S.Sink.takes kinds (ticks c.processors.processor) (ticks c.args.processors)
    (λ xs are. subst (λ (n : ℕ). ticks n xs) all are) _ _ _ _ (c.processors.invariant.goes_on kinds)

pub returns-in_err-tick-clause-ends : goal.returns-in_err-tick-clause-ends
returns-in_err-tick-clause-ends g c = λ w well few.
    let here =
    ticked-well g.S.Sink.takes _ _ w c.args.end c.processors.processor _ _
    (c.processors.invariant.goes_on w.tasks.items) well in
    let wants = c.in_err-tick.ensures.ends w here.0 (omega (arith, c.processors-test.true, few, here.1)) in
    err-by c.from_residual.result c.from_residual.ensures.1 (λ e is. is ∙ wants)
