use Rattle.std.proofs.Common.{arith}
use Rattle.std.proofs.lemmas.Grind.{common_steps}
use Rattle.std.proofs.lemmas.List.Elements.{All-push}
use Rattle.bq_comparison.specs.declared.runs.FigureValue.{FigureValue}
use Rattle.bq_comparison.specs.Values.{IsFigureValue}
use Rattle.bq_comparison.proofs.LatencyLemmas.{AreReordered-trans, IsValue-reordered}
use Rattle.bq_comparison.proofs.runs.run_of.Goals as goal

pub figures-preserved : goal.figures-preserved
figures-preserved c = record {
  named = grind (arith, common_steps);
  valued = rw c.in_ok-push.ensures.items
      (All-push (λ (v : FigureValue). IsFigureValue c.args.schedule.now c.args.latencies.now v.figure v.value) _ _ c.figures.invariant.valued
      (IsValue-reordered c.args.schedule.now _ _ _ _ c.figures.invariant.kept c.value_of-value.ensures.value));
  kept = AreReordered-trans _ _ _ c.figures.invariant.kept c.value_of-value.ensures.kept;
}
