use Rattle.std.proofs.Common.{◌≡◌}
use Rattle.std.specs.Prelude.{All, map, take}
use Rattle.bq_comparison.specs.Values.{AreReordered, IsFigureValue}
use Rattle.bq_comparison.proofs.runs.run_of.Given as goal

abbrev pub invariant-figures : goal.invariant-figures
invariant-figures l = record {
  named : map (λ v. v.figure) l.values.items ≡ take l.figure-index l.figures;
  valued : All (λ v. IsFigureValue l.schedule l.initial.latencies v.figure v.value) l.values.items;
  kept : AreReordered l.initial.latencies l.latencies;
}
