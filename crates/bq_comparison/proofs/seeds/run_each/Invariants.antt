use Rattle.std.proofs.Common.{◌≤◌, ◌-◌, length}
use Rattle.bq_comparison.specs.Experiments.{AreRunsOf}
use Rattle.bq_comparison.proofs.seeds.run_each.Given as goal

abbrev pub invariant-numbers : goal.invariant-numbers
invariant-numbers g l = record {
  runs_are : AreRunsOf l.experiment l.runs.items;
  low : length l.runs.items ≤ l.count;
}

abbrev pub decreases-numbers : goal.decreases-numbers
decreases-numbers g l = l.count - length l.runs.items
