use Rattle.std.proofs.Common.{length, ◌-◌}
use Rattle.bq_verify.specs.Passes.{Measured}
use Rattle.bq_verify.proofs.graph_numbers.measure.Given as goal

abbrev pub invariant-loop-done : goal.invariant-loop-done
invariant-loop-done l = Measured l.slots (length l.slots - l.done) l.heights
