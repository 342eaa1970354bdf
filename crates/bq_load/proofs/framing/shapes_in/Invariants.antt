use Rattle.std.proofs.Common.{◌≡◌, ◌++◌, length}
use Rattle.bq_load.specs.Layout.{shapes_bytes}
use Rattle.bq_load.specs.Headers.{AreShapes}
use Rattle.bq_load.proofs.framing.shapes_in.Given as goal

abbrev pub invariant-loop-rest : goal.invariant-loop-rest
invariant-loop-rest l = record {
  left : AreShapes l.rest;
  so_far : l.bytes ≡ shapes_bytes l.shapes.items ++ l.rest;
}

abbrev pub decreases-loop-rest : goal.decreases-loop-rest
decreases-loop-rest l = length l.rest
