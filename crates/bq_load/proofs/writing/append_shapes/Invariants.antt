use Rattle.std.proofs.Common.{◌≡◌, ◌++◌, take}
use Rattle.bq_load.specs.Layout.{shapes_bytes}
use Rattle.bq_load.proofs.writing.append_shapes.Given as goal

abbrev pub invariant-loop-shape : goal.invariant-loop-shape
invariant-loop-shape l = l.out.items ≡ l.fn.out.items ++ shapes_bytes (take l.shape-index l.shapes)
