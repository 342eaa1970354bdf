use Rattle.std.proofs.Common.{◌≡◌, take}
use Rattle.bq_bpf.proofs.shape.same_shapes.Given as goal

abbrev pub invariant-loop-at : goal.invariant-loop-at
invariant-loop-at l = take l.at l.fn.shapes ≡ take l.at l.fn.other
