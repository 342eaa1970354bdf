use Rattle.std.proofs.Common.{◌≡◌, take}
use Rattle.std.specs.Prelude.{count_by}
use Rattle.bq_needs.specs.Texts.{same_shape}
use Rattle.bq_needs.proofs.known.count_of.Given as goal

abbrev pub invariant-loop-other : goal.invariant-loop-other
invariant-loop-other l = l.count ≡ count_by (same_shape l.shape) (take l.other-index l.shapes)
