use Rattle.std.proofs.Common.{◌≡◌, take}
use Rattle.std.specs.String.{string_bytes}
use Rattle.bq_policy_file.specs.MarkLines.{more_maps}
use Rattle.bq_policy_file.proofs.policy_marks.more_maps.Given as goal

abbrev pub invariant-loop-shape : goal.invariant-loop-shape
invariant-loop-shape l = string_bytes l.text ≡ more_maps (take l.shape-index l.shapes)
