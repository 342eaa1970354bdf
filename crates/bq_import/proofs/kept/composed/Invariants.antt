use Rattle.std.proofs.Common.{◌≡◌, map, take}
use Rattle.std.specs.Prelude.{slice_index}
use Rattle.bq_import.proofs.kept.composed.Given as goal

-- the slots so far
abbrev pub invariant-slots : goal.invariant-slots
invariant-slots l = l.all.items ≡ map (λ slot. slice_index l.first slot) (take l.slot-index l.second)
