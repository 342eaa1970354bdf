use Rattle.std.proofs.Common.{◌≡◌, take}
use Rattle.std.specs.Prelude.{filter_map}
use Rattle.bq_import.proofs.order.instructions.Given as goal

-- the instructions of the slots so far
abbrev pub invariant-slots : goal.invariant-slots
invariant-slots l = l.insns.items ≡ filter_map (λ slot. slot) (take l.slot-index l.slots)
