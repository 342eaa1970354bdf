use Rattle.std.proofs.Common.{◌≡◌, take}
use Rattle.bq_installed.proofs.same.same_slots.Given as goal

abbrev pub invariant-loop-at : goal.invariant-loop-at
invariant-loop-at l = take l.at l.fn.slots ≡ take l.at l.fn.other
