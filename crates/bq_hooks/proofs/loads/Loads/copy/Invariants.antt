use Rattle.std.proofs.Common.{◌≡◌, take}
use Rattle.bq_hooks.proofs.loads.Loads.copy.Given as goal

abbrev pub invariant-loop-count : goal.invariant-loop-count
invariant-loop-count l = l.loads ≡ take l.count-index l.count-items
