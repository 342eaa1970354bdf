use Rattle.std.proofs.Common.{◌≡◌, replicate}
use Rattle.bq_recording.proofs.opening.zero_loads.Given as goal

abbrev pub invariant-loads : goal.invariant-loads
invariant-loads l = (l.loads ≡ replicate l.counter 0)
