use Rattle.std.proofs.Common.{◌≤◌, ◌-◌, length}
use Rattle.bq_object.proofs.symbol.name_at.Given as goal

-- the name so far is within what is left of the names
abbrev pub invariant-loop-long : goal.invariant-loop-long
invariant-loop-long l = l.long ≤ length l.rest

abbrev pub decreases-loop-long : goal.decreases-loop-long
decreases-loop-long l = length l.rest - l.long
