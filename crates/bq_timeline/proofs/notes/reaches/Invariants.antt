use Rattle.std.proofs.Common.{◌≡◌}
use Rattle.bq_timeline.specs.Notes.{reaches}
use Rattle.bq_timeline.proofs.notes.reaches.Given as goal

-- what the clocks of the processors before this one reach
abbrev pub invariant-loop-number : goal.invariant-loop-number
invariant-loop-number l = l.is_reached ≡ reaches l.schedule l.from l.number
