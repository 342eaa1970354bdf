use Rattle.std.proofs.Common.{◌≡◌, length}
use Rattle.bq_streams.specs.Counts.{HasCounted}
use Rattle.bq_streams.specs.Writing.{LeavesRest}
use Rattle.bq_streams.proofs.counted.Counted.write_text.Given as goal

-- the rest is not yet written, and no write has failed
abbrev pub invariant-loop-rest : goal.invariant-loop-rest
invariant-loop-rest g l = record {
  calls : HasCounted 0 l.initial.self.calls l.self.calls;
  kept : l.self.failures ≡ l.initial.self.failures;
  left : LeavesRest (g.W.Write.contents l.initial.self.inner) (g.W.Write.contents l.self.inner) l.text l.rest;
}

abbrev pub decreases-loop-rest : goal.decreases-loop-rest
decreases-loop-rest g l = length l.rest
