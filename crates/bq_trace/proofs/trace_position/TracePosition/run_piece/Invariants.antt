use Rattle.std.proofs.Common.{ℕ, List, ◌++◌, length}
use Rattle.bq_lines.specs.Kept.{KeepsLine}
use Rattle.bq_trace.proofs.StandingLemmas.{SoFar}
use Rattle.bq_trace.proofs.trace_position.TracePosition.run_piece.Given as goal

-- the lines that have ended are reported
abbrev pub invariant-loop-tail : goal.invariant-loop-tail
invariant-loop-tail g l =
    (begun : List ℕ) → KeepsLine l.initial.self.begun begun →
    SoFar g.S.Sink.takes l.initial.self (begun ++ l.piece) l.self l.rest l.initial.sink l.sink

abbrev pub decreases-loop-tail : goal.decreases-loop-tail
decreases-loop-tail g l = length l.rest
