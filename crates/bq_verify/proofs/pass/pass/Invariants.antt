use Rattle.std.proofs.Common.{◌≡◌, ℕ, true, length}
use Rattle.bq_verify.specs.Subjects.{subject_of_view}
use Rattle.bq_verify.specs.Control.{BoundsCalls, IsKnown, RestIsSafe}
use Rattle.bq_verify.specs.Straight.{IsStraightProgram}
use Rattle.bq_verify.specs.Sure.{IsSure}
use Rattle.bq_verify.proofs.pass.pass.Given as goal

abbrev pub invariant-loop-slot : goal.invariant-loop-slot
invariant-loop-slot l = record {
  long : length l.pending ≡ length l.subject.slots.now;
  rest : (made : ℕ → ℕ) → BoundsCalls l.subject.slots.now made →
      RestIsSafe (subject_of_view l.subject) l.heights made l.slot (IsKnown l.pending l.state l.live l.slot) →
      RestIsSafe (subject_of_view l.subject) l.heights made 0 (IsKnown l.initial.pending l.initial.state true 0);
  sure : IsStraightProgram (subject_of_view l.subject) → IsSure l.subject.slots.now l.initial.pending l.initial.state true 0 →
      IsSure l.subject.slots.now l.pending l.state l.live l.slot;
}
