use Rattle.std.proofs.Common.{◌≡◌, ◌≤◌, ℕ, length}
use Rattle.bq_states.specs.declared.abstract_state.AbstractState.{AbstractState}
use Rattle.bq_verify.specs.Subjects.{subject_of_view}
use Rattle.bq_verify.specs.Control.{IsKnown}
use Rattle.bq_verify.specs.KnownAt.{ContainsRuns, RestIsCovered}
use Rattle.bq_verify.specs.Straight.{IsStraightBefore}
use Rattle.bq_verify.specs.Sure.{IsSure}
use Rattle.bq_verify.proofs.KnownLemmas.{AreKnownBefore}
use Rattle.bq_verify.proofs.known_at.states_in_pass.Given as goal

abbrev pub invariant-loop-slot : goal.invariant-loop-slot
invariant-loop-slot l = record {
  long : length l.pending ≡ length l.subject.slots.now;
  known : AreKnownBefore (subject_of_view l.subject) l.slot l.states.items;
  rest : (target : ℕ) (seen : AbstractState) → l.slot ≤ target →
      RestIsCovered (subject_of_view l.subject) target seen l.slot (IsKnown l.pending l.state l.live l.slot) →
      ContainsRuns (subject_of_view l.subject) target seen;
  sure : IsStraightBefore (subject_of_view l.subject) l.slot → IsSure l.subject.slots.now l.pending l.state l.live l.slot;
}
