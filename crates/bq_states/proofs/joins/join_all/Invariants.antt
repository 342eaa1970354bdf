use Rattle.std.proofs.Common.{◌≡◌, ◌<◌, ◌≤◌, ℕ, None, slice_index_or}
use Rattle.bq_states.specs.AbstractStates.{Allows}
use Rattle.bq_states.specs.Certainty.{Certainty, CertaintyHolds}
use Rattle.bq_states.proofs.joins.join_all.Given as goal

abbrev pub invariant-loop-i : goal.invariant-loop-i
invariant-loop-i l = record {
  left : (k : ℕ) → k < l.i → Allows l.shapes (slice_index_or l.initial.into k None) (slice_index_or l.into k None);
  right : (k : ℕ) → k < l.i → Allows l.shapes (slice_index_or l.other k None) (slice_index_or l.into k None);
  stands : (s : Certainty) (k : ℕ) → k < l.i → CertaintyHolds s (slice_index_or l.initial.into k None) →
      CertaintyHolds s (slice_index_or l.other k None) → CertaintyHolds s (slice_index_or l.into k None);
  rest : (k : ℕ) → l.i ≤ k → slice_index_or l.into k None ≡ slice_index_or l.initial.into k None;
}
