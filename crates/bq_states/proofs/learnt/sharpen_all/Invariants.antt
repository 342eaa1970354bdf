use Rattle.std.proofs.Common.{◌≡◌, ◌≢◌, ◌+◌, ◌≤◌, ℕ, None, slice_index, slice_index_or}
use Rattle.bq_states.specs.Learnt.{IsLastingWord, IsSharper}
use Rattle.bq_states.specs.Certainty.{Certainty, CertaintyHolds}
use Rattle.bq_states.proofs.learnt.sharpen_all.Given as goal

abbrev pub invariant-loop-i : goal.invariant-loop-i
invariant-loop-i l = record {
  sharper : (k : ℕ) → IsSharper l.learnt (slice_index_or l.initial.words k None) (slice_index_or l.words k None);
  others : (k : ℕ) → slice_index l.classes (l.first + k) ≢ l.class → slice_index_or l.words k None ≡ slice_index_or l.initial.words k None;
  stands : (s : Certainty) (k : ℕ) → IsLastingWord s → CertaintyHolds s (slice_index_or l.initial.words k None) →
      CertaintyHolds s (slice_index_or l.words k None);
  rest : (k : ℕ) → l.i ≤ k → slice_index_or l.words k None ≡ slice_index_or l.initial.words k None;
}
