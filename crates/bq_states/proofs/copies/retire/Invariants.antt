use Rattle.std.proofs.Common.{◌≡◌, ◌≢◌, ◌<◌, ℕ, slice_index}
use Rattle.bq_states.proofs.copies.retire.Given as goal

abbrev pub invariant-loop-place : goal.invariant-loop-place
invariant-loop-place l = record {
  kept : (p : ℕ) → slice_index l.classes p ≢ 0 → slice_index l.classes p ≡ slice_index l.initial.classes p;
  gone : l.class ≢ 0 → (p : ℕ) → p < l.place → slice_index l.classes p ≢ l.class;
}
