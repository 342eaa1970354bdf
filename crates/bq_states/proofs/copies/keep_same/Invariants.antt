use Rattle.std.proofs.Common.{◌≡◌, ◌≢◌, ◌<◌, ℕ, slice_index}
use Rattle.bq_states.proofs.copies.keep_same.Given as goal

abbrev pub invariant-loop-place : goal.invariant-loop-place
invariant-loop-place l = record {
  left : (p : ℕ) → slice_index l.into p ≢ 0 → slice_index l.into p ≡ slice_index l.initial.into p;
  right : (p : ℕ) → p < l.place → slice_index l.into p ≢ 0 → slice_index l.into p ≡ slice_index l.other p;
}
