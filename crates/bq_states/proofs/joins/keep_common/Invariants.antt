use Rattle.std.proofs.Common.{◌≡◌, ◌<◌, ◌≤◌, ℕ, true, false, slice_index_or}
use Rattle.bq_states.proofs.joins.keep_common.Given as goal

abbrev pub invariant-loop-i : goal.invariant-loop-i
invariant-loop-i l = record {
  left : (k : ℕ) → k < l.i → slice_index_or l.into k false ≡ true → slice_index_or l.initial.into k false ≡ true;
  right : (k : ℕ) → k < l.i → slice_index_or l.into k false ≡ true → slice_index_or l.other k false ≡ true;
  both : (k : ℕ) → k < l.i → slice_index_or l.initial.into k false ≡ true → slice_index_or l.other k false ≡ true →
      slice_index_or l.into k false ≡ true;
  rest : (k : ℕ) → l.i ≤ k → slice_index_or l.into k false ≡ slice_index_or l.initial.into k false;
}
