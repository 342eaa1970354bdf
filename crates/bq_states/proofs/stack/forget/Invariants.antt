use Rattle.std.proofs.Common.{◌≡◌, ◌<◌, ◌≤◌, ◌+◌, ◌*◌, ◌⊎◌, ℕ, None, slice_index_or}
use Rattle.bq_states.proofs.stack.forget.Given as goal

abbrev pub invariant-loop-j : goal.invariant-loop-j
invariant-loop-j l = record {
  done : (j : ℕ) → j < l.j →
      (slice_index_or l.kept j None ≡ None)
      ⊎ ((slice_index_or l.kept j None ≡ slice_index_or l.initial.kept j None) × ((8 * j + 8 ≤ l.from) ⊎ (l.to ≤ 8 * j)));
  rest : (j : ℕ) → l.j ≤ j → slice_index_or l.kept j None ≡ slice_index_or l.initial.kept j None;
}
