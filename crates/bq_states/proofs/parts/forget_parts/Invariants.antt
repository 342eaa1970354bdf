use Rattle.std.proofs.Common.{◌≡◌, ◌<◌, ◌≤◌, ℕ, None, slice_index_or}
use Rattle.bq_states.specs.Parts.{Outlives}
use Rattle.bq_states.proofs.parts.forget_parts.Given as goal

abbrev pub invariant-loop-j : goal.invariant-loop-j
invariant-loop-j l = record {
  done : (k : ℕ) → k < l.j → Outlives l.from l.to (slice_index_or l.initial.parts k None) (slice_index_or l.parts k None);
  rest : (k : ℕ) → l.j ≤ k → slice_index_or l.parts k None ≡ slice_index_or l.initial.parts k None;
}
