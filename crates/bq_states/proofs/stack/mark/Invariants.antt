use Rattle.std.proofs.Common.{◌≡◌, ◌<◌, ◌≤◌, ℕ, true, false, slice_index_or}
use Rattle.bq_states.specs.AbstractStates.{Marks}
use Rattle.bq_states.proofs.stack.mark.Given as goal

abbrev pub invariant-loop-k : goal.invariant-loop-k
invariant-loop-k l = record {
  only : Marks l.initial.set l.set l.from l.to;
  marked : (i : ℕ) → l.from ≤ i → i < l.k → slice_index_or l.set i false ≡ true;
  kept : (i : ℕ) → slice_index_or l.initial.set i false ≡ true → slice_index_or l.set i false ≡ true;
}
