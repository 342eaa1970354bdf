use Rattle.std.proofs.Common.{◌≡◌, ◌<◌, ◌≤◌, ℕ, None, slice_index_or}
use Rattle.bq_states.proofs.registers.clear.Given as goal

abbrev pub invariant-loop-register : goal.invariant-loop-register
invariant-loop-register l = record {
  forgotten : (r : ℕ) → 1 ≤ r → r < l.register → slice_index_or l.registers r None ≡ None;
  first : slice_index_or l.registers 0 None ≡ slice_index_or l.initial.registers 0 None;
  others : (r : ℕ) → l.register ≤ r → slice_index_or l.registers r None ≡ slice_index_or l.initial.registers r None;
}
