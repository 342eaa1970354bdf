use Rattle.std.proofs.Common.{◌≡◌, ◌≢◌, ◌+◌, ◌/◌, ◌<◌, ◌≤◌, ℕ, slice_index}
use Rattle.bq_states.proofs.copies.forget_slot_classes.Given as goal

abbrev pub invariant-loop-slot : goal.invariant-loop-slot
invariant-loop-slot l = record {
  kept : (p : ℕ) → slice_index l.classes p ≢ 0 → slice_index l.classes p ≡ slice_index l.initial.classes p;
  gone : (j : ℕ) → l.from / 8 ≤ j → j < l.slot → slice_index l.classes (11 + j) ≡ 0;
}
