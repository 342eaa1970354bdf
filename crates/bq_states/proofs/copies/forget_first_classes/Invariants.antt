use Rattle.std.proofs.Common.{◌≡◌, ◌≢◌, ◌≤◌, ℕ, slice_index}
use Rattle.bq_states.proofs.copies.forget_first_classes.Given as goal

abbrev pub invariant-loop-register : goal.invariant-loop-register
invariant-loop-register l =
    (p : ℕ) → slice_index l.classes p ≢ 0 → (l.register ≤ p) × (slice_index l.classes p ≡ slice_index l.initial.classes p)
