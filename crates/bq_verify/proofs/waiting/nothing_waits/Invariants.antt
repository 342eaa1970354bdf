use Rattle.std.proofs.Common.{◌≡◌, ℕ, None, length, slice_index_or}
use Rattle.bq_verify.proofs.waiting.nothing_waits.Given as goal

abbrev pub invariant-loop : goal.invariant-loop
invariant-loop l = record {
  room : length l.pending.items ≡ l.counter;
  blank : (k : ℕ) → slice_index_or l.pending.items k None ≡ None;
}
