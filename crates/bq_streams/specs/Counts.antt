-- Readers and writers that are counted, and counts of 64 bits.
use Rattle.std.specs.Prelude.{◌≡◌, ℕ, ◌+◌, ◌-◌, ◌^◌, ◌<◌, ◌≤◌, ◌⊎◌, min}
use Rattle.bq_streams.specs.declared.counted.Counted.{Counted}

-- the reader or the writer itself
abbrev pub counted_inner : {T : Type 0} → Counted T → T
counted_inner c = c.inner

-- how often the reader or the writer was called
abbrev pub call_count : {T : Type 0} → Counted T → ℕ
call_count c = c.calls

-- how often a call failed
abbrev pub failures_of : {T : Type 0} → Counted T → ℕ
failures_of c = c.failures

-- a count after one more call: the greatest value stays
abbrev pub one_more : ℕ → ℕ
one_more n = min (n + 1) (2 ^ 64 - 1)

-- the count went up, or it is at its greatest value and cannot show it
abbrev pub HasRisen : ℕ → ℕ → Type 0
HasRisen old new = (old < new) ⊎ (new ≡ 2 ^ 64 - 1)

-- the count went up by at least this many, or to its greatest value
abbrev pub HasCounted : ℕ → ℕ → ℕ → Type 0
HasCounted n old new = min (old + n) (2 ^ 64 - 1) ≤ new
