-- The words of a task: a generator Pcg32 whose state is the seed and whose stream is the task's number. Each draw takes two
-- words of 64 bits.
use Rattle.std.specs.Prelude.{ℕ, zero, suc}
use Rattle.rand_core.specs.Steps.{u64_via_u32}
use Rattle.rand_pcg.specs.Lcg.{Lcg, started, increment_of}
use Rattle.rand_pcg.specs.Pcg.{pcg32, multiplier_64}

-- the generator of a task before its first draw
abbrev pub stream_of_task : ℕ → ℕ → Lcg
stream_of_task seed task = started 64 multiplier_64 seed (increment_of 64 task)

-- the first word of the next draw
abbrev pub first_word : Lcg → ℕ
first_word g = (u64_via_u32 pcg32 g).0

-- the second word of the next draw
abbrev pub second_word : Lcg → ℕ
second_word g = (u64_via_u32 pcg32 (u64_via_u32 pcg32 g).1).0

-- the generator after one draw
abbrev pub after_draw : Lcg → Lcg
after_draw g = (u64_via_u32 pcg32 (u64_via_u32 pcg32 g).1).1

-- the generator after this many draws
unfoldable pub after_draws : ℕ → Lcg → Lcg
after_draws zero g = g
after_draws (suc n) g = after_draws n (after_draw g)
