-- Round steps of time.
use Rattle.std.specs.Prelude.{ℕ, ◌*◌, Bool, nat_le, List, [], ◌∷◌}

-- 1, 2 and 5 times each power of ten, up to more than a clock of 48 bits can count, in nanoseconds
abbrev pub round_steps : List ℕ
round_steps =
    1 ∷ 2 ∷ 5 ∷ 10 ∷ 20 ∷ 50 ∷ 100 ∷ 200 ∷ 500
    ∷ 1000 ∷ 2000 ∷ 5000 ∷ 10000 ∷ 20000 ∷ 50000 ∷ 100000 ∷ 200000 ∷ 500000
    ∷ 1000000 ∷ 2000000 ∷ 5000000 ∷ 10000000 ∷ 20000000 ∷ 50000000 ∷ 100000000 ∷ 200000000 ∷ 500000000
    ∷ 1000000000 ∷ 2000000000 ∷ 5000000000 ∷ 10000000000 ∷ 20000000000 ∷ 50000000000 ∷ 100000000000 ∷ 200000000000 ∷ 500000000000
    ∷ 1000000000000 ∷ 2000000000000 ∷ 5000000000000 ∷ 10000000000000 ∷ 20000000000000 ∷ 50000000000000 ∷ 100000000000000 ∷ 200000000000000 ∷ 500000000000000 ∷ []

-- this many steps of this length cover the span
abbrev pub covers : ℕ → ℕ → ℕ → Bool
covers span count step = nat_le span (step * count)
