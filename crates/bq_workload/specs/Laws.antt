-- Laws of the lengths that are drawn.
use Rattle.std.specs.Prelude.{ℕ, ◌+◌, ◌*◌, ◌^◌, ◌<◌, ◌≤◌}
use Rattle.bq_workload.specs.Draws.{fraction, exponential}

-- This many digits of a mantissa's logarithm to base 2, if the mantissa counts by 2^63: never more than the logarithm, and less
-- than two units of the last digit below the logarithm
abbrev pub GivesLogarithm : Type 0
GivesLogarithm =
    (n m : ℕ) → 2 ^ 63 ≤ m → m < 2 ^ 64 → n ≤ 62 →
    (2 ^ (fraction n 0 m + 63 * 2 ^ n) ≤ m ^ (2 ^ n)) × (m ^ (2 ^ n) < 2 ^ (fraction n 0 m + 2 + 63 * 2 ^ n))

-- greater words never give a longer length
abbrev pub FallsWithWords : Type 0
FallsWithWords =
    (mean first second higher later : ℕ) → first ≤ higher → higher < 2 ^ 64 → second ≤ later →
    exponential mean higher later ≤ exponential mean first second
