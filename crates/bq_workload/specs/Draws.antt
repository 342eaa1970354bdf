-- The length that two words give.
use Rattle.std.specs.Prelude.{ℕ, zero, suc, ◌+◌, ◌-◌, ◌*◌, ◌/◌, ◌^◌, nat_lt, min, max, if◌then◌else◌}
use Rattle.std.specs.Int.{w64, leading_zeros}
use Rattle.bq_workload.specs.declared.action.Length.{Length}
use Rattle.bq_workload.specs.declared.action.Length.TheVariants.{Fixed, Uniform, Exponential}
use Rattle.bq_workload.specs.Lengths.{longest}

-- the numbers from the least to the greatest divide the words among them
abbrev pub uniform : ℕ → ℕ → ℕ → ℕ
uniform least greatest word = least + word * (greatest - least + 1) / 2 ^ 64

-- the square of a mantissa from 2^63 to 2^64; a square of 2 or more is halved
abbrev pub squared : ℕ → ℕ
squared m = if nat_lt (m * m) (2 ^ 127) then m * m / 2 ^ 63 else m * m / 2 ^ 64

-- the next binary digit of its logarithm to base 2
abbrev pub digit : ℕ → ℕ
digit m = if nat_lt (m * m) (2 ^ 127) then 0 else 1

-- this many more digits of the logarithm of a mantissa, after the digits that are known
unfoldable pub fraction : ℕ → ℕ → ℕ → ℕ
fraction zero known m = known
fraction (suc n) known m = fraction n (2 * known + digit m) (squared m)

-- minus the logarithm to base 2 of a number from 0 to 1, in units of 2^-32: the number is a half for each zero that the first
-- word begins with and one half more, times a mantissa from 1 to 2 by the second
abbrev pub logarithm : ℕ → ℕ → ℕ
logarithm first second = (leading_zeros w64 first + 1) * 2 ^ 32 - fraction 32 0 (2 ^ 63 + second / 2)

-- minus the natural logarithm of the drawn number (`logarithm` has it to base 2), times the mean; at least 1 and at most the longest.
-- 2977044472 is the natural logarithm of 2, in units of 2^-32
abbrev pub exponential : ℕ → ℕ → ℕ → ℕ
exponential mean first second = min (max (logarithm first second * 2977044472 * mean / 2 ^ 64) 1) longest

-- the length that two words give, by what is asked for
abbrev pub length_drawn : Length → ℕ → ℕ → ℕ
length_drawn (Fixed n) first second = n
length_drawn (Uniform least greatest) first second = uniform least greatest first
length_drawn (Exponential mean) first second = exponential mean first second
