-- Counts that stop at the greatest number.
use Rattle.std.proofs.Common.{◌≡◌, ℕ, ◌+◌, arith}
use Rattle.bq_disc.specs.Counts.{saturating_sum}

-- two counts that are added in turn, up to the greatest number, are their sum added at once
pub saturating_sum-both : (n a b : ℕ) → saturating_sum (saturating_sum n a) b ≡ saturating_sum n (a + b)
saturating_sum-both n a b = omega arith
