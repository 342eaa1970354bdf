-- The mean and the standard deviation of some whole numbers, in whole thousandths.
use Rattle.std.specs.Prelude.{ℕ, ◌+◌, ◌-◌, ◌*◌, ◌^◌, ◌<◌, ◌≤◌, ◌⊎◌, List, length, sum, sum_by}

-- the mean of n numbers with this sum: this many thousandths, and not one more
abbrev pub IsMeanBySum : ℕ → ℕ → ℕ → Type 0
IsMeanBySum n total mean = (mean * n ≤ total * 1000) × (total * 1000 < (mean + 1) * n)

-- the mean of some numbers
abbrev pub IsMean : List ℕ → ℕ → Type 0
IsMean xs mean = IsMeanBySum (length xs) (sum xs) mean

-- the sum of the squares of some numbers
abbrev pub squares : List ℕ → ℕ
squares xs = sum_by (λ x. x * x) xs

-- the root of a ratio in thousandths: this many of them, and not one more
abbrev pub IsRoot : ℕ → ℕ → ℕ → Type 0
IsRoot above below root = (root * root * below ≤ above * 1000000) × (above * 1000000 < (root + 1) * (root + 1) * below)

-- the sample's standard deviation of n numbers, given the sum of their squares and the size of their sum: the root of the sum of the
-- squared differences from their mean, which is (n Σx² - (Σx)²) / n, over n - 1
abbrev pub IsDeviationBySums : ℕ → ℕ → ℕ → ℕ → Type 0
IsDeviationBySums n squared total deviation = IsRoot (n * squared - total * total) (n * (n - 1)) deviation

-- these sums are too great for the arithmetic of 128 bits
abbrev pub AreTooGreatSums : ℕ → ℕ → ℕ → Type 0
AreTooGreatSums n squared total = (2 ^ 128 ≤ n * squared * 1000000) ⊎ (2 ^ 128 ≤ total * total)

-- the sample's standard deviation of some numbers
abbrev pub IsDeviation : List ℕ → ℕ → Type 0
IsDeviation xs deviation = IsDeviationBySums (length xs) (squares xs) (sum xs) deviation

-- the numbers are too great for the arithmetic of 128 bits
abbrev pub IsTooGreat : List ℕ → Type 0
IsTooGreat xs = AreTooGreatSums (length xs) (squares xs) (sum xs)
