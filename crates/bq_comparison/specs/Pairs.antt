-- The numbers of a figure in two runs with the same seed, and their differences: theirs less ours.
use Rattle.std.specs.Prelude.{◌≡◌, ℕ, ◌*◌, ◌<◌, ◌⊎◌, List, [], Option, None, Some, length, sum_by, slice_get, MatchOption}
use Rattle.std.specs.List.{filter_map, zip}
use Rattle.std.specs.Int.{abs_diff}
use Rattle.bq_comparison.specs.Differences.{IsDifference}
use Rattle.bq_comparison.specs.Means.{AreTooGreatSums, IsDeviationBySums, IsMeanBySum}
use Rattle.bq_comparison.specs.Runs.{figure_value_at}
use Rattle.bq_comparison.specs.declared.difference.Difference.{Difference}
use Rattle.bq_comparison.specs.declared.pairs.Pair.{Pair}
use Rattle.bq_comparison.specs.declared.pairs.PairedRow.{PairedRow}
use Rattle.bq_comparison.specs.declared.runs.RunFigures.{RunFigures}

-- the size of the difference of two numbers
abbrev pub size_of_difference : Pair → ℕ
size_of_difference pair = abs_diff pair.ours pair.theirs

-- the sum of our numbers
abbrev pub our_sum : List Pair → ℕ
our_sum pairs = sum_by (λ p. p.ours) pairs

-- the sum of their numbers
abbrev pub their_sum : List Pair → ℕ
their_sum pairs = sum_by (λ p. p.theirs) pairs

-- the sum of the squares of the differences; a square has no sign
abbrev pub squared_differences : List Pair → ℕ
squared_differences pairs = sum_by (λ p. size_of_difference p * size_of_difference p) pairs

-- the size of the sum of the differences: theirs less ours
abbrev pub size_of_sum : List Pair → ℕ
size_of_sum pairs = abs_diff (our_sum pairs) (their_sum pairs)

-- the sample's standard deviation of the differences, by their sums
abbrev pub IsPairedDeviation : List Pair → ℕ → Type 0
IsPairedDeviation pairs deviation = IsDeviationBySums (length pairs) (squared_differences pairs) (size_of_sum pairs) deviation

-- their sums are too great for the arithmetic of 128 bits
abbrev pub ArePairsTooGreat : List Pair → Type 0
ArePairsTooGreat pairs = AreTooGreatSums (length pairs) (squared_differences pairs) (size_of_sum pairs)

-- the mean of their numbers less the mean of ours
abbrev pub IsPairedDifference : List Pair → Difference → Type 0
IsPairedDifference pairs difference =
    (ours theirs : ℕ) × IsMeanBySum (length pairs) (our_sum pairs) ours × IsMeanBySum (length pairs) (their_sum pairs) theirs
    × IsDifference ours theirs difference

-- what the pairs say of a figure
pub record IsPairedRow (pairs : List Pair) (row : PairedRow) : Type 0 where
  pub runs : row.runs ≡ length pairs
  pub difference : MatchOption row.difference (pairs ≡ []) (IsPairedDifference pairs)
  pub deviation : MatchOption row.deviation ((length pairs < 2) ⊎ ArePairsTooGreat pairs) (IsPairedDeviation pairs)

-- two numbers, if both are there
abbrev pub pair_of : Option ℕ → Option ℕ → Option Pair
pair_of None theirs = None
pair_of (Some ours) None = None
pair_of (Some ours) (Some theirs) = Some (record { ours = ours; theirs = theirs })

-- the two numbers at a place, if both runs have one there
abbrev pub pair_at : ℕ → RunFigures × RunFigures → Option Pair
pair_at place both = pair_of (figure_value_at place both.0) (figure_value_at place both.1)

-- the pairs at a place, of the seeds with which both runs have a number there
abbrev pub pairs_at : ℕ → List RunFigures → List RunFigures → List Pair
pairs_at place ours theirs = filter_map (pair_at place) (zip ours theirs)

-- this many rows, each of the pairs at its place
pub record ArePairedRows (ours theirs : List RunFigures) (count : ℕ) (rows : List PairedRow) : Type 0 where
  pub number : length rows ≡ count
  pub rows_are : (place : ℕ) (row : PairedRow) → slice_get rows place ≡ Some row → IsPairedRow (pairs_at place ours theirs) row
