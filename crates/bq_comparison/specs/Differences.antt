-- Differences of means.
use Rattle.std.specs.Prelude.{◌≡◌, ℕ, ◌+◌, ◌<◌}
use Rattle.bq_comparison.specs.declared.difference.Difference.{Difference}
use Rattle.bq_comparison.specs.declared.difference.Difference.TheVariants.{Less, More}

-- their mean is so much more than ours, or so much less
abbrev pub IsDifference : ℕ → ℕ → Difference → Type 0
IsDifference ours theirs (More size) = theirs ≡ ours + size
IsDifference ours theirs (Less size) = (ours ≡ theirs + size) × (0 < size)
