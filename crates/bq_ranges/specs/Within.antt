-- The members of a range.
use Rattle.std.specs.Prelude.{ℕ, ◌≤◌, Option, Some, None}
use Rattle.bq_ranges.specs.declared.range.Range.{Range}

-- the word is in the range
abbrev pub Within : Range → ℕ → Type 0
Within r x = (r.lo ≤ x) × (x ≤ r.hi)

-- a range is left, and the word is in it
abbrev pub NarrowsTo : Option Range → ℕ → Type 0
NarrowsTo None x = ⊥
NarrowsTo (Some r) x = Within r x

-- both ends of the range that is left have the property; nothing is said if none is left
abbrev pub EndsAre : (ℕ → Type 0) → Option Range → Type 0
EndsAre P None = Unit {0}
EndsAre P (Some r) = P r.lo × P r.hi
