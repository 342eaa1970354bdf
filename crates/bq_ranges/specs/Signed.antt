-- The order of words as signed numbers. Words in the upper half of a width have its sign bit and are below zero.
use Rattle.std.specs.Prelude.{◌≡◌, ℕ, ◌<◌, ◌≤◌, ◌⊎◌, Bool, Option, Some, None}
use Rattle.bq_insn.specs.declared.Width.{Width}
use Rattle.bq_insn.specs.declared.Condition.{Condition}
use Rattle.bq_bpf.specs.Meaning.{compares}
use Rattle.bq_ranges.specs.declared.range.Range.{Range}
use Rattle.bq_ranges.specs.Within.{Within}

-- `a` is at most `b` as a signed number: only `a` has the sign bit, or `b` is not the only one to have it and the words
-- compare so
abbrev pub IsSignedAtMost : ℕ → ℕ → ℕ → Type 0
IsSignedAtMost half a b = ((half ≤ a) × (b < half)) ⊎ (((half ≤ a) ⊎ (b < half)) × (a ≤ b))

-- `a` is below `b` as a signed number
abbrev pub IsSignedBelow : ℕ → ℕ → ℕ → Type 0
IsSignedBelow half a b = ((half ≤ a) × (b < half)) ⊎ (((half ≤ a) ⊎ (b < half)) × (a < b))

-- both ends of the range that is left are members for which the test against `b` comes out as `goes` says
abbrev pub EndsMeet : Width → Condition → Range → ℕ → Bool → Option Range → Type 0
EndsMeet w cond a b goes None = Unit {0}
EndsMeet w cond a b goes (Some r) = (Within a r.lo × (compares w cond r.lo b ≡ goes)) × (Within a r.hi × (compares w cond r.hi b ≡ goes))
