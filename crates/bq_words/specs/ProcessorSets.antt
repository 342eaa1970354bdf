-- Sets of processors as words, and as bits: bit k is processor k.
use Rattle.std.specs.Prelude.{ℕ, Bool, ◌==◌, ◌+◌, ◌-◌, ◌^◌, nat_lt, List, [], ◌∷◌, take, drop, position, bit_or, Option, Some, None, if◌then◌else◌, option_and_then}
use Rattle.std.specs.List.{slice_split}
use Rattle.bq_words.specs.Numbers.{below}
use Rattle.bq_words.specs.Quantities.{processor_in_word}

-- a processor's number, if it is below 64
abbrev pub processor_below : List ℕ → Option ℕ
processor_below word = below 64 (processor_in_word word)

-- the bits from the first processor to the last, unless the range runs backwards
abbrev pub range_bits : ℕ → ℕ → Option ℕ
range_bits first last = if nat_lt last first then None else Some (2 ^ (last + 1) - 2 ^ first)

-- the bits of one number, or of a range if there is a dash
abbrev pub span_at : List ℕ → Option ℕ → Option ℕ
span_at part None = option_and_then (λ only. range_bits only only) (processor_below part)
span_at part (Some dash) =
    option_and_then (λ first. option_and_then (range_bits first) (processor_below (drop (dash + 1) part))) (processor_below (take dash part))

-- whether a byte is a dash
abbrev pub is_dash : ℕ → Bool
is_dash b = b == 45

-- the bits of a part, which is a number or a range
abbrev pub span_of : List ℕ → Option ℕ
span_of part = span_at part (position is_dash part)

-- whether a byte is a comma
abbrev pub is_comma : ℕ → Bool
is_comma b = b == 44

-- these bits, together with the bits of all parts
abbrev pub with_parts : ℕ → List (List ℕ) → Option ℕ
with_parts mask [] = Some mask
with_parts mask (part ∷ parts) = option_and_then (λ bits. with_parts (bit_or mask bits) parts) (span_of part)

-- the processors that the parts between commas name together
abbrev pub processors_of : List ℕ → Option ℕ
processors_of word = with_parts 0 (slice_split is_comma word)
