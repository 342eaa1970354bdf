-- Fractions of a unit of time, digit by digit.
use Rattle.std.proofs.Common.{ℕ, ◌+◌, List, cond, ltb, Some, None, Option}
use Rattle.std.specs.List.{list_all}
use Rattle.std.specs.Char.{digit_value}
use Rattle.bq_words.specs.Durations.{parts_of}

-- a part of a unit, and that of these digits, of which the first counts a tenth of so much
abbrev pub fraction_from : ℕ → ℕ → List ℕ → Option ℕ
fraction_from counts part digits = cond (list_all (λ c. ltb (digit_value c) 10) digits) (Some (part + parts_of counts digits)) None
