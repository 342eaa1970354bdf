-- Times that are too great.
use Rattle.std.specs.Prelude.{ℕ, Bool, not, ◌-◌, ◌&&◌, List, drop, is_some, option_and_then, position}
use Rattle.std.specs.Char.{is_ascii_digit}
use Rattle.bq_words.specs.Durations.{duration_of}

-- a byte that is no digit
abbrev pub is_no_digit : ℕ → Bool
is_no_digit byte = not (is_ascii_digit byte)

-- The word is no time, but only since it has 2^64 ns or more: with only the last of its digits before a point or the unit, it is a time.
abbrev pub is_too_great : List ℕ → Bool
is_too_great word =
    not (is_some (duration_of word)) && is_some (option_and_then (λ end. duration_of (drop (end - 1) word)) (position is_no_digit word))
