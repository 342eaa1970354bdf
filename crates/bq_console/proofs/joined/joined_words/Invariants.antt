use Rattle.std.proofs.Common.{◌≡◌, false, map, string_bytes, ◌++◌, length}
use Rattle.bq_console.specs.Words.{options_joined}
use Rattle.bq_console.proofs.joined.joined_words.Given as goal

-- what is joined so far, with the rest joined behind it, is all joined
abbrev pub invariant-words : goal.invariant-words
invariant-words l = map string_bytes l.all.items ++ options_joined l.has_ended (map string_bytes l.rest) ≡ options_joined false (map string_bytes l.words)

abbrev pub decreases-words : goal.decreases-words
decreases-words l = length l.rest
