use Rattle.std.proofs.Common.{◌≡◌, map, take}
use Rattle.std.specs.String.{string_bytes}
use Rattle.bq_console.proofs.given.as_texts.Given as goal

-- the texts so far are those of their words
abbrev pub invariant-words : goal.invariant-words
invariant-words l = map (λ t. t.now) l.texts.items ≡ map (λ w. string_bytes w) (take l.word-index l.words.items)
