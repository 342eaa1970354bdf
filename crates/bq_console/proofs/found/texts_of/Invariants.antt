use Rattle.std.proofs.Common.{◌≡◌, map, take}
use Rattle.std.specs.String.{string_bytes}
use Rattle.bq_console.proofs.found.texts_of.Given as goal

-- the words so far have their texts
abbrev pub invariant-words : goal.invariant-words
invariant-words l = map (λ t. string_bytes t) l.all.items ≡ map (λ w. w.now) (take l.word-index l.words)
