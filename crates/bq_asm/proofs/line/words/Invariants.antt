use Rattle.std.proofs.Common.{◌≡◌, ◌++◌, length}
use Rattle.bq_asm.specs.Lines.{words_between_blanks}
use Rattle.bq_asm.specs.Operands.{word_texts}
use Rattle.bq_asm.proofs.line.words.Given as goal

-- the words found, and those of the rest
abbrev pub invariant-loop-word : goal.invariant-loop-word
invariant-loop-word l = words_between_blanks l.text ≡ word_texts l.found.items ++ words_between_blanks l.rest

abbrev pub decreases-loop-word : goal.decreases-loop-word
decreases-loop-word l = length (words_between_blanks l.rest)
