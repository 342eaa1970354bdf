use Rattle.std.proofs.Common.{◌≡◌, length}
use Rattle.bq_words.specs.Words.{words_by}
use Rattle.bq_words.proofs.words.without_blanks.Given as goal

abbrev pub invariant-loop-rest : goal.invariant-loop-rest
invariant-loop-rest g l = words_by g.B.Blank.is_blank l.rest ≡ words_by g.B.Blank.is_blank l.text

abbrev pub decreases-loop-rest : goal.decreases-loop-rest
decreases-loop-rest g l = length l.rest
