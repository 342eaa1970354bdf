use Rattle.std.proofs.Common.{length}
use Rattle.bq_words.specs.Words.{words}
use Rattle.bq_lines.proofs.line_fault.word_fault.Given as goal

abbrev pub decreases-words : goal.decreases-words
decreases-words l = length (words l.rest)
