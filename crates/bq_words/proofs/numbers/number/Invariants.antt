use Rattle.std.proofs.Common.{◌≡◌, ◌<◌, ◌^◌, drop}
use Rattle.bq_words.proofs.NumberLemmas.{number_from}
use Rattle.bq_words.proofs.numbers.number.Given as goal

-- the number of the word is that of the rest of it, after the value so far
abbrev pub invariant-loop-byte : goal.invariant-loop-byte
invariant-loop-byte l = record {
  fits : l.value < 2 ^ 64;
  so_far : number_from l.base 0 l.word ≡ number_from l.base l.value (drop l.byte-index l.word);
}
