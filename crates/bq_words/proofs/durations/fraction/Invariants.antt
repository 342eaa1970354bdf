use Rattle.std.proofs.Common.{◌≡◌, ◌+◌, ◌≤◌, drop}
use Rattle.bq_words.proofs.DurationLemmas.{fraction_from}
use Rattle.bq_words.proofs.durations.fraction.Given as goal

-- the digits so far count no more than the unit leaves, and the fraction is theirs and that of the rest
abbrev pub invariant-loop-byte : goal.invariant-loop-byte
invariant-loop-byte l = record {
  fits : l.part + l.counts ≤ l.unit;
  so_far : fraction_from l.unit 0 l.digits ≡ fraction_from l.counts l.part (drop l.byte-index l.digits);
}
