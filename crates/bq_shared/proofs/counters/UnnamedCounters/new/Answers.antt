use Rattle.bq_shared.proofs.KeepingLemmas.{sums_at_start}
use Rattle.bq_shared.proofs.counters.UnnamedCounters.new.Goals as goal

pub of_words-requires : goal.of_words-requires
of_words-requires c = sums_at_start c.args.seats
