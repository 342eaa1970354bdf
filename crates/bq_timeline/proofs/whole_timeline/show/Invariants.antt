use Rattle.std.proofs.Common.{◌≡◌}
use Rattle.bq_streams.specs.Counts.{counted_inner, call_count, failures_of, HasCounted}
use Rattle.bq_timeline.proofs.WatchLemmas.{Underway}
use Rattle.bq_timeline.proofs.whole_timeline.show.Given as goal

-- nothing has failed, each turn was a read, and what was read is reported
abbrev pub invariant-loop : goal.invariant-loop
invariant-loop g l = record {
  reads : failures_of l.input ≡ failures_of l.initial.input;
  writes : failures_of l.output ≡ failures_of l.initial.output;
  calls : HasCounted l.counter (call_count l.initial.input) (call_count l.input);
  so_far : Underway l.fn.settings (g.R.Read.remaining (counted_inner l.initial.input)) (g.R.Read.remaining (counted_inner l.input))
      (g.W.Write.contents (counted_inner l.initial.output)) (g.W.Write.contents (counted_inner l.output)) l.timeline;
}
