use Rattle.std.proofs.Common.{◌≡◌}
use Rattle.std.specs.Io.KnownBytes.{Consumes}
use Rattle.bq_streams.specs.Counts.{counted_inner, call_count, failures_of, HasCounted}
use Rattle.bq_streams.proofs.whole.read_whole.Given as goal

-- nothing has failed, each turn was a read, and what was read is kept
abbrev pub invariant-loop : goal.invariant-loop
invariant-loop g l = record {
  reads : failures_of l.input ≡ failures_of l.initial.input;
  calls : HasCounted l.counter (call_count l.initial.input) (call_count l.input);
  consumed : Consumes (g.R.Read.remaining (counted_inner l.initial.input)) (g.R.Read.remaining (counted_inner l.input)) l.whole.items;
}
