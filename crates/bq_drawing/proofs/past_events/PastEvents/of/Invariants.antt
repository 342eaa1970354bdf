use Rattle.std.proofs.Common.{◌≡◌, replicate, None}
use Rattle.bq_drawing.specs.PastEvents.{no_arrows}
use Rattle.bq_drawing.proofs.past_events.PastEvents.of.Given as goal

abbrev pub invariant-processors : goal.invariant-processors
invariant-processors l = record {
  ends : l.ends.items ≡ replicate l.counter no_arrows;
  counts : l.counts.items ≡ replicate l.counter 0;
}

abbrev pub invariant-tasks : goal.invariant-tasks
invariant-tasks l = record {
  woken : l.woken.items ≡ replicate l.counter None;
  runs : l.runs.items ≡ replicate l.counter None;
}
