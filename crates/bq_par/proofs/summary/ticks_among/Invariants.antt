use Rattle.std.proofs.Common.{◌≡◌, ◌≤◌, take}
use Rattle.std.specs.List.{sum_by}
use Rattle.bq_par.specs.Ticks.{one_tick}
use Rattle.bq_par.proofs.summary.ticks_among.Given as goal

abbrev pub invariant-loop-entry : goal.invariant-loop-entry
invariant-loop-entry l = record {
  counted : l.ticks ≡ sum_by (λ r. one_tick r.now) (take l.entry-index l.records);
  few : l.ticks ≤ l.entry-index;
}
