use Rattle.std.proofs.Common.{◌≡◌, ◌++◌, length, drop}
use Rattle.bq_parts.specs.World.{loads_of}
use Rattle.bq_core.proofs.waking.loads_of.Given as goal

abbrev pub invariant-loop-at : goal.invariant-loop-at
invariant-loop-at g l = record {
  goes_on : l.loads ++ loads_of (drop l.at l.cpus) (drop l.at l.inboxes) ≡ loads_of l.fn.cpus l.fn.inboxes;
  counted : length l.loads ≡ l.at;
}
