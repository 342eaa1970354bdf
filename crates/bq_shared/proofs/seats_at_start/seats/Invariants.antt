use Rattle.std.proofs.Common.{◌≡◌, ◌-◌}
use Rattle.bq_history.specs.Items.{callers_from}
use Rattle.bq_shared.specs.Sums.{fresh_account}
use Rattle.bq_shared.specs.Calls.{fresh_callers}
use Rattle.bq_shared.proofs.seats_at_start.seats.Given as goal

abbrev pub invariant-loop-number : goal.invariant-loop-number
invariant-loop-number g l = record {
  made : l.seats.items ≡ fresh_callers 0 l.number;
  callers : l.all ≡ callers_from l.number (l.count - l.number);
  account : l.account ≡ fresh_account (l.count - l.number);
}
