use Rattle.std.proofs.Common.{◌≡◌, ◌++◌, map}
use Rattle.bq_history.specs.Items.{caller_of}
use Rattle.bq_shared.specs.Calls.{account_by}
use Rattle.bq_shared.proofs.end_of_tables.leave_all.Given as goal

abbrev pub invariant-loop-seat : goal.invariant-loop-seat
invariant-loop-seat g l = record {
  items : l.all ≡ l.initial.all ++ map caller_of l.yielded;
  account : l.account ≡ account_by g.R.ReportsCalls.calls l.yielded;
}
