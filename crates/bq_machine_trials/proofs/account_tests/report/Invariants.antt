use Rattle.std.proofs.Common.{◌≡◌}
use Rattle.bq_machine_trials.proofs.account_tests.report.Given as goal

abbrev pub invariant-loop : goal.invariant-loop
invariant-loop g l = l.account.seats ≡ 1
