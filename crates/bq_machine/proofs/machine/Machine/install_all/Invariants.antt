use Rattle.std.proofs.Common.{◌≡◌, ◌+◌, ◌≤◌, vec_len}
use Rattle.std.specs.Prelude.{vec_capacity}
use Rattle.std.specs.List.{All}
use Rattle.bq_history.specs.Callers.{with_receipts}
use Rattle.bq_shared.specs.Calls.{AccountMatchesReceipts}
use Rattle.bq_shared.specs.Parts.{reported_calls}
use Rattle.bq_machine.specs.Calls.{AreInstalls}
use Rattle.bq_machine.proofs.machine.Machine.install_all.Given as goal

abbrev pub invariant-installs : goal.invariant-installs
invariant-installs g l = record {
  caller : l.working.caller ≡ with_receipts l.installs.items l.initial.working.caller;
  account : AccountMatchesReceipts reported_calls l.working;
  left : vec_len l.prepared_installs + l.number ≡ g.row.P;
  same : All (λ s. s.installed.policy ≡ l.loading.policy.now) l.prepared_installs.items;
  made : vec_len l.installs ≡ l.number;
  room : g.row.P ≤ vec_capacity l.installs;
  are : AreInstalls 0 l.number l.loading.hook l.loading.generation l.loading.policy.now l.installs.items;
}
