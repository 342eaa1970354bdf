use Rattle.std.proofs.Common.{◌≡◌, ◌∙◌, rules}
use Rattle.bq_workload.specs.Accounts.{accounts_of, is_over}
use Rattle.bq_workload.proofs.OverLemmas.{over-where-none}
use Rattle.bq_workload.proofs.roster.Roster.is_over.Goals as goal

pub returns-then-all_run_past-clause-nothing_due : goal.returns-then-all_run_past-clause-nothing_due
returns-then-all_run_past-clause-nothing_due c =
    let over : c.all_rest_past.result ≡ is_over c.args.end (accounts_of c.args.self.now) = search rules in
    λ low homes none. over ∙ over-where-none c.args.end (accounts_of c.args.self.now) low homes none

pub returns-else-all_run_past-clause-nothing_due : goal.returns-else-all_run_past-clause-nothing_due
returns-else-all_run_past-clause-nothing_due c =
    let over : c.if-all_keep_time.value ≡ is_over c.args.end (accounts_of c.args.self.now) = search rules in
    λ low homes none. over ∙ over-where-none c.args.end (accounts_of c.args.self.now) low homes none
