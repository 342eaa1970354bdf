use Rattle.std.proofs.Common.{ap}
use Rattle.bq_shared.proofs.AccountLemmas.{catches_up}
use Rattle.bq_shared.proofs.working.Working.commit_two.Goals as goal

pub returns-clause-account : goal.returns-clause-account
returns-clause-account g c =
    catches_up g.R.ReportsCalls.calls c.args.self.now.caller.1 c.commit_two.new.caller.1 c.commit_two.result
    c.args.draft.reported c.args.self.now.account c.requires.reported c.commit_two.ensures.receipt.1
    (ap (λ v. v.1) c.commit_two.ensures.caller)
