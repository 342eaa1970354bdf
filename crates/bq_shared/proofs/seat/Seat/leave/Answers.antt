use Rattle.std.proofs.Common.{ap, ◌∙◌}
use Rattle.bq_shared.specs.Sums.{joined_accounts}
use Rattle.bq_shared.specs.Calls.{account_of}
use Rattle.bq_shared.proofs.seat.Seat.leave.Goals as goal

pub returns-clause-caller : goal.returns-clause-caller
returns-clause-caller g c = rw c.self.view_is at c.join.ensures

pub returns-clause-total : goal.returns-clause-total
returns-clause-total g c =
    c.join-2.ensures
    ∙ ap (joined_accounts c.args.total.now) (c.self.invariant ∙ ap (λ v. account_of g.R.ReportsCalls.calls v.1) c.self.view_is)
