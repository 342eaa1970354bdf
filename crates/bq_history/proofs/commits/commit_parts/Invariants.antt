use Rattle.std.proofs.Common.{◌++◌}
use Rattle.bq_history.specs.Items.{committed}
use Rattle.bq_history.proofs.commits.commit_parts.Given as goal

abbrev pub ghosts-change_jointly : goal.ghosts-change_jointly
ghosts-change_jointly g a =
    record { items = committed a._entry.now a._kept.now g.Q.Holding.items ((a.journal.now ++ a.caller.now) ++ a.parts.now) }
