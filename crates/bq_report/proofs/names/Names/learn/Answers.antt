use Rattle.bq_report.proofs.NameLemmas.{same_names, where_err, learns, learns_nothing}
use Rattle.bq_report.proofs.names.Names.learn.Goals as goal
use Rattle.bq_report.proofs.names.Names.learn.Goals.{in-Some-1, in-None-1}

pub returns-in_err-insert-clause-fault : goal.returns-in_err-insert-clause-fault
returns-in_err-insert-clause-fault c =
    rw (← c.self.view_is) (where_err _ _ (same_names c.self.inside.names c.insert.new.self c.in_err-insert.ensures.err))

pub returns-in_ok-insert-clause-ok : goal.returns-in_ok-insert-clause-ok
returns-in_ok-insert-clause-ok c =
    let learnt = learns c.args.comment.now c.in-Some.name.now c.in-Some.task c.self.inside.names c.insert.new.self c.in_ok-name.name
    c.in_ok-insert.ensures.updates.0 c.in_ok-name.ensures.ok c.in-Some.ensures.named in
    elim c.match-branch-3.branch [
      | in-Some-1 b ↦ rw (b.self-is, ← c.self.view_is) learnt
      | in-None-1 b ↦ rw (b.self-is, ← c.self.view_is) learnt
    ]

pub returns-in_default-clause-ok : goal.returns-in_default-clause-ok
returns-in_default-clause-ok c = learns_nothing c.args.comment.now c.args.self.now c.in_default.ensures.none
