use Rattle.bq_history.proofs.halved.+list.Given as goal

abbrev pub decreases-list : goal.decreases-list
decreases-list g l = l.count
