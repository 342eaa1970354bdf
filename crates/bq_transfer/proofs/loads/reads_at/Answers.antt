use Rattle.bq_transfer.proofs.loads.reads_at.Goals as goal

pub returns-clause-stack : goal.returns-clause-stack
returns-clause-stack c = λ is. c.numbers_at.ensures
