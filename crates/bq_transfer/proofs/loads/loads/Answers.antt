use Rattle.bq_transfer.proofs.loads.loads.Goals as goal

pub returns-then-signed : goal.returns-then-signed
returns-then-signed c = λ x within. rw (c.if-signed.true, ← c.bits_of.ensures) (c.extend.ensures.holds x within)

pub returns : goal.returns
returns c = λ x within. rw c.if-signed.false within
