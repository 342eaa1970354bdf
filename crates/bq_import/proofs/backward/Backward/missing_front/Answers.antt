use Rattle.bq_import.proofs.backward.Backward.missing_front.Goals as goal

pub returns-in_default-clause-some : goal.returns-in_default-clause-some
returns-in_default-clause-some c = (c.in_ok-next.was, λ front. c.in_default.ensures.none c.in_ok-next.next front)
