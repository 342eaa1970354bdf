use Rattle.bq_states.proofs.WordLemmas.{describes_number, number_within}
use Rattle.bq_states.proofs.learnt.sharper.Goals as goal

pub returns-in-Number-Number-clause-sharper : goal.returns-in-Number-Number-clause-sharper
returns-in-Number-Number-clause-sharper c =
    rw c.in-Some.is (λ shapes n learnt old.
    describes_number shapes c.meet.result n
    (c.meet.ensures.both n (number_within shapes c.in-Some.word n c.in-Number-Number.is-0 old)
    (number_within shapes c.args.learnt n c.in-Number-Number.is-1 learnt)))
