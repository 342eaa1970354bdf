use Rattle.bq_states.proofs.WordLemmas.{number_within, describes_number}
use Rattle.bq_transfer.proofs.alu.combine.Goals as goal

pub returns-in-Number-Number-clause-describes : goal.returns-in-Number-Number-clause-describes
returns-in-Number-Number-clause-describes c = λ shapes x y p q.
    describes_number shapes c.alu.result _
    (c.alu.ensures.holds x y (number_within shapes c.args.a x c.in-Number-Number.is-0 p)
    (number_within shapes c.args.b y c.in-Number-Number.is-1 q))
