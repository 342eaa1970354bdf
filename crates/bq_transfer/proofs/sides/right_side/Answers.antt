use Rattle.bq_states.proofs.WordLemmas.{describes_number, number_within}
use Rattle.bq_transfer.proofs.sides.right_side.Goals as goal

pub returns-in-Number-Number : goal.returns-in-Number-Number
returns-in-Number-Number c = λ shapes a b p q h.
    describes_number shapes c.narrow_right.result b
    (c.narrow_right.ensures a b (number_within shapes c.args.left a c.in-Number-Number.is-0 p)
    (number_within shapes c.args.right b c.in-Number-Number.is-1 q) h)
