use Rattle.bq_states.proofs.WordLemmas.{number_within, describes_number}
use Rattle.bq_transfer.proofs.ResultLemmas.{copied_word, move_ignores_left}
use Rattle.bq_transfer.proofs.alu.copied.Goals as goal

pub returns-in-W64-default-clause-describes : goal.returns-in-W64-default-clause-describes
returns-in-W64-default-clause-describes c = λ shapes x y d. rw c.in-W64-default.is-0 (copied_word shapes c.args.word x y d)

pub returns-in-W32-Number-clause-describes : goal.returns-in-W32-Number-clause-describes
returns-in-W32-Number-clause-describes c = λ shapes x y d.
    let w = number_within shapes c.args.word y c.in-W32-Number.is-1 d in
    let outcome = c.alu.ensures.holds y y w w in
    describes_number shapes c.alu.result _ (rw (c.in-W32-Number.is-0, move_ignores_left x y) (rw c.in-W32-Number.is-0 at outcome))
