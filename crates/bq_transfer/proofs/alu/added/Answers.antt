use Rattle.bq_transfer.proofs.ResultLemmas.{moved_up, sum_turned}
use Rattle.bq_states.proofs.WordLemmas.{number_within}
use Rattle.bq_transfer.proofs.alu.added.Goals as goal

pub returns-in-W64-Add-default : goal.returns-in-W64-Add-default
returns-in-W64-Add-default c = λ shapes x y p q.
    rw (c.in-W64-Add-default.is-0, c.in-W64-Add-default.is-1, sum_turned x y)
    (moved_up shapes c.args.b.kind c.args.b.offset c.add.result y x c.args.a.offset q
    (number_within shapes c.args.a x c.requires p) c.add.ensures.holds)
