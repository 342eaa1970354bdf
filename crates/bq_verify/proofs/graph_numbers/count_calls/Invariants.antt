use Rattle.bq_verify.specs.Passes.{CountsFollowed}
use Rattle.bq_verify.proofs.graph_numbers.count_calls.Given as goal

abbrev pub invariant-loop-slot : goal.invariant-loop-slot
invariant-loop-slot l = CountsFollowed l.slots l.slot l.most
