use Rattle.std.proofs.Common.{arith}
use Rattle.bq_tree.specs.Trees.{in_order_behind}
use Rattle.bq_disc.proofs.QueueLemmas.{length-few}
use Rattle.bq_tree.proofs.HeightLemmas.{low_of_many}
use Rattle.bq_tree.proofs.tree.Tree.take_least.Goals as goal

pub pop_least-requires-clause-low : goal.pop_least-requires-clause-low
pop_least-requires-clause-low g c =
    let s = c.self.invariant in
    let few = length-few (in_order_behind c.self.inside.root) s.distinct s.small in
    let low = low_of_many g.S.Summary.knows c.self.inside.root s.tree few in
    omega (arith, low)

pub pop_least-requires-clause-few : goal.pop_least-requires-clause-few
pop_least-requires-clause-few g c = length-few (in_order_behind c.self.inside.root) c.self.invariant.distinct c.self.invariant.small
