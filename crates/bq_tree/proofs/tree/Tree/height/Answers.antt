use Rattle.std.proofs.Common.{◌≤◌, length, arith}
use Rattle.bq_tree.specs.Trees.{in_order_behind}
use Rattle.bq_tree.proofs.HeightLemmas.{low_of_few, full_behind}
use Rattle.bq_tree.proofs.tree.Tree.height.Goals as goal

pub returns-clause-low : goal.returns-clause-low
returns-clause-low g c = λ few.
    let l : length (in_order_behind c.self.inside.root) ≤ 1024 = rw c.self.view_is few in
    let low = low_of_few g.S.Summary.knows c.self.inside.root c.self.invariant.tree l in
    omega arith

pub returns-clause-high : goal.returns-clause-high
returns-clause-high g c =
    rw (← c.self.view_is, c.height.ensures) (full_behind g.S.Summary.knows c.self.inside.root c.self.invariant.tree)
