use Rattle.std.proofs.Common.{[], refl, sym, subst}
use Rattle.bq_disc.specs.Chains.{task_of}
use Rattle.bq_tree.specs.Trees.{StillCounts}
use Rattle.bq_disc.specs.declared.node.Node.{Node, out-Node}
use Rattle.bq_tree.proofs.NodeLemmas.{root_behind, on_left}
use Rattle.bq_tree.proofs.RemoveLemmas.{still_left}
use Rattle.bq_tree.proofs.edits.+pop_least.Goals as goal

pub count_out-requires-clause-counts : goal.count_out-requires-clause-counts
count_out-requires-clause-counts g t c =
    let n = c.deref_mut-root.result.now in
    let new = c.pop_least.new.link in
    let root = root_behind g.S.Summary.knows c.args.link.now c.in-Some.root n c.in-Some.is c.deref_mut-root.ensures.value c.requires.tree in
    let still =
    still_left g.S.Summary.knows n (task_of c.in-Some-pop_least.least.value) new [] _ root.tree
    c.in-Some-pop_least.ensures.order refl in
    subst (λ (m : Node). StillCounts g.S.Summary.knows (on_left n new) (out-Node m).entity) (sym c.deref-2.ensures) still
