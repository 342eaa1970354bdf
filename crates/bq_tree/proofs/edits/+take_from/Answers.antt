use Rattle.std.proofs.Common.{◌≡◌, ℕ, None, true, false, sym, ◌∙◌, subst, arith}
use Rattle.bq_disc.specs.Queues.{comes_after}
use Rattle.bq_disc.specs.Chains.{task_of}
use Rattle.bq_tree.specs.Trees.{StillCounts, in_order_behind}
use Rattle.bq_disc.specs.declared.node.Node.{Node, out-Node}
use Rattle.bq_tree.specs.Taking.{TakesOut, is_task_at}
use Rattle.bq_tree.proofs.NodeLemmas.{IsRootBehind, root_behind, left_side_of, right_side_of, on_left, on_right}
use Rattle.bq_tree.proofs.RemoveLemmas.{Keeps, Loses, still_left, still_right, loses_left, loses_right, keeps_left, keeps_right}
use Rattle.bq_tree.proofs.edits.+take_from.Given as given
use Rattle.bq_tree.proofs.edits.+take_from.Goals as goal
use Rattle.bq_tree.proofs.edits.+take_from.Goals.{After-deref_mut-root, After-take_from, After-take_from-2, After-count_out, After-count_out-2, then-height-before, else-height-before, then-height-before-2, else-height-before-2}

-- the root that is looked at
stands : (g : given.Over) (t : ℕ) (c : After-deref_mut-root g t)
    → IsRootBehind g.S.Summary.knows c.args.link.now c.deref_mut-root.result.now
stands g t c =
    root_behind g.S.Summary.knows c.args.link.now c.in-Some.root c.deref_mut-root.result.now c.in-Some.is
    c.deref_mut-root.ensures.value c.requires.tree

-- where its left side has no such task, it stays
kept_left : (g : given.Over) (t : ℕ) (c : After-take_from g t)
    → c.take_from.new.link ≡ (out-Node c.deref_mut-root.result.now).left
    → TakesOut c.args.v c.args.id (in_order_behind (out-Node c.deref_mut-root.result.now).left) None (in_order_behind c.take_from.new.link)
    → Keeps c.args.link.now c.in-Some.root (on_left c.deref_mut-root.result.now c.take_from.new.link) c.args.v c.args.id
kept_left g t c same taken =
    let n = c.deref_mut-root.result.now in
    let root = root_behind g.S.Summary.knows c.args.link.now c.in-Some.root n c.in-Some.is c.deref_mut-root.ensures.value c.requires.tree in
    let after : comes_after c.args.v c.args.id (out-Node n).entity ≡ true = sym c.is_after.ensures ∙ c.if-is_after.true in
    keeps_left g.S.Summary.knows c.args.link.now c.in-Some.root n c.take_from.new.link c.args.v c.args.id c.in-Some.is
    c.deref_mut-root.ensures.value root c.requires.rising after same taken

-- where a task is taken out of the left side, the root loses it
lost_left : (g : given.Over) (t : ℕ) (c : After-count_out g t)
    → Loses c.args.link.now c.count_out.new.root c.args.v c.args.id (task_of c.in-Some-take_from.taken.value)
lost_left g t c =
    let n = c.deref_mut-root.result.now in
    let root = root_behind g.S.Summary.knows c.args.link.now c.in-Some.root n c.in-Some.is c.deref_mut-root.ensures.value c.requires.tree in
    let after : comes_after c.args.v c.args.id (out-Node n).entity ≡ true = sym c.is_after.ensures ∙ c.if-is_after.true in
    loses_left g.S.Summary.knows c.args.link.now n c.count_out.new.root c.take_from.new.link c.args.v c.args.id
    (task_of c.in-Some-take_from.taken.value) root c.requires.rising after c.in-Some-take_from.ensures.taken
    c.count_out.ensures.sides

-- where its right side has no such task, it stays
kept_right : (g : given.Over) (t : ℕ) (c : After-take_from-2 g t)
    → c.take_from-2.new.link ≡ (out-Node c.deref_mut-root.result.now).right
    → TakesOut c.args.v c.args.id (in_order_behind (out-Node c.deref_mut-root.result.now).right) None
    (in_order_behind c.take_from-2.new.link)
    → Keeps c.args.link.now c.in-Some.root (on_right c.deref_mut-root.result.now c.take_from-2.new.link) c.args.v c.args.id
kept_right g t c same taken =
    let n = c.deref_mut-root.result.now in
    let root = root_behind g.S.Summary.knows c.args.link.now c.in-Some.root n c.in-Some.is c.deref_mut-root.ensures.value c.requires.tree in
    let after : comes_after c.args.v c.args.id (out-Node n).entity ≡ false = sym c.is_after.ensures ∙ c.if-is_after.false in
    let other : is_task_at c.args.v c.args.id (out-Node n).entity ≡ false = sym c.is_at.ensures ∙ c.if-is_at.false in
    keeps_right g.S.Summary.knows c.args.link.now c.in-Some.root n c.take_from-2.new.link c.args.v c.args.id c.in-Some.is
    c.deref_mut-root.ensures.value root c.requires.rising after other same taken

-- where a task is taken out of the right side, the root loses it
lost_right : (g : given.Over) (t : ℕ) (c : After-count_out-2 g t)
    → Loses c.args.link.now c.count_out-2.new.root c.args.v c.args.id (task_of c.in-Some-take_from-2.taken.value)
lost_right g t c =
    let n = c.deref_mut-root.result.now in
    let root = root_behind g.S.Summary.knows c.args.link.now c.in-Some.root n c.in-Some.is c.deref_mut-root.ensures.value c.requires.tree in
    let after : comes_after c.args.v c.args.id (out-Node n).entity ≡ false = sym c.is_after.ensures ∙ c.if-is_after.false in
    let other : is_task_at c.args.v c.args.id (out-Node n).entity ≡ false = sym c.is_at.ensures ∙ c.if-is_at.false in
    loses_right g.S.Summary.knows c.args.link.now n c.count_out-2.new.root c.take_from-2.new.link c.args.v c.args.id
    (task_of c.in-Some-take_from-2.taken.value) root c.requires.rising after other c.in-Some-take_from-2.ensures.taken
    c.count_out-2.ensures.sides

pub take_from-requires : goal.take_from-requires
take_from-requires g t c =
    let side =
    left_side_of g.S.Summary.knows c.args.link.now c.deref_mut-root.result.now
    (stands g t (goal.at.take_from-requires g t c).After-deref_mut-root) c.requires.rising in
    λ κs below.
    (omega (arith, side.lower), (below, (side.tree, (side.rising, (omega (arith, side.lower), omega (arith, side.fewer))))))

pub returns-in_default-take_from-clause-taken : goal.returns-in_default-take_from-clause-taken
returns-in_default-take_from-clause-taken g t c =
    (kept_left g t (goal.at.returns-in_default-take_from-clause-taken g t c).After-take_from
    c.in_default-take_from.ensures.same c.in_default-take_from.ensures.taken).taken

pub returns-in_default-take_from-clause-same : goal.returns-in_default-take_from-clause-same
returns-in_default-take_from-clause-same g t c =
    (kept_left g t (goal.at.returns-in_default-take_from-clause-same g t c).After-take_from
    c.in_default-take_from.ensures.same c.in_default-take_from.ensures.taken).same

pub count_out-requires-clause-counts : goal.count_out-requires-clause-counts
count_out-requires-clause-counts g t c =
    let root = stands g t (goal.at.count_out-requires-clause-counts g t c).After-deref_mut-root in
    let taken = c.in-Some-take_from.ensures.taken in
    let still =
    still_left g.S.Summary.knows c.deref_mut-root.result.now (task_of c.in-Some-take_from.taken.value) c.take_from.new.link
    taken.0 taken.1 root.tree taken.4 taken.5 in
    subst (λ (m : Node). StillCounts g.S.Summary.knows (on_left c.deref_mut-root.result.now c.take_from.new.link) (out-Node m).entity)
    (sym c.deref.ensures) still

pub rebalance-requires-clause-few : goal.rebalance-requires-clause-few
rebalance-requires-clause-few g t c =
    let lost = lost_left g t (goal.at.rebalance-requires-clause-few g t c).After-count_out in omega (arith, lost.few)

pub returns-then-is_after-clause-taken : goal.returns-then-is_after-clause-taken
returns-then-is_after-clause-taken g t c =
    let lost = lost_left g t (goal.at.returns-then-is_after-clause-taken g t c).After-count_out in
    elim c.if-height-before.branch [
      | then-height-before w ↦ rw (w.link-is, w.rebalance.ensures.order) lost.taken
      | else-height-before w ↦ rw w.link-is lost.taken
    ]

pub take_from-requires-2 : goal.take_from-requires-2
take_from-requires-2 g t c =
    let side =
    right_side_of g.S.Summary.knows c.args.link.now c.deref_mut-root.result.now
    (stands g t (goal.at.take_from-requires-2 g t c).After-deref_mut-root) c.requires.rising in
    λ κs below.
    (omega (arith, side.lower), (below, (side.tree, (side.rising, (omega (arith, side.lower), omega (arith, side.fewer))))))

pub returns-in_default-take_from-2-clause-taken : goal.returns-in_default-take_from-2-clause-taken
returns-in_default-take_from-2-clause-taken g t c =
    (kept_right g t (goal.at.returns-in_default-take_from-2-clause-taken g t c).After-take_from-2
    c.in_default-take_from-2.ensures.same c.in_default-take_from-2.ensures.taken).taken

pub returns-in_default-take_from-2-clause-same : goal.returns-in_default-take_from-2-clause-same
returns-in_default-take_from-2-clause-same g t c =
    (kept_right g t (goal.at.returns-in_default-take_from-2-clause-same g t c).After-take_from-2
    c.in_default-take_from-2.ensures.same c.in_default-take_from-2.ensures.taken).same

pub count_out-requires-2-clause-counts : goal.count_out-requires-2-clause-counts
count_out-requires-2-clause-counts g t c =
    let root = stands g t (goal.at.count_out-requires-2-clause-counts g t c).After-deref_mut-root in
    let taken = c.in-Some-take_from-2.ensures.taken in
    let still =
    still_right g.S.Summary.knows c.deref_mut-root.result.now (task_of c.in-Some-take_from-2.taken.value)
    c.take_from-2.new.link taken.0 taken.1 root.tree taken.4 taken.5 in
    subst (λ (m : Node). StillCounts g.S.Summary.knows (on_right c.deref_mut-root.result.now c.take_from-2.new.link) (out-Node m).entity)
    (sym c.deref-2.ensures) still

pub rebalance-requires-then-height-before-2-clause-few : goal.rebalance-requires-then-height-before-2-clause-few
rebalance-requires-then-height-before-2-clause-few g t c =
    let lost = lost_right g t (goal.at.rebalance-requires-then-height-before-2-clause-few g t c).After-count_out-2 in
    omega (arith, lost.few)

pub returns-clause-taken : goal.returns-clause-taken
returns-clause-taken g t c =
    let lost = lost_right g t (goal.at.returns-clause-taken g t c).After-count_out-2 in
    elim c.if-height-before-2.branch [
      | then-height-before-2 w ↦ rw (w.link-is, w.rebalance-then-height-before-2.ensures.order) lost.taken
      | else-height-before-2 w ↦ rw w.link-is lost.taken
    ]
