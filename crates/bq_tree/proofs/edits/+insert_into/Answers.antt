use Rattle.std.proofs.Common.{◌≡◌, ℕ, refl, true, false, ap, subst, sym, ◌∙◌, arith}
use Rattle.bq_disc.specs.Tasks.{runs_before}
use Rattle.bq_disc.specs.Chains.{task_of}
use Rattle.bq_tree.specs.Trees.{CountsIn}
use Rattle.bq_disc.specs.declared.node.Node.{Node, out-Node}
use Rattle.bq_tree.proofs.NodeLemmas.{IsRootBehind, IsSide, on_left, on_right, root_behind, left_side_of, right_side_of}
use Rattle.bq_tree.proofs.InsertLemmas.{Grows, Rises, grows_left, grows_right, rises_left, rises_right, stays_left, stays_right, not_below_from_equal}
use Rattle.bq_tree.proofs.edits.+insert_into.Given as given
use Rattle.bq_tree.proofs.edits.+insert_into.Goals as goal
use Rattle.bq_tree.proofs.edits.+insert_into.Goals.{After-count_in, After-insert_into-grew, After-insert_into-grew-2}

-- the root that the task was counted in
counted : (g : given.Over) (t : ℕ) (c : After-count_in g t)
    → IsRootBehind g.S.Summary.knows c.args.link.now c.deref_mut-root.result.now
    × CountsIn g.S.Summary.knows c.deref_mut-root.result.now c.count_in.new.root (task_of c.args.node.value)
counted g t c = (
  root_behind g.S.Summary.knows c.args.link.now c.in-Some.root c.deref_mut-root.result.now c.in-Some.is
      c.deref_mut-root.ensures.value c.requires.tree,
  subst (λ (m : Node). CountsIn g.S.Summary.knows c.deref_mut-root.result.now c.count_in.new.root (out-Node m).entity)
      c.deref.ensures c.count_in.ensures,
)

-- the root with its left side, to which a task that runs before its own came
left : (g : given.Over) (t : ℕ) (c : After-insert_into-grew g t)
    → IsRootBehind g.S.Summary.knows c.args.link.now c.deref_mut-root.result.now
    × CountsIn g.S.Summary.knows c.deref_mut-root.result.now c.count_in.new.root (task_of c.args.node.value)
    × Grows g.S.Summary.knows c.args.link.now (on_left c.count_in.new.root c.insert_into-grew.new.link) (task_of c.args.node.value)
    × Rises c.args.link.now (on_left c.count_in.new.root c.insert_into-grew.new.link)
left g t c =
    let known = g.S.Summary.knows in
    let n = c.deref_mut-root.result.now in
    let k = c.count_in.new.root in
    let x = task_of c.args.node.value in
    let new = c.insert_into-grew.new.link in
    let grew = c.insert_into-grew.ensures in
    let root = root_behind known c.args.link.now c.in-Some.root n c.in-Some.is c.deref_mut-root.ensures.value c.requires.tree in
    let counts : CountsIn known n k x = subst (λ (m : Node). CountsIn known n k (out-Node m).entity) c.deref.ensures c.count_in.ensures in
    let test : runs_before x (out-Node k).entity ≡ true =
    ap (λ (m : Node). runs_before (out-Node m).entity (out-Node k).entity) (sym c.deref-2.ensures)
    ∙ sym c.if-runs_before.ensures in (
      root,
      counts,
      grows_left known c.args.link.now n k x new root counts grew.tree grew.order test,
      rises_left known c.args.link.now n k x new root counts grew.not_lower grew.at_most_one_higher,
    )

-- the root with its right side, to which one that does not came
right : (g : given.Over) (t : ℕ) (c : After-insert_into-grew-2 g t)
    → IsRootBehind g.S.Summary.knows c.args.link.now c.deref_mut-root.result.now
    × CountsIn g.S.Summary.knows c.deref_mut-root.result.now c.count_in.new.root (task_of c.args.node.value)
    × Grows g.S.Summary.knows c.args.link.now (on_right c.count_in.new.root c.insert_into-grew-2.new.link) (task_of c.args.node.value)
    × Rises c.args.link.now (on_right c.count_in.new.root c.insert_into-grew-2.new.link)
right g t c =
    let known = g.S.Summary.knows in
    let n = c.deref_mut-root.result.now in
    let k = c.count_in.new.root in
    let x = task_of c.args.node.value in
    let new = c.insert_into-grew-2.new.link in
    let grew = c.insert_into-grew-2.ensures in
    let root = root_behind known c.args.link.now c.in-Some.root n c.in-Some.is c.deref_mut-root.ensures.value c.requires.tree in
    let counts : CountsIn known n k x = subst (λ (m : Node). CountsIn known n k (out-Node m).entity) c.deref.ensures c.count_in.ensures in
    let test : runs_before x (out-Node k).entity ≡ false =
    ap (λ (m : Node). runs_before (out-Node m).entity (out-Node k).entity) (sym c.deref-2.ensures)
    ∙ sym c.if-runs_before.ensures in (
      root,
      counts,
      grows_right known c.args.link.now n k x new root c.requires.rising counts grew.tree grew.order test,
      rises_right known c.args.link.now n k x new root counts grew.not_lower grew.at_most_one_higher,
    )

pub insert_into-grew-requires : goal.insert_into-grew-requires
insert_into-grew-requires g t c =
    let known = g.S.Summary.knows in
    let at = counted g t (goal.at.insert_into-grew-requires g t c).After-count_in in
    let side =
    subst (λ o. IsSide known o c.args.link.now) (sym at.1.left)
    (left_side_of known c.args.link.now c.deref_mut-root.result.now at.0 c.requires.rising) in
    λ κs below. (
      omega (arith, side.lower),
      (below, (c.requires.lone, (side.tree, (side.rising, (omega (arith, side.lower), omega (arith, side.fewer)))))),
    )

pub returns-then-not-grew : goal.returns-then-not-grew
returns-then-not-grew g t c =
    let at = left g t (goal.at.returns-then-not-grew g t c).After-insert_into-grew in
    let grew = c.insert_into-grew in
    let stays =
    stays_left g.S.Summary.knows c.args.link.now c.deref_mut-root.result.now c.count_in.new.root (task_of c.args.node.value)
    grew.new.link at.0 at.1 at.2.fork grew.ensures.not_lower (sym grew.ensures.grows ∙ c.if-not-grew.true) in
    record {
      tree = stays.tree;
      order = at.2.order;
      not_lower = omega (arith, stays.height);
      at_most_one_higher = omega (arith, stays.height);
      grows = not_below_from_equal _ _ stays.height;
    }

pub rebalance-requires : goal.rebalance-requires
rebalance-requires g t c =
    let at = left g t (goal.at.rebalance-requires g t c).After-insert_into-grew in
    record {
      fork = at.2.fork;
      near = at.3.near;
      low = omega (arith, at.3.low);
      few = omega (arith, at.2.few);
    }

pub returns-then-runs_before-clause-order : goal.returns-then-runs_before-clause-order
returns-then-runs_before-clause-order g t c =
    c.rebalance.ensures.order ∙ (left g t (goal.at.returns-then-runs_before-clause-order g t c).After-insert_into-grew).2.order

pub returns-then-runs_before-clause-not_lower : goal.returns-then-runs_before-clause-not_lower
returns-then-runs_before-clause-not_lower g t c =
    ((left g t (goal.at.returns-then-runs_before-clause-not_lower g t c).After-insert_into-grew).3.rises _
    c.rebalance.ensures.not_lower c.rebalance.ensures.at_most_one_higher (c.rebalance.ensures.same refl)).0

pub returns-then-runs_before-clause-at_most_one_higher : goal.returns-then-runs_before-clause-at_most_one_higher
returns-then-runs_before-clause-at_most_one_higher g t c =
    ((left g t (goal.at.returns-then-runs_before-clause-at_most_one_higher g t c).After-insert_into-grew).3.rises _
    c.rebalance.ensures.not_lower c.rebalance.ensures.at_most_one_higher (c.rebalance.ensures.same refl)).1

pub insert_into-grew-requires-2 : goal.insert_into-grew-requires-2
insert_into-grew-requires-2 g t c =
    let known = g.S.Summary.knows in
    let at = counted g t (goal.at.insert_into-grew-requires-2 g t c).After-count_in in
    let side =
    subst (λ o. IsSide known o c.args.link.now) (sym at.1.right)
    (right_side_of known c.args.link.now c.deref_mut-root.result.now at.0 c.requires.rising) in
    λ κs below. (
      omega (arith, side.lower),
      (below, (c.requires.lone, (side.tree, (side.rising, (omega (arith, side.lower), omega (arith, side.fewer)))))),
    )

pub returns-then-not-grew-2 : goal.returns-then-not-grew-2
returns-then-not-grew-2 g t c =
    let at = right g t (goal.at.returns-then-not-grew-2 g t c).After-insert_into-grew-2 in
    let grew = c.insert_into-grew-2 in
    let stays =
    stays_right g.S.Summary.knows c.args.link.now c.deref_mut-root.result.now c.count_in.new.root (task_of c.args.node.value)
    grew.new.link at.0 at.1 at.2.fork grew.ensures.not_lower (sym grew.ensures.grows ∙ c.if-not-grew-2.true) in
    record {
      tree = stays.tree;
      order = at.2.order;
      not_lower = omega (arith, stays.height);
      at_most_one_higher = omega (arith, stays.height);
      grows = not_below_from_equal _ _ stays.height;
    }

pub rebalance-requires-2 : goal.rebalance-requires-2
rebalance-requires-2 g t c =
    let at = right g t (goal.at.rebalance-requires-2 g t c).After-insert_into-grew-2 in
    record {
      fork = at.2.fork;
      near = at.3.near;
      low = omega (arith, at.3.low);
      few = omega (arith, at.2.few);
    }

pub returns-clause-order : goal.returns-clause-order
returns-clause-order g t c = c.rebalance-2.ensures.order ∙ (right g t (goal.at.returns-clause-order g t c).After-insert_into-grew-2).2.order

pub returns-clause-not_lower : goal.returns-clause-not_lower
returns-clause-not_lower g t c =
    ((right g t (goal.at.returns-clause-not_lower g t c).After-insert_into-grew-2).3.rises _ c.rebalance-2.ensures.not_lower
    c.rebalance-2.ensures.at_most_one_higher (c.rebalance-2.ensures.same refl)).0

pub returns-clause-at_most_one_higher : goal.returns-clause-at_most_one_higher
returns-clause-at_most_one_higher g t c =
    ((right g t (goal.at.returns-clause-at_most_one_higher g t c).After-insert_into-grew-2).3.rises _
    c.rebalance-2.ensures.not_lower c.rebalance-2.ensures.at_most_one_higher (c.rebalance-2.ensures.same refl)).1
