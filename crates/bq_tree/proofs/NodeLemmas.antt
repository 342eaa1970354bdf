-- A root by its fields: its tasks in order, its height, and what its two sides are.
use Rattle.std.proofs.Common.{◌≡◌, ℕ, ◌+◌, max, ◌≤◌, ◌∷◌, ◌++◌, length, length-append, Option, Some, None, Box, Global, refl, ap, sym, ◌∙◌, subst, arith}
use Rattle.bq_disc.specs.Tasks.{Task}
use Rattle.bq_disc.specs.Totals.{IsBounded}
use Rattle.bq_disc.specs.Rising.{IsRising}
use Rattle.bq_tree.specs.Trees.{Knowledge, left_height, right_height, IsTree, IsFork, in_order, in_order_behind, IsTreeBehind, height_of, height_behind, DifferByAtMost, hanging}
use Rattle.bq_tree.proofs.OrderLemmas.{IsRising-left, IsRising-right}
use Rattle.bq_disc.specs.declared.deadline.Deadline.{Deadline}
use Rattle.bq_disc.specs.declared.totals.Totals.{Totals}
use Rattle.bq_disc.specs.declared.node.Node.{Node, out-Node, roll-Node, Node', None', Some'}

-- a node of these fields
abbrev pub made : Task → Option (Box Node Global) → Option (Box Node Global) → Deadline → Totals → ℕ → Node
made entity left right due totals height =
    roll-Node (record { entity = entity; left = left; right = right; due = due; totals = totals; height = height })

-- a root with another left side
abbrev pub on_left : Node → Option (Box Node Global) → Node
on_left k new = made (out-Node k).entity new (out-Node k).right (out-Node k).due (out-Node k).totals (out-Node k).height

-- a root with another right side
abbrev pub on_right : Node → Option (Box Node Global) → Node
on_right k new = made (out-Node k).entity (out-Node k).left new (out-Node k).due (out-Node k).totals (out-Node k).height

-- the tasks of a node in order are those of its left side, its own, and those of its right side
pub in_order-made : (e : Task) (l r : Option (Box Node Global)) (d : Deadline) (s : Totals) (h : ℕ)
    → in_order (made e l r d s h) ≡ in_order_behind l ++ e ∷ in_order_behind r
unfolding roll-Node denote.Hole.Carrier.roll
in_order-made e None None d s h = refl
in_order-made e None (Some r) d s h = refl
in_order-made e (Some l) None d s h = refl
in_order-made e (Some l) (Some r) d s h = refl

-- the height that a node has in its field is the one that it was made with
pub height-made : (e : Task) (l r : Option (Box Node Global)) (d : Deadline) (s : Totals) (h : ℕ) → (out-Node (made e l r d s h)).height ≡ h
unfolding out-Node roll-Node denote.Hole.Carrier.out denote.Hole.Carrier.roll
height-made e None None d s h = refl
height-made e None (Some r) d s h = refl
height-made e (Some l) None d s h = refl
height-made e (Some l) (Some r) d s h = refl

-- the left height of a node is that of the left side that it was made with
pub left_height-made : (e : Task) (l r : Option (Box Node Global)) (d : Deadline) (s : Totals) (h : ℕ)
    → left_height (made e l r d s h) ≡ height_behind l
unfolding roll-Node denote.Hole.Carrier.roll
left_height-made e None None d s h = refl
left_height-made e None (Some r) d s h = refl
left_height-made e (Some l) None d s h = refl
left_height-made e (Some l) (Some r) d s h = refl

-- the right height of a node is that of the right side that it was made with
pub right_height-made : (e : Task) (l r : Option (Box Node Global)) (d : Deadline) (s : Totals) (h : ℕ)
    → right_height (made e l r d s h) ≡ height_behind r
unfolding roll-Node denote.Hole.Carrier.roll
right_height-made e None None d s h = refl
right_height-made e None (Some r) d s h = refl
right_height-made e (Some l) None d s h = refl
right_height-made e (Some l) (Some r) d s h = refl

-- from a node hang the tasks of its left side, its own, and those of its right side
pub hanging-made : (e : Task) (l r : Option (Box Node Global)) (d : Deadline) (s : Totals) (h : ℕ)
    → hanging (made e l r d s h) ≡ in_order_behind l ++ e ∷ in_order_behind r
unfolding out-Node roll-Node denote.Hole.Carrier.out denote.Hole.Carrier.roll
hanging-made e None None d s h = refl
hanging-made e None (Some r) d s h = refl
hanging-made e (Some l) None d s h = refl
hanging-made e (Some l) (Some r) d s h = refl

-- a node is a fork where its sides are trees and it knows what hangs from it
pub IsFork-made : (knows : Knowledge) (e : Task) (l r : Option (Box Node Global)) (d : Deadline) (s : Totals) (h : ℕ)
    → IsTreeBehind knows l → IsTreeBehind knows r → IsBounded e → knows (in_order_behind l ++ e ∷ in_order_behind r) d s
    → IsFork knows (made e l r d s h)
unfolding roll-Node denote.Hole.Carrier.roll
IsFork-made knows e None None d s h a b c k = (a, b, c, k)
IsFork-made knows e None (Some r) d s h a b c k = (a, b, c, k)
IsFork-made knows e (Some l) None d s h a b c k = (a, b, c, k)
IsFork-made knows e (Some l) (Some r) d s h a b c k = (a, b, c, k)

-- a node is a tree where its height is right and its sides are balanced, too
pub IsTree-fork : (knows : Knowledge) (e : Task) (l r : Option (Box Node Global)) (d : Deadline) (s : Totals) (h : ℕ)
    → IsFork knows (made e l r d s h) → DifferByAtMost 1 (height_behind l) (height_behind r)
    → h ≡ max (height_behind l) (height_behind r) + 1
    → IsTree knows (made e l r d s h)
unfolding roll-Node denote.Hole.Carrier.roll
IsTree-fork knows e None None d s h f balanced high = (f.0, f.1, balanced, high, f.2, f.3)
IsTree-fork knows e None (Some r) d s h f balanced high = (f.0, f.1, balanced, high, f.2, f.3)
IsTree-fork knows e (Some l) None d s h f balanced high = (f.0, f.1, balanced, high, f.2, f.3)
IsTree-fork knows e (Some l) (Some r) d s h f balanced high = (f.0, f.1, balanced, high, f.2, f.3)

-- what the fields of the root of a tree say
pub record IsRoot (knows : Knowledge) (n : Node) : Type 0 where
  pub left : IsTreeBehind knows (out-Node n).left
  pub right : IsTreeBehind knows (out-Node n).right
  pub balanced : DifferByAtMost 1 (height_behind (out-Node n).left) (height_behind (out-Node n).right)
  pub height : (out-Node n).height ≡ max (height_behind (out-Node n).left) (height_behind (out-Node n).right) + 1
  pub bounded : IsBounded (out-Node n).entity
  pub known : knows (in_order_behind (out-Node n).left ++ (out-Node n).entity ∷ in_order_behind (out-Node n).right)
      (out-Node n).due (out-Node n).totals
  pub order : in_order n ≡ in_order_behind (out-Node n).left ++ (out-Node n).entity ∷ in_order_behind (out-Node n).right

-- the root of a tree has trees that are balanced as its sides, and knows its height and what hangs from it
pub root_of : (knows : Knowledge) (n : Node) → IsTree knows n → IsRoot knows n
unfolding out-Node denote.Hole.Carrier.out
root_of knows (Node' entity None' None' due totals height) h =
    record { left = h.0; right = h.1; balanced = h.2; height = h.3; bounded = h.4; known = h.5; order = refl }
root_of knows (Node' entity None' (Some' q r) due totals height) h =
    record { left = h.0; right = h.1; balanced = h.2; height = h.3; bounded = h.4; known = h.5; order = refl }
root_of knows (Node' entity (Some' p l) None' due totals height) h =
    record { left = h.0; right = h.1; balanced = h.2; height = h.3; bounded = h.4; known = h.5; order = refl }
root_of knows (Node' entity (Some' p l) (Some' q r) due totals height) h =
    record { left = h.0; right = h.1; balanced = h.2; height = h.3; bounded = h.4; known = h.5; order = refl }

-- the root behind a link
pub record IsRootBehind (knows : Knowledge) (link : Option (Box Node Global)) (n : Node) : Type 0 where
  pub tree : IsTree knows n
  pub order : in_order_behind link ≡ in_order n
  pub height : height_behind link ≡ (out-Node n).height

-- the height of a node is what its field says
pub height_of-field : (n : Node) → height_of n ≡ (out-Node n).height
unfolding out-Node denote.Hole.Carrier.out
height_of-field (Node' entity left right due totals height) = refl

-- the node in the box of a link to a tree is the root behind that link
pub root_behind : (knows : Knowledge) (link : Option (Box Node Global)) (b : Box Node Global) (n : Node)
    → link ≡ Some b → n ≡ b.value → IsTreeBehind knows link → IsRootBehind knows link n
root_behind knows link b n e f h = record {
  tree = subst (IsTree knows) (sym f) (subst (IsTreeBehind knows) e h);
  order = ap in_order_behind e ∙ ap in_order (sym f);
  height = ap height_behind e ∙ ap height_of (sym f) ∙ height_of-field n;
}

-- a side of what is behind a link
pub record IsSide (knows : Knowledge) (side link : Option (Box Node Global)) : Type 0 where
  pub tree : IsTreeBehind knows side
  pub rising : IsRising (in_order_behind side)
  pub lower : height_behind side + 1 ≤ height_behind link
  pub fewer : length (in_order_behind side) + 1 ≤ length (in_order_behind link)

-- the left side of a root is a tree whose tasks rise, lower than the whole and with fewer tasks
pub left_side_of : (knows : Knowledge) (link : Option (Box Node Global)) (n : Node)
    → IsRootBehind knows link n → IsRising (in_order_behind link) → IsSide knows (out-Node n).left link
left_side_of knows link n r rising =
    let f = root_of knows n r.tree in
    let all = r.order ∙ f.order in
    let count = length-append (in_order_behind (out-Node n).left) ((out-Node n).entity ∷ in_order_behind (out-Node n).right) in
    record {
      tree = f.left;
      rising = IsRising-left _ _ (subst IsRising all rising);
      lower = omega (arith, r.height, f.height);
      fewer = omega (arith, ap length all);
    }

-- the right side of a root is a tree whose tasks rise, lower than the whole and with fewer tasks
pub right_side_of : (knows : Knowledge) (link : Option (Box Node Global)) (n : Node)
    → IsRootBehind knows link n → IsRising (in_order_behind link) → IsSide knows (out-Node n).right link
right_side_of knows link n r rising =
    let f = root_of knows n r.tree in
    let all = r.order ∙ f.order in
    let count = length-append (in_order_behind (out-Node n).left) ((out-Node n).entity ∷ in_order_behind (out-Node n).right) in
    record {
      tree = f.right;
      rising =
          (IsRising-right (in_order_behind (out-Node n).left) ((out-Node n).entity ∷ in_order_behind (out-Node n).right)
          (subst IsRising all rising)).1;
      lower = omega (arith, r.height, f.height);
      fewer = omega (arith, ap length all);
    }

-- all that hangs from a node is its tasks in order
pub in_order-hanging : (n : Node) → in_order n ≡ hanging n
unfolding out-Node denote.Hole.Carrier.out
in_order-hanging (Node' entity None' None' due totals height) = refl
in_order-hanging (Node' entity None' (Some' q r) due totals height) = refl
in_order-hanging (Node' entity (Some' p l) None' due totals height) = refl
in_order-hanging (Node' entity (Some' p l) (Some' q r) due totals height) = refl

-- a node that gets its own left side again is the same
pub on_left-same : (n : Node) → on_left n (out-Node n).left ≡ n
unfolding out-Node roll-Node denote.Hole.Carrier.out denote.Hole.Carrier.roll
on_left-same (Node' entity None' None' due totals height) = refl
on_left-same (Node' entity None' (Some' q r) due totals height) = refl
on_left-same (Node' entity (Some' p l) None' due totals height) = refl
on_left-same (Node' entity (Some' p l) (Some' q r) due totals height) = refl

-- a node that gets its own right side again is the same
pub on_right-same : (n : Node) → on_right n (out-Node n).right ≡ n
unfolding out-Node roll-Node denote.Hole.Carrier.out denote.Hole.Carrier.roll
on_right-same (Node' entity None' None' due totals height) = refl
on_right-same (Node' entity None' (Some' q r) due totals height) = refl
on_right-same (Node' entity (Some' p l) None' due totals height) = refl
on_right-same (Node' entity (Some' p l) (Some' q r) due totals height) = refl
