-- How large the totals of a tree are: weight, weighted sum and count, of tasks that are in their ranges.
use Rattle.std.proofs.Common.{◌≡◌, ◌*◌, ◌≤◌, ◌^◌, List, [], ◌∷◌, ◌++◌, length, Option, Some, None, Box, Global, sym, subst, arith}
use Rattle.std.specs.List.{AllByRecursion}
use Rattle.std.proofs.Math.Nat.{mul-le-mul_left}
use Rattle.bq_disc.specs.Tasks.{Task}
use Rattle.bq_disc.specs.Totals.{total_weight, weighted_sum, sums_of, IsBounded, HasBounds}
use Rattle.bq_tree.specs.Trees.{IsTree, IsTreeHeld, IsTreeBehind, in_order, in_order_held, in_order_behind}
use Rattle.bq_tree.specs.Knowing.{knows_sums}
use Rattle.bq_disc.specs.declared.node.Node.{Node, out-Node, Node', Held-Node-left, None', Some'}

-- the weight and v of each task are in their ranges
abbrev AllBounded : List Task → Type 0
AllBounded xs = AllByRecursion IsBounded xs

-- if all tasks of two lists are in their ranges, so are those of both joined
bounded-append : (xs ys : List Task) → AllBounded xs → AllBounded ys → AllBounded (xs ++ ys)
bounded-append [] ys h k = k
bounded-append (x ∷ xs) ys h k = (h.0, bounded-append xs ys h.1 k)

mutual
  all_node : (n : Node) → IsTree knows_sums n → AllBounded (in_order n)
  all_node (Node' entity left right due totals height) h =
      bounded-append (in_order_held left) (entity ∷ in_order_held right) (all_held left h.0) (h.4, all_held right h.1)

  all_held : (n : Held-Node-left) → IsTreeHeld knows_sums n → AllBounded (in_order_held n)
  all_held None' h = tt
  all_held (Some' p n) h = all_node n h

-- the bounds of the totals of such tasks: the weight from below, the weight from above, the weighted sum, all three
weight_low : (xs : List Task) → AllBounded xs → 15 * length xs ≤ total_weight xs
weight_low [] h = omega arith
weight_low (x ∷ xs) h = let w = h.0.0.0 in omega (arith, weight_low xs h.1)

weight_high : (xs : List Task) → AllBounded xs → total_weight xs ≤ 88761 * length xs
weight_high [] h = omega arith
weight_high (x ∷ xs) h = let w = h.0.0.1 in omega (arith, weight_high xs h.1)

moment_high : (xs : List Task) → AllBounded xs → weighted_sum xs ≤ 2 ^ 62 * total_weight xs
moment_high [] h = omega arith
moment_high (x ∷ xs) h = let m = mul-le-mul_left x.weight h.0.1 in omega (arith, m, moment_high xs h.1)

bounds_of : (xs : List Task) → AllBounded xs → HasBounds (sums_of xs)
bounds_of xs h = record { weight_low = weight_low xs h; weight_high = weight_high xs h; moment_high = moment_high xs h }

-- the totals of a tree keep their bounds
pub bounded_behind : (o : Option (Box Node Global)) → IsTreeBehind knows_sums o → HasBounds (sums_of (in_order_behind o))
bounded_behind None h = bounds_of [] tt
bounded_behind (Some b) h = bounds_of (in_order b.value) (all_node b.value h)

-- the totals that a root knows keep their bounds
pub bounded_node : (n : Node) → IsTree knows_sums n → HasBounds (out-Node n).totals
unfolding out-Node denote.Hole.Carrier.out
bounded_node (Node' entity left right due totals height) h =
    subst HasBounds (sym h.5.1)
    (bounds_of (in_order_held left ++ entity ∷ in_order_held right) (all_node (Node' entity left right due totals height) h))

-- the totals that a root knows keep their bounds
pub bounded_root : (o : Option (Box Node Global)) (b : Box Node Global)
    → o ≡ Some b → IsTreeBehind knows_sums o → HasBounds (out-Node b.value).totals
bounded_root o b e h = bounded_node b.value (subst (IsTreeBehind knows_sums) e h)
