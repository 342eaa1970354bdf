-- Nodes linked as a balanced tree: G. M. Adelson-Velsky and E. M. Landis, 1962.
use Rattle.std.specs.Prelude.{◌≡◌, ℕ, ◌+◌, ◌≤◌, max, List, [], ◌∷◌, ◌++◌, Option, Some, None}
use Rattle.std.specs.declared.boxed.Box.{Box}
use Rattle.std.specs.declared.alloc.Global.{Global}
use Rattle.bq_disc.specs.Tasks.{Task, inserted}
use Rattle.bq_disc.specs.Totals.{IsBounded}
use Rattle.bq_disc.specs.declared.deadline.Deadline.{Deadline}
use Rattle.bq_disc.specs.declared.totals.Totals.{Totals}
use Rattle.bq_disc.specs.declared.node.Node.{Node, out-Node, Node', Held-Node-left, None', Some'}

abbrev mutual
  -- the tasks of a node and of those below it, from left to right
  pub in_order : Node → List Task
  in_order (Node' entity left right due totals height) = in_order_held left ++ entity ∷ in_order_held right

  -- the tasks of what a link holds, from left to right
  pub in_order_held : Held-Node-left → List Task
  in_order_held None' = []
  in_order_held (Some' p n) = in_order n

-- the height that a node keeps
abbrev pub height_of : Node → ℕ
height_of (Node' entity left right due totals height) = height

-- the height of what a link holds: 0 if it holds nothing
abbrev pub height_held : Held-Node-left → ℕ
height_held None' = 0
height_held (Some' p n) = height_of n

-- neither height exceeds the other by more than this
abbrev pub DifferByAtMost : ℕ → ℕ → ℕ → Type 0
DifferByAtMost by l r = (l ≤ r + by) × (r ≤ l + by)

-- what a node knows of the tasks that hang from it, given the deadline and the totals that it keeps
abbrev pub Knowledge : Type 1
Knowledge = List Task → Deadline → Totals → Type 0

abbrev mutual
  -- a tree: every node knows its height and what it must know of all that hang from it; the sides of each differ in height
  -- by at most one
  pub IsTree : Knowledge → Node → Type 0
  IsTree knows (Node' entity left right due totals height) =
      IsTreeHeld knows left × IsTreeHeld knows right
      × DifferByAtMost 1 (height_held left) (height_held right) × (height ≡ max (height_held left) (height_held right) + 1)
      × IsBounded entity
      × knows (in_order_held left ++ entity ∷ in_order_held right) due totals

  -- what a link holds is a tree, or nothing
  pub IsTreeHeld : Knowledge → Held-Node-left → Type 0
  IsTreeHeld knows None' = Unit {0}
  IsTreeHeld knows (Some' p n) = IsTree knows n

-- the tasks of the tree that a link leads to, from left to right; none if it leads to none
abbrev pub in_order_behind : Option (Box Node Global) → List Task
in_order_behind None = []
in_order_behind (Some b) = in_order b.value

-- the height of the tree that a link leads to; 0 if it leads to none
abbrev pub height_behind : Option (Box Node Global) → ℕ
height_behind None = 0
height_behind (Some b) = height_of b.value

-- a link leads to a tree, or to none
abbrev pub IsTreeBehind : Knowledge → Option (Box Node Global) → Type 0
IsTreeBehind knows None = Unit {0}
IsTreeBehind knows (Some b) = IsTree knows b.value

-- a fork: a node whose sides are trees and that knows what it must know; its height may be out of date, and its sides may
-- differ by more than one
abbrev pub IsFork : Knowledge → Node → Type 0
IsFork knows (Node' entity left right due totals height) =
    IsTreeHeld knows left × IsTreeHeld knows right
    × IsBounded entity
    × knows (in_order_held left ++ entity ∷ in_order_held right) due totals

-- the height of the left side
abbrev pub left_height : Node → ℕ
left_height (Node' entity left right due totals height) = height_held left

-- the height of the right side
abbrev pub right_height : Node → ℕ
right_height (Node' entity left right due totals height) = height_held right

-- a link leads to a fork, or to none
abbrev pub IsForkBehind : Knowledge → Option (Box Node Global) → Type 0
IsForkBehind knows None = Unit {0}
IsForkBehind knows (Some b) = IsFork knows b.value

-- the height of the left side of the root that a link leads to
abbrev pub left_height_behind : Option (Box Node Global) → ℕ
left_height_behind None = 0
left_height_behind (Some b) = left_height b.value

-- the height of the right side of the root that a link leads to
abbrev pub right_height_behind : Option (Box Node Global) → ℕ
right_height_behind None = 0
right_height_behind (Some b) = right_height b.value

-- a root counts one more task in what it knows, and does not change otherwise
pub record CountsIn (knows : Knowledge) (old new : Node) (t : Task) : Type 0 where
  pub task : (out-Node new).entity ≡ (out-Node old).entity
  pub left : (out-Node new).left ≡ (out-Node old).left
  pub right : (out-Node new).right ≡ (out-Node old).right
  pub height : (out-Node new).height ≡ (out-Node old).height
  pub counts : knows (inserted t (in_order old)) (out-Node new).due (out-Node new).totals

-- the left side of the root that a link leads to
abbrev pub left_behind : Option (Box Node Global) → Option (Box Node Global)
left_behind None = None
left_behind (Some b) = (out-Node b.value).left

-- the right side of the root that a link leads to
abbrev pub right_behind : Option (Box Node Global) → Option (Box Node Global)
right_behind None = None
right_behind (Some b) = (out-Node b.value).right

-- the root that a link leads to has no left side
abbrev pub HasNoLeft : Option (Box Node Global) → Type 0
HasNoLeft None = Unit {0}
HasNoLeft (Some b) = (out-Node b.value).left ≡ None

-- a root keeps its task, its sides and its height
pub record KeepsSides (old new : Node) : Type 0 where
  pub task : (out-Node new).entity ≡ (out-Node old).entity
  pub left : (out-Node new).left ≡ (out-Node old).left
  pub right : (out-Node new).right ≡ (out-Node old).right
  pub height : (out-Node new).height ≡ (out-Node old).height

-- all that hangs from a root, from left to right
abbrev pub hanging : Node → List Task
hanging n = in_order_behind (out-Node n).left ++ (out-Node n).entity ∷ in_order_behind (out-Node n).right

-- a root still counts a task that has left one of its sides
abbrev pub StillCounts : Knowledge → Node → Task → Type 0
StillCounts knows n t =
    (before : List Task) × (after : List Task) × (hanging n ≡ before ++ after)
    × knows (before ++ t ∷ after) (out-Node n).due (out-Node n).totals
