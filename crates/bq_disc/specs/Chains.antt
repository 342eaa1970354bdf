-- Nodes linked by their left links.
use Rattle.std.specs.Prelude.{◌≡◌, List, [], ◌∷◌, Option, Some, None}
use Rattle.std.specs.declared.boxed.Box.{Box}
use Rattle.std.specs.declared.alloc.Global.{Global}
use Rattle.bq_disc.specs.Tasks.{Task}
use Rattle.bq_disc.specs.declared.node.Node.{Node, out-Node, Node', Held-Node-left, None', Some'}

-- the task of a node
abbrev pub task_of : Node → Task
task_of n = (out-Node n).entity

-- the node is linked to none
abbrev pub IsLone : Node → Type 0
IsLone (Node' entity left right due totals height) = (left ≡ None') × (right ≡ None')

abbrev mutual
  -- the tasks of a node and of those that its left links lead to, in order
  pub chain : Node → List Task
  chain (Node' entity left right due totals height) = entity ∷ chain_held left

  -- the tasks of what a left link holds
  pub chain_held : Held-Node-left → List Task
  chain_held None' = []
  chain_held (Some' p n) = chain n

abbrev mutual
  -- no node of a chain has a right link
  pub IsStraight : Node → Type 0
  IsStraight (Node' entity left right due totals height) = (right ≡ None') × IsStraightHeld left

  -- what a left link holds has no right link in it
  pub IsStraightHeld : Held-Node-left → Type 0
  IsStraightHeld None' = Unit {0}
  IsStraightHeld (Some' p n) = IsStraight n

-- the tasks of the chain that a link leads to; none if it leads to none
abbrev pub chain_behind : Option (Box Node Global) → List Task
chain_behind None = []
chain_behind (Some b) = chain b.value

-- no node of the chain that a link leads to has a right link
abbrev pub IsStraightBehind : Option (Box Node Global) → Type 0
IsStraightBehind None = Unit {0}
IsStraightBehind (Some b) = IsStraight b.value
