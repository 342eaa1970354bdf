-- What a tree of tasks keeps true, with the key of its first task and its table of times.
use Rattle.std.specs.Prelude.{◌≡◌, ℕ, ◌<◌, ◌≤◌, List, Option, None, Some, IfSome, find, length, slice_index, if◌then◌else◌}
use Rattle.std.specs.Option.{option_map}
use Rattle.std.specs.List.{AllByRecursion}
use Rattle.std.specs.declared.boxed.Box.{Box}
use Rattle.std.specs.declared.alloc.Global.{Global}
use Rattle.bq_disc.specs.declared.limits.TheConstants.{TASKS}
use Rattle.bq_disc.specs.Tasks.{Task, comes_before}
use Rattle.bq_disc.specs.Queues.{HasDistinctIds, HasSmallIds, follows, key_of}
use Rattle.bq_disc.specs.Rising.{IsRising}
use Rattle.bq_tree.specs.Trees.{Knowledge, IsTreeBehind, in_order_behind}
use Rattle.bq_disc.specs.declared.node.Node.{Node}
use Rattle.bq_weights.specs.declared.TheConstants.{GREATEST_V}

-- the table has each task's v at the task's id, for ids below TASKS
abbrev pub Knows : List ℕ → List Task → Type 0
Knows times xs = AllByRecursion (λ (t : Task). t.id < TASKS → slice_index times t.id ≡ t.v) xs

-- the key of the first task
abbrev pub first_key : List Task → Option (ℕ × ℕ)
first_key xs = option_map key_of (find (follows None) xs)

-- the lesser of a key and another, if there is another
abbrev pub lesser_of : ℕ × ℕ → Option (ℕ × ℕ) → ℕ × ℕ
lesser_of a None = a
lesser_of a (Some b) = if comes_before a.0 a.1 b.0 b.1 then a else b

-- the tree, its length, its least key and the times of ids describe one and the same rising list of tasks
pub record IsSound (knowledge : Knowledge) (root : Option (Box Node Global)) (len : ℕ) (least : Option (ℕ × ℕ)) (times : List ℕ) : Type 0 where
  pub tree : IsTreeBehind knowledge root
  pub len_is : len ≡ length (in_order_behind root)
  pub rising : IsRising (in_order_behind root)
  pub distinct : HasDistinctIds (in_order_behind root)
  pub small : HasSmallIds (in_order_behind root)
  pub leads : least ≡ first_key (in_order_behind root)
  pub high : IfSome least (λ key. key.0 ≤ GREATEST_V)
  pub knows : Knows times (in_order_behind root)
