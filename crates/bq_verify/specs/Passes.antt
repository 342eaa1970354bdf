-- What the passes for the counter calls and the heights keep.
use Rattle.std.specs.Prelude.{◌≡◌, ℕ, ◌+◌, ◌<◌, ◌≤◌, List, Option, Some, None, slice_index, slice_index_or, ◌⊎◌}
use Rattle.bq_insn.specs.declared.Insn.{Insn}
use Rattle.bq_insn.specs.declared.Insn.TheVariants.{Exit}
use Rattle.bq_bpf.specs.Steps.{instruction_at}
use Rattle.bq_verify.specs.Edges.{IsEdge, IsStart, IsForward}
use Rattle.bq_verify.specs.Paths.{PathOut, CallsOnWay, IsGreatest, counter_calls_of}
use Rattle.bq_verify.specs.Faults.{IsBadJump}
use Rattle.bq_verify.specs.declared.targets.Targets.{Targets}

-- the control graph is sound: each edge leads to a later instruction, and each jump is an edge
pub record IsGraphSound (slots : List (Option Insn)) : Type 0 where
  pub forward : IsForward slots
  pub lands : (slot : ℕ) → IsBadJump slots slot → ⊥

-- the slot is one of the targets
abbrev pub IsAmongTargets : Targets → ℕ → Type 0
IsAmongTargets targets to = (targets.next ≡ Some to) ⊎ (targets.jump ≡ Some to)

-- the targets are the slots to which edges lead from this slot; only an EXIT has no target
pub record LeadsOut (slots : List (Option Insn)) (slot : ℕ) (targets : Targets) : Type 0 where
  pub each : (to : ℕ) → IsEdge slots slot to → IsAmongTargets targets to
  pub only : (to : ℕ) → IsAmongTargets targets to → IsEdge slots slot to
  pub none : targets.next ≡ None → targets.jump ≡ None → instruction_at slots slot ≡ Some Exit

-- the list has a number of at least `n` at the slot
abbrev pub HasAtLeast : List (Option ℕ) → ℕ → ℕ → Type 0
HasAtLeast most slot n = (m : ℕ) × (slice_index_or most slot None ≡ Some m) × (n ≤ m)

-- the number at the slot `to`, if a slot is given, is raised to at least the count, and no other number changes
pub record Raises (old : List (Option ℕ)) (to : Option ℕ) (count : ℕ) (new : List (Option ℕ)) : Type 0 where
  pub kept : (k a : ℕ) → slice_index_or old k None ≡ Some a → HasAtLeast new k a
  pub raised : (k : ℕ) → to ≡ Some k → HasAtLeast new k count
  pub only : (k b : ℕ) → slice_index_or new k None ≡ Some b → (slice_index_or old k None ≡ Some b) ⊎ ((to ≡ Some k) × (b ≡ count))

-- each number is the counter calls of some path, and all edges from slots below `below` have been followed
pub record CountsFollowed (slots : List (Option Insn)) (below : ℕ) (most : List (Option ℕ)) : Type 0 where
  pub begins : (n : ℕ) × (slice_index_or most 0 None ≡ Some n)
  pub way : (k n : ℕ) → slice_index_or most k None ≡ Some n → CallsOnWay slots k n
  pub small : (k n : ℕ) → slice_index_or most k None ≡ Some n → n ≤ k
  pub closed : (from to n : ℕ) → from < below → IsEdge slots from to → slice_index_or most from None ≡ Some n → HasAtLeast most to (n + counter_calls_of (instruction_at slots from))

-- from slot `from` on, the height of each instruction is the number of instructions on the longest path from it to an EXIT
abbrev pub Measured : List (Option Insn) → ℕ → List ℕ → Type 0
Measured slots from heights = (k : ℕ) → from ≤ k → IsStart slots k → IsGreatest (PathOut slots k) (slice_index heights k)

-- the height at a target, or 0 if it has none yet
abbrev pub height_to : List ℕ → Option ℕ → ℕ
height_to heights None = 0
height_to heights (Some to) = slice_index heights to
