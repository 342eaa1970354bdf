-- What the search keeps that puts each slot in front once all slots are in place to which control may go from it.
use Rattle.std.specs.Prelude.{◌≢◌, ◌++◌, [], ◌∷◌, ◌≡◌, ℕ, ◌+◌, ◌*◌, ◌<◌, ◌≤◌, ◌⊎◌, Bool, true, false, ℤ, pos, List, length, Option, Some, None, slice_index, slice_index_or, sum_by}
use Rattle.bq_insn.specs.declared.Insn.{Insn}
use Rattle.bq_bpf.specs.Steps.{LeadsTo, instruction_at}
use Rattle.bq_insn.specs.Slots.{slots_of}
use Rattle.bq_bpf.specs.Instructions.{distance_of, goes_on}
use Rattle.bq_verify.specs.Edges.{IsEdge, IsStart}
use Rattle.bq_verify.specs.Paths.{Path}
use Rattle.bq_verify.specs.Passes.{LeadsOut, IsAmongTargets}
use Rattle.bq_verify.specs.declared.targets.Targets.{Targets}
use Rattle.bq_import.specs.Copies.{IsCopyOfSlot}
use Rattle.bq_import.specs.Backward.{IsBuilt, IsFront}
use Rattle.bq_import.specs.Lengths.{IsSlotIn, IsJump, IsLanding, run_slots, width_at}
use Rattle.bq_import.specs.Orders.{IsForwardOrder, copy_length}

-- the slots to which control may go from the instruction: the next one, and the one to which it jumps
pub record AreTargets (slots : List (Option Insn)) (slot : ℕ) (insn : Insn) (targets : Targets) : Type 0 where
  pub out : LeadsOut slots slot targets
  pub next : goes_on insn ≡ true → targets.next ≡ Some (slot + slots_of insn)
  pub jump : (far : ℤ) → distance_of insn ≡ Some far → (to : ℕ) × LeadsTo slot far to × (targets.jump ≡ Some to)
  pub jumps : (to : ℕ) → targets.jump ≡ Some to → IsJump slots slot to
  pub starts : (to : ℕ) → IsAmongTargets targets to → IsStart slots to
  pub later : (to : ℕ) → targets.next ≡ Some to → slot < to
  pub behind : (to : ℕ) → targets.next ≡ Some to → to ≡ slot + slots_of insn
  pub on : (to : ℕ) → targets.next ≡ Some to → goes_on insn ≡ true

-- control goes on from the instruction at the slot to that one
pub record IsNextSlot (slots : List (Option Insn)) (slot next : ℕ) : Type 0 where
  pub insn : Insn
  pub here : instruction_at slots slot ≡ Some insn
  pub on : goes_on insn ≡ true
  pub is : next ≡ slot + slots_of insn

-- the place of the last copy of a slot, if there is one
abbrev pub copy_place : List (Option ℕ) → ℕ → Option ℕ
copy_place places slot = slice_index_or places slot None

-- a slot has a copy
abbrev pub HasCopy : List (Option ℕ) → ℕ → Type 0
HasCopy places slot = (place : ℕ) × (copy_place places slot ≡ Some place)

-- each place that is kept is that of a copy
abbrev pub AreCopyPlaces : List (Option Insn) → List ℕ → List (Option ℕ) → Type 0
AreCopyPlaces back origins places = (slot place : ℕ) → copy_place places slot ≡ Some place → IsCopyOfSlot back origins place slot

-- if a slot is in place, so is each slot to which control goes from it
abbrev pub AreClosed : List (Option Insn) → List (Option ℕ) → Type 0
AreClosed old places = (from to : ℕ) → HasCopy places from → IsEdge old from to → HasCopy places to

-- a target is not in place; each other target is, or this one is that of the jump
abbrev pub IsMissing : List (Option ℕ) → Targets → ℕ → Type 0
IsMissing places targets to =
    (copy_place places to ≡ None)
    × ((targets.jump ≡ Some to) ⊎ ((targets.next ≡ Some to) × ((other : ℕ) → targets.jump ≡ Some other → HasCopy places other)))

-- a jump in front of the copy so far that goes on over this number of slots goes to a copy of that slot
pub record JumpsTo (back : List (Option Insn)) (origins : List ℕ) (distance : ℤ) (to : ℕ) : Type 0 where
  pub landing : ℕ
  pub apart : ℕ
  pub distance_is : distance ≡ pos apart
  pub long : length back ≡ landing + 1 + apart
  pub stands : IsCopyOfSlot back origins landing to

-- all to which control may go from the slot is in place
abbrev pub IsSlotReady : List (Option Insn) → List (Option ℕ) → ℕ → Type 0
IsSlotReady old places slot = (to : ℕ) → IsEdge old slot to → HasCopy places to

-- the copy so far is one of a forward order of what is in place, or shorter, and begins with the first of that
pub record IsCounted (old back : List (Option Insn)) (origins : List ℕ) (places : List (Option ℕ)) : Type 0 where
  pub order : List ℕ
  pub forward : IsForwardOrder old order
  pub has : (slot : ℕ) → HasCopy places slot → IsSlotIn order slot
  pub only : (slot : ℕ) → IsSlotIn order slot → HasCopy places slot
  pub front : (first : ℕ) (later : List ℕ) → order ≡ first ∷ later → IsFront back origins first
  pub short : length back ≤ copy_length old order

-- the copy until now, and the places in it
pub record IsOrdered (maps : ℕ) (old back : List (Option Insn)) (origins : List ℕ) (places : List (Option ℕ)) : Type 0 where
  pub built : IsBuilt maps old back origins
  pub known : AreCopyPlaces back origins places
  pub closed : AreClosed old places
  pub counted : IsCounted old back origins places
  pub room : length places ≡ length old

-- a slot was begun
abbrev pub is_open : List Bool → ℕ → Bool
is_open opens slot = slice_index_or opens slot false

-- a jump leads to each slot that is marked, and control comes to it
abbrev pub AreLandings : List (Option Insn) → List Bool → Type 0
AreLandings slots marks = (slot : ℕ) → is_open marks slot ≡ true → IsLanding slots slot × Path slots 0 slot

-- control comes to each slot of the list
abbrev pub AllComeTo : List (Option Insn) → List ℕ → Type 0
AllComeTo slots list = (index : ℕ) → index < length list → Path slots 0 (slice_index list index)

-- the slot is on the stack
pub record IsStacked (stack : List ℕ) (slot : ℕ) : Type 0 where
  pub index : ℕ
  pub inside : index < length stack
  pub slot_is : slice_index stack index ≡ slot

-- the slot is on top of the stack
pub record IsTop (stack : List ℕ) (slot : ℕ) : Type 0 where
  pub below : ℕ
  pub long : length stack ≡ below + 1
  pub slot_is : slice_index stack below ≡ slot

-- the list is as it was, or ends with the slot now
abbrev pub IsQueued : List ℕ → Option ℕ → List ℕ → Type 0
IsQueued before slot after = (after ≡ before) ⊎ ((k : ℕ) × (slot ≡ Some k) × (after ≡ before ++ k ∷ []))

-- 1 if the slot was not begun, and 0 otherwise
abbrev pub unopened : Bool → ℕ
unopened true = 0
unopened false = 1

-- the slots that were begun and are not done: each was opened, and none comes twice
pub record AreWaiting (places : List (Option ℕ)) (opens : List Bool) (stack : List ℕ) : Type 0 where
  pub begun : (slot : ℕ) → HasCopy places slot → is_open opens slot ≡ true
  pub opened : (i : ℕ) → i < length stack → is_open opens (slice_index stack i) ≡ true
  pub undone : (i : ℕ) → i < length stack → copy_place places (slice_index stack i) ≡ None
  pub apart : (i j : ℕ) → i < j → j < length stack → slice_index stack i ≢ slice_index stack j

-- the stack is a path of slots that were opened and are not done
pub record IsSearching (maps : ℕ) (old back : List (Option Insn)) (origins : List ℕ) (places : List (Option ℕ)) (opens : List Bool) (stack : List ℕ) : Type 0 where
  pub ordered : IsOrdered maps old back origins places
  pub room : length opens ≡ length old
  pub opened : (slot : ℕ) → is_open opens slot ≡ true → HasCopy places slot ⊎ IsStacked stack slot
  pub ways : (i j : ℕ) → i ≤ j → j < length stack → Path old (slice_index stack i) (slice_index stack j)
  pub starts : (i : ℕ) → i < length stack → IsStart old (slice_index stack i)
  pub comes : AllComeTo old stack
  pub waiting : AreWaiting places opens stack

-- each slot that was begun before is so after
abbrev pub KeepsOpen : List Bool → List Bool → Type 0
KeepsOpen before after = (slot : ℕ) → is_open before slot ≡ true → is_open after slot ≡ true

-- how much is left to do
abbrev pub left_of : List Bool → List ℕ → ℕ
left_of opens stack = 2 * sum_by unopened opens + length stack

-- this many slots are enough to put the slot in front: the slots of its run, or only its own if the next instruction is in front
abbrev pub Suffices : List (Option Insn) → List (Option Insn) → List ℕ → ℕ → ℕ → Type 0
Suffices old back origins slot most =
    (run_slots old slot ≤ most) ⊎ ((next : ℕ) × IsNextSlot old slot next × IsFront back origins next × (width_at old slot ≤ most))

-- control goes on from the one slot to the other, and all else to which it may go from there is in place
pub record IsLastOf (old : List (Option Insn)) (places : List (Option ℕ)) (from to : ℕ) : Type 0 where
  pub next : IsNextSlot old from to
  pub others : (other : ℕ) → IsEdge old from other → (other ≡ to) ⊎ HasCopy places other
