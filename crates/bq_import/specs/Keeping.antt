-- The instructions to which control comes in a program whose jumps go forward, and the copy of only those.
use Rattle.std.specs.Prelude.{◌≡◌, ℕ, ◌+◌, ◌<◌, ◌≤◌, ◌⊎◌, Bool, true, List, Option, Some, length}
use Rattle.bq_insn.specs.declared.Insn.{Insn}
use Rattle.bq_verify.specs.Edges.{IsEdge, IsStart}
use Rattle.bq_verify.specs.Paths.{Path}
use Rattle.bq_import.specs.Copies.{IsCopyOfSlot}
use Rattle.bq_import.specs.Backward.{IsBuilt, IsFront}
use Rattle.bq_import.specs.Search.{AreCopyPlaces, HasCopy, is_open, copy_place}

-- from the slot control goes only to later ones
abbrev pub LeadsForward : List (Option Insn) → ℕ → Type 0
LeadsForward slots from = (to : ℕ) → IsEdge slots from to → from < to

-- the slot is marked, if there is one, and no other
pub record IsMarked (before : List Bool) (slot : Option ℕ) (after : List Bool) : Type 0 where
  pub long : length after ≡ length before
  pub kept : (k : ℕ) → is_open before k ≡ true → is_open after k ≡ true
  pub only : (k : ℕ) → is_open after k ≡ true → (is_open before k ≡ true) ⊎ (slot ≡ Some k)
  pub now : (k : ℕ) → slot ≡ Some k → k < length before → is_open after k ≡ true

-- the slots that were found so far: there is a path to each, and what control goes on to from those below the bound is found
pub record AreFollowed (slots : List (Option Insn)) (below : ℕ) (found : List Bool) : Type 0 where
  pub room : length found ≡ length slots
  pub begins : is_open found 0 ≡ true
  pub starts : (k : ℕ) → is_open found k ≡ true → IsStart slots k
  pub ways : (k : ℕ) → is_open found k ≡ true → Path slots 0 k
  pub closed : (k to : ℕ) → k < below → is_open found k ≡ true → IsEdge slots k to → is_open found to ≡ true

-- the slots that control comes to
pub record AreReached (slots : List (Option Insn)) (found : List Bool) : Type 0 where
  pub room : length found ≡ length slots
  pub begins : is_open found 0 ≡ true
  pub starts : (k : ℕ) → is_open found k ≡ true → IsStart slots k
  pub ways : (k : ℕ) → is_open found k ≡ true → Path slots 0 k
  pub closed : (k to : ℕ) → is_open found k ≡ true → IsEdge slots k to → is_open found to ≡ true

-- an instruction begins at or after the bound, or the program ends there: there is room for what comes before
pub record HasRoomBefore (slots back : List (Option Insn)) (bound : ℕ) : Type 0 where
  pub from : ℕ
  pub above : bound ≤ from
  pub is : (from ≡ length slots) ⊎ IsStart slots from
  pub fits : length back + from ≤ length slots

-- the copy of what control comes to from the bound on, each instruction once
pub record IsKeeping (maps : ℕ) (old : List (Option Insn)) (found : List Bool) (bound : ℕ) (back : List (Option Insn)) (origins : List ℕ) (places : List (Option ℕ)) : Type 0 where
  pub built : IsBuilt maps old back origins
  pub known : AreCopyPlaces back origins places
  pub room : length places ≡ length old
  pub done : (k : ℕ) → bound ≤ k → is_open found k ≡ true → HasCopy places k
  pub above : (place from : ℕ) → IsCopyOfSlot back origins place from → bound ≤ from
  pub comes : (place from : ℕ) → IsCopyOfSlot back origins place from → is_open found from ≡ true
  pub once : (place from : ℕ) → IsCopyOfSlot back origins place from → copy_place places from ≡ Some place
  pub front : (k : ℕ) → bound ≤ k → is_open found k ≡ true → ((j : ℕ) → bound ≤ j → j < k → is_open found j ≡ true → ⊥) → IsFront back origins k
  pub fits : HasRoomBefore old back bound

-- control comes to each instruction
abbrev pub AllReached : List (Option Insn) → Type 0
AllReached slots = (slot : ℕ) → IsStart slots slot → Path slots 0 slot
