-- Laws of the format: bytes have one meaning, and they have the same meaning if they come in pieces.
use Rattle.std.specs.Prelude.{◌≡◌, ℕ, ◌<◌, List, [], ◌∷◌, slice_index, Result, Ok, Err, ◌⊎◌}
use Rattle.std.specs.List.{flat_map}
use Rattle.bq_verify.specs.declared.cause.Cause.TheVariants.{Graph, State}
use Rattle.bq_bpf.specs.declared.shape.MapShape.{MapShape}
use Rattle.bq_hooks.specs.declared.hook.Hook.{Hook}
use Rattle.bq_hooks.specs.declared.hook.Version.{Version}
use Rattle.bq_load.specs.declared.fault.LoadFault.{LoadFault}
use Rattle.bq_load.specs.Layout.{IsImage}
use Rattle.bq_load.specs.Faults.{IsLoadFault}
use Rattle.bq_load.specs.declared.fault.LoadFault.TheVariants as fault
use Rattle.bq_load.specs.Answers.{HasImage, IsUnloaded, Loads}
use Rattle.bq_verify.specs.Accepted.{Accepted}
use Rattle.bq_load.specs.Feeding.{Fed, unfed, StandsFor, FeedsPiece}

-- all numbers of the list are bytes
abbrev pub AreBytes : List ℕ → Type 0
AreBytes bytes = (i : ℕ) → slice_index bytes i < 256

-- bytes are at most one image
abbrev pub OneImage : Type 0
OneImage =
    (bytes : List ℕ) (v w : Version) (h k : Hook) (a b : List MapShape) (p q : List ℕ) → IsImage bytes v h a p → IsImage bytes w k b q
    → (v ≡ w) × (h ≡ k) × (a ≡ b) × (p ≡ q)

-- an image has no fault
abbrev pub NoImageIsFaulty : Type 0
NoImageIsFaulty =
    (bytes : List ℕ) (v : Version) (h : Hook) (shapes : List MapShape) (program : List ℕ) (f : LoadFault) → AreBytes bytes → IsImage bytes v h shapes program → IsLoadFault bytes f → ⊥

-- bytes have at most one first fault
abbrev pub ImageHasOneFault : Type 0
ImageHasOneFault = (bytes : List ℕ) (f g : LoadFault) → AreBytes bytes → IsLoadFault bytes f → IsLoadFault bytes g → f ≡ g

-- bytes are an image or have a first fault
abbrev pub EachIsAnswered : Type 0
EachIsAnswered = (bytes : List ℕ) → AreBytes bytes → HasImage bytes ⊎ ((f : LoadFault) × IsLoadFault bytes f)

-- the answer is right for these bytes: the program that loads from them, or why none does
abbrev pub IsAnswer : List ℕ → Result Accepted LoadFault → Type 0
IsAnswer bytes (Ok v) = Loads bytes v
IsAnswer bytes (Err f) = IsUnloaded bytes f

-- the fault is of the bytes, of their program, or of its control graph; a refusal for what is not known of registers
-- and stack is not
abbrev pub IsOfBytes : LoadFault → Type 0
IsOfBytes (fault.Refused slot (Graph cause)) = Unit {0}
IsOfBytes (fault.Refused slot (State obligation)) = ⊥
IsOfBytes fault.OutOfMemory = ⊥
IsOfBytes named = Unit {0}

-- bytes with a fault of their own, of their program or of its control graph have no other answer, unless memory runs out
abbrev pub OneAnswer : Type 0
OneAnswer =
    (bytes : List ℕ) (f : LoadFault) (answer : Result Accepted LoadFault) → AreBytes bytes → IsOfBytes f → IsUnloaded bytes f → IsAnswer bytes answer
    → (answer ≡ Err f) ⊎ (answer ≡ Err fault.OutOfMemory)

-- at most one program is loaded from bytes
abbrev pub OneLoaded : Type 0
OneLoaded = (bytes : List ℕ) (v w : Accepted) → Loads bytes v → Loads bytes w → v ≡ w

-- a reader took these pieces, one after another
abbrev pub FeedsAll : Fed → List (List ℕ) → Fed → Type 0
FeedsAll old [] new = old ≡ new
FeedsAll old (piece ∷ pieces) new = (fed : Fed) × FeedsPiece old piece fed × FeedsAll fed pieces new

-- a reader that took pieces stands for all of them joined
abbrev pub PiecesJoin : Type 0
PiecesJoin = (pieces : List (List ℕ)) (fed : Fed) → FeedsAll unfed pieces fed → StandsFor fed (flat_map (λ piece. piece) pieces)
