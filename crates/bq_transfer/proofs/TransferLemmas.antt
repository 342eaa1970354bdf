-- What is owed for an instruction by what a call says of its kind.
use Rattle.std.proofs.Common.{◌≡◌, ℕ, ◌+◌, ℤ, List, Some, refl, sym, subst, ◌⊎◌, inl, inr}
use Rattle.std.specs.Prelude.{OnOk, IfErr, IsOk, Ok, Err}
use Rattle.std.specs.declared.result.Result.{Result}
use Rattle.bq_insn.specs.Slots.{byte_count}
use Rattle.bq_insn.specs.declared.Insn.{Insn}
use Rattle.bq_insn.specs.declared.Insn.TheVariants.{Goto, Goto32, Branch, Exit}
use Rattle.bq_insn.specs.declared.Size.{Size}
use Rattle.bq_bpf.specs.declared.shape.MapShape.{MapShape}
use Rattle.bq_bpf.specs.Instructions.{destination_of}
use Rattle.bq_states.specs.Certainty.{Fact, Has, IsGiven, IsStoredAt}
use Rattle.bq_states.specs.declared.abstract_state.ValueKind.{ValueKind}
use Rattle.bq_states.specs.declared.abstract_state.ValueKind.TheVariants.{Stack, Entry}
use Rattle.bq_states.specs.declared.abstract_state.AbstractState.{AbstractState}
use Rattle.bq_transfer.specs.After.{After, GivesExact, GivesNumber, GivesPointer, IsStackByte, StoresByte}
use Rattle.bq_transfer.specs.Obligations.{MayBeUnproven}
use Rattle.bq_transfer.specs.Ready.{IsIntoEntry, IsOnFrame, IsAccessPlaced, IsTransferred}
use Rattle.bq_transfer.specs.Transfers.{IsStraight}
use Rattle.bq_transfer.specs.declared.obligation.Obligation.{Obligation}
use Rattle.bq_transfer.proofs.CertaintyLemmas.{bytes_at, has_given, has_left, has_stored}

-- what is neither a jump nor an EXIT goes straight on
is_straight : (insn : Insn) → IsTransferred insn → IsStraight insn
is_straight (Goto off) jumps = absurd jumps
is_straight (Goto32 imm) jumps = absurd jumps
is_straight (Branch w c dst src off) jumps = absurd jumps
is_straight Exit jumps = absurd jumps
is_straight _ transferred = λ slot. inl (refl, refl)

-- what is neither a jump nor an EXIT goes straight on where it was carried out
pub straight_on_ok : {T E : Type 0} (r : Result T E) (insn : Insn) → IsTransferred insn → OnOk r (IsStraight insn)
straight_on_ok (Ok x) insn transferred = is_straight insn transferred
straight_on_ok (Err e) insn transferred = tt

-- an unproven obligation of the instruction, by what it is
pub obligations_as : {T : Type 0} (r : Result T Obligation) (insn kind : Insn)
    → insn ≡ kind → IfErr r (λ obligation. MayBeUnproven obligation kind)
    → IfErr r (λ obligation. MayBeUnproven obligation insn)
obligations_as r insn kind is obligations = subst (λ (i : Insn). IfErr r (λ obligation. MayBeUnproven obligation i)) (sym is) obligations

-- where an instruction leads and which of its obligations may be unproven, whatever its kind
pub ruleset transferring = (straight_on_ok, obligations_as)

-- what is sure after an instruction that gives a register a number, and no pointer
pub gives_number : {T E : Type 0} (r : Result T E) (insn : Insn) (old new : AbstractState) (dst : ℕ)
    → destination_of insn ≡ Some dst → ((kind : ValueKind) (o slot k n : ℕ) → GivesPointer kind o slot k insn n old → ⊥)
    → ((n m : ℕ) → GivesExact n insn m → ⊥) → IsOk r × IsGiven old new dst
    → IsOk r × ((x : Fact) (slot k : ℕ) → After x slot k insn old → Has x new)
gives_number r insn old new dst writes nowhere inexact given = (
  given.0,
  λ x slot k after.
      has_given x slot k insn old new dst writes (λ kind o n gives. nowhere kind o slot k n gives)
      (λ n m gives. absurd (inexact n m gives)) given.1 after,
)

-- what is sure after a store of a number by a register: on the stack, or into an entry
pub stores_number : {T E : Type 0} (r : Result T E) (insn : Insn) (old new : AbstractState) (shapes : List MapShape)
    (context : ℕ) (size : Size) (dst : ℕ) (off : ℤ)
    → ((n : ℕ) → GivesNumber insn n → ⊥) → ((n m : ℕ) → GivesExact n insn m → ⊥)
    → ((kind : ValueKind) (o slot k n : ℕ) → GivesPointer kind o slot k insn n old → ⊥)
    → ((i : ℕ) → StoresByte insn i → (dst ≡ 10) × IsStackByte size off i)
    → ((at : ℕ) → IsAccessPlaced shapes context old size dst off Stack at → IsOk r × IsStoredAt old new at (at + byte_count size))
    → ((map at : ℕ) → IsAccessPlaced shapes context old size dst off (Entry map) at → IsOk r × (new ≡ old))
    → IsOnFrame shapes context old size dst off ⊎ IsIntoEntry shapes context old size dst off
    → IsOk r × ((x : Fact) (slot k : ℕ) → After x slot k insn old → Has x new)
stores_number r insn old new shapes context size dst off none inexact nowhere bytes on_frame into_entry (inl f) = (
  (on_frame f.at f.placed).0,
  λ x slot k after.
      has_stored x slot k insn old new f.at (f.at + byte_count size) none inexact (λ kind o n gives. nowhere kind o slot k n gives)
      (λ i stores. let byte = bytes i stores in bytes_at byte.1.0 f.at (byte_count size) i off byte.1.1 f.at_is byte.1.2 byte.1.3)
      (on_frame f.at f.placed).1 after,
)
stores_number r insn old new shapes context size dst off none inexact nowhere bytes on_frame into_entry (inr f) = (
  (into_entry f.map f.at f.placed).0,
  λ x slot k after.
      subst (λ (v : AbstractState). Has x v) (sym (into_entry f.map f.at f.placed).1)
      (has_left x slot k insn old none inexact (λ kind o n gives. nowhere kind o slot k n gives)
      (λ i stores. f.other (bytes i stores).0) after),
)
