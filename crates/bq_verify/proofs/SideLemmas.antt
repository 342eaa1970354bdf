-- What is sure goes on to both sides of a branch.
use Rattle.std.proofs.Common.{◌≡◌, ℕ, ◌+◌, ◌<◌, ◌≤◌, ◌⊎◌, List, Bool, true, false, Option, Some, None, length, refl, sym, subst, inl, inr, ℤ, get_or-set_same, get_or-set_other}
use Rattle.std.specs.Prelude.{slice_index_or, slice_set}
use Rattle.std.proofs.lemmas.Bool.{cases_lt}
use Rattle.std.proofs.lemmas.List.{get_or_past}
use Rattle.bq_insn.specs.declared.Insn.{Insn}
use Rattle.bq_insn.specs.declared.Insn.TheVariants.{Goto, Goto32, Branch, Exit}
use Rattle.bq_insn.specs.declared.Width.{Width}
use Rattle.bq_insn.specs.declared.Condition.{Condition}
use Rattle.bq_insn.specs.declared.Condition.TheVariants.{Equal, NotEqual}
use Rattle.bq_bpf.specs.Steps.{LeadsTo}
use Rattle.bq_insn.specs.declared.Source.{Source}
use Rattle.bq_states.specs.declared.abstract_state.ValueKind.{ValueKind}
use Rattle.bq_states.specs.declared.abstract_state.ValueKind.TheVariants.{Entry, EntryOrNull}
use Rattle.bq_states.specs.declared.abstract_state.AbstractValue.{AbstractValue}
use Rattle.bq_states.specs.declared.abstract_state.AbstractState.{AbstractState}
use Rattle.bq_states.specs.AbstractStates.{knowing}
use Rattle.bq_states.specs.Learnt.{HasLearnt, IsLasting, IsCertain}
use Rattle.bq_states.specs.Certainty.{Scalar, Exact, Pointer, NoPointer, CertaintyHolds, CertaintyHoldsAt, Fact, Never, AtRegister, IsSetAt, IsPlainAt, Has, Outlasts}
use Rattle.bq_verify.specs.Ways.{HasOnSide, AfterTest, IsApartFrom}
use Rattle.bq_transfer.specs.Sides.{IsNumberIfAny, IsTested, is_found}
use Rattle.bq_transfer.specs.Ready.{IsTransferred}
use Rattle.bq_transfer.specs.After.{IsFoundSide, After}
use Rattle.bq_insn.proofs.OptionLemmas.{some_none}
use Rattle.bq_transfer.proofs.CertaintyLemmas.{not_both, pointer_is, given_has, knowing_given}

-- a register that is known is not past the last of the registers
known_within : (xs : List (Option AbstractValue)) (r : ℕ) (k : AbstractValue)
    → Some k ≡ slice_index_or xs r None → (r < length xs) ⊎ (length xs ≤ r) → r < length xs
known_within xs r k known (inl within) = within
known_within xs r k known (inr beyond) = absurd (some_none _ _ (sym known) (get_or_past xs r None beyond))

-- a register that is known is one of the registers
pub known_inside : (xs : List (Option AbstractValue)) (r : ℕ) (k : AbstractValue) → Some k ≡ slice_index_or xs r None → r < length xs
known_inside xs r k known = known_within xs r k known (cases_lt r (length xs))

-- what is sure after a test of a look-up's answer, on a side of it
pub has_tested : (x : Fact) (slot k : ℕ) (w : Width) (c : Condition) (dst : ℕ) (src : Source) (off : ℤ)
    (m : ℕ) (found : Bool) (state : AbstractState)
    → CertaintyHoldsAt (Pointer (EntryOrNull m) 0) state dst → (IsFoundSide c off slot k → found ≡ true)
    → After x slot k (Branch w c dst src off) state
    → AfterTest state dst m found x
has_tested Never slot k w c dst src off m found state stands side after = absurd after
has_tested (AtRegister Scalar r) slot k w c dst src off m found state stands side (inl gives) = absurd (some_none _ _ gives refl)
has_tested (AtRegister Scalar r) slot k w c dst src off m found state stands side (inr (_, scalar)) =
    inr (λ same. not_both _ (EntryOrNull m) 0 (subst (λ (n : ℕ). CertaintyHoldsAt Scalar state n) same scalar) stands, tt, scalar)
has_tested (AtRegister (Exact n) r) slot k w c dst src off m found state stands side (inl gives) = absurd gives
has_tested (AtRegister (Exact n) r) slot k w c dst src off m found state stands side (inr (_, other, exact)) = inr (other, tt, exact)
has_tested (AtRegister (Pointer kind o) r) slot k w c dst src off m found state stands side
    (inl (same, m', kind_is, o_is, answer, on_side)) =
    let kinds = pointer_is _ (EntryOrNull m') 0 (EntryOrNull m) 0 answer stands in
    let one : m' ≡ m = let e : EntryOrNull m' ≡ EntryOrNull m = kinds.0 in cc in
    let is : AtRegister (Pointer kind o) r ≡ AtRegister (Pointer (Entry m) 0) dst = rw (kind_is, o_is, one, ← same) refl in
    inl (side on_side, is)
has_tested (AtRegister (Pointer kind o) r) slot k w c dst src off m found state stands side (inr (_, certain, before)) =
    inr (
      λ same.
          let kinds =
          pointer_is _ kind o (EntryOrNull m) 0 (subst (λ (n : ℕ). CertaintyHoldsAt (Pointer kind o) state n) same before)
          stands in
          (let refuted : IsCertain (EntryOrNull m) = subst (λ (b : ValueKind). IsCertain b) kinds.0 certain in refuted),
      certain,
      before,
    )
has_tested (AtRegister NoPointer r) slot k w c dst src off m found state stands side after = absurd after
has_tested (IsSetAt i) slot k w c dst src off m found state stands side (inl stores) = absurd stores
has_tested (IsSetAt i) slot k w c dst src off m found state stands side (inr has) = inr (tt, tt, has)
has_tested (IsPlainAt j) slot k w c dst src off m found state stands side after = inr (tt, tt, after)

-- a fact that is not about a register stays sure when a word is learnt of the register
knowing_apart : (x : Fact) (state : AbstractState) (dst : ℕ) (word : AbstractValue)
    → IsApartFrom x dst → Has x state → HasLearnt x state dst word
knowing_apart Never state dst word other has = has
knowing_apart (AtRegister s r) state dst word other has =
    subst (λ (v : Option AbstractValue). CertaintyHolds s v)
    (sym (get_or-set_other state.registers dst r (Some word) None other)) has
knowing_apart (IsSetAt i) state dst word other has = has
knowing_apart (IsPlainAt j) state dst word other has = has

-- the word that is learnt on that side
pub has_on_tested : (x : Fact) (state : AbstractState) (dst m : ℕ) (found : Bool) (side : Option AbstractValue)
    → dst < length state.registers → IsTested m found side → AfterTest state dst m found x
    → HasOnSide x state dst side
has_on_tested x state dst m found side there tested (inl (yes', is)) =
    let word : CertaintyHolds (Pointer (Entry m) 0)
    (slice_index_or (slice_set state.registers dst (Some tested.word)) dst None) =
    subst (λ (v : Option AbstractValue). CertaintyHolds (Pointer (Entry m) 0) v)
    (sym (get_or-set_same state.registers dst (Some tested.word) None there)) (tested.entry yes') in
    let at : HasOnSide (AtRegister (Pointer (Entry m) 0) dst) state dst (Some tested.word) = (tt, word) in
    subst (λ (v : Option AbstractValue). HasOnSide x state dst v) (sym tested.is)
    (subst (λ (y : Fact). HasOnSide y state dst (Some tested.word)) (sym is) at)
has_on_tested x state dst m found side there tested (inr (other, lasting, has)) =
    subst (λ (v : Option AbstractValue). HasOnSide x state dst v) (sym tested.is)
    (lasting, knowing_apart x state dst tested.word other has)

-- what is sure once the abstract state knows a word of a register is sure after the word is learnt
learnt_of : (x : Fact) (state : AbstractState) (dst : ℕ) (k : AbstractValue) → Has x (knowing state dst k) → HasLearnt x state dst k
learnt_of Never state dst k has = has
learnt_of (AtRegister s r) state dst k has = has
learnt_of (IsSetAt i) state dst k has = has
learnt_of (IsPlainAt j) state dst k has = has

-- what is sure of an abstract state is sure on a side of a test of numbers
pub has_on_side : (x : Fact) (state : AbstractState) (dst : ℕ) (side : Option AbstractValue)
    → dst < length state.registers → Outlasts x dst → IsLasting x → CertaintyHoldsAt Scalar state dst
    → IsNumberIfAny side → Has x state
    → HasOnSide x state dst side
has_on_side x state dst None there lasts lasting scalar number has = tt
has_on_side x state dst (Some k) there lasts lasting scalar number has = (
  lasting,
  learnt_of x state dst k (given_has x state (knowing state dst k) dst lasts scalar (knowing_given state dst k there number) has),
)

-- what is sure after a branch outlasts the test
pub sure_outlasts_test : (x : Fact) (slot k : ℕ) (w : Width) (c : Condition) (dst : ℕ) (src : Source) (off : ℤ)
    (state : AbstractState)
    → After x slot k (Branch w c dst src off) state → Outlasts x dst
sure_outlasts_test (AtRegister (Exact n) r) slot k w c dst src off state (inl gives) = absurd gives
sure_outlasts_test (AtRegister (Exact n) r) slot k w c dst src off state (inr (_, other, exact)) = other
sure_outlasts_test (AtRegister Scalar r) slot k w c dst src off state after = tt
sure_outlasts_test (AtRegister (Pointer kind o) r) slot k w c dst src off state after = tt
sure_outlasts_test (AtRegister NoPointer r) slot k w c dst src off state after = tt
sure_outlasts_test Never slot k w c dst src off state after = tt
sure_outlasts_test (IsSetAt i) slot k w c dst src off state after = tt
sure_outlasts_test (IsPlainAt j) slot k w c dst src off state after = tt

-- what is sure after a branch lasts
pub lasting_after : (x : Fact) (slot k : ℕ) (w : Width) (c : Condition) (dst : ℕ) (src : Source) (off : ℤ)
    (state : AbstractState)
    → After x slot k (Branch w c dst src off) state → IsLasting x
lasting_after (AtRegister (Pointer kind o) r) slot k w c dst src off state (inl (same, m, kind_is, o_is, answer, on_side)) =
    subst (λ (b : ValueKind). IsCertain b) (sym kind_is) tt
lasting_after (AtRegister (Pointer kind o) r) slot k w c dst src off state (inr (_, certain, before)) = certain
lasting_after (AtRegister (Exact n) r) slot k w c dst src off state after = tt
lasting_after (AtRegister Scalar r) slot k w c dst src off state after = tt
lasting_after (AtRegister NoPointer r) slot k w c dst src off state after = tt
lasting_after Never slot k w c dst src off state after = tt
lasting_after (IsSetAt i) slot k w c dst src off state after = tt
lasting_after (IsPlainAt j) slot k w c dst src off state after = tt

-- an instruction that is no EXIT, no jump and no branch is transferred
pub transferred_if_no_jump : (insn : Insn) → (insn ≡ Exit → ⊥)
    → ((off : ℤ) → insn ≡ Goto off → ⊥) → ((imm : ℤ) → insn ≡ Goto32 imm → ⊥)
    → ((w : Width) (c : Condition) (d : ℕ) (s : Source) (off : ℤ) → insn ≡ Branch w c d s off → ⊥)
    → IsTransferred insn
transferred_if_no_jump (Goto off) e g h b = g off refl
transferred_if_no_jump (Goto32 imm) e g h b = h imm refl
transferred_if_no_jump (Branch w c d s off) e g h b = b w c d s off refl
transferred_if_no_jump Exit e g h b = e refl
transferred_if_no_jump _ e g h b = tt

-- where the test jumps to the side on which the operands differ, they differ when it is true
pub differ_if_jumps : (c : Condition) (off : ℤ) (slot k : ℕ) → LeadsTo slot off k → IsFoundSide c off slot k → is_found c true ≡ true
differ_if_jumps Equal off slot k leads side = absurd (side.1 leads)
differ_if_jumps NotEqual off slot k leads side = refl
differ_if_jumps _ off slot k leads side = absurd side

-- where control goes on to the side on which the operands differ, they differ when the test is false
pub differ_if_goes_on : (c : Condition) (off : ℤ) (slot k : ℕ) → k ≡ slot + 1 → IsFoundSide c off slot k → is_found c false ≡ true
differ_if_goes_on Equal off slot k next side = refl
differ_if_goes_on NotEqual off slot k next side = absurd (side.1 next)
differ_if_goes_on _ off slot k next side = absurd side
