-- What is sure of an abstract state goes on: which facts are sure after an instruction of each kind.
use Rattle.std.proofs.Common.{◌≡◌, ◌≢◌, ℕ, ◌+◌, ◌<◌, ◌≤◌, Bool, true, false, List, Option, Some, None, length, refl, sym, subst, ap, ◌⊎◌, inl, inr, ◌∙◌, ℤ, pos, arith, get_or-set_same, get_or-set_other}
use Rattle.std.specs.Prelude.{slice_index_or, ◌+ℤ◌, IsOk, OnOk, Ok, Err}
use Rattle.std.specs.declared.result.Result.{Result}
use Rattle.std.proofs.lemmas.Bool.Decides.{eqb_tells}
use Rattle.bq_insn.specs.declared.Insn.{Insn}
use Rattle.bq_insn.specs.declared.Insn.TheVariants.{Alu, MovSx, Neg, End, Load, StoreImm, StoreReg, Imm64, MapRef, Call}
use Rattle.bq_insn.specs.declared.Operation.{Operation}
use Rattle.bq_insn.specs.declared.Operation.TheVariants.{Add, Mov}
use Rattle.bq_insn.specs.declared.Width.{Width}
use Rattle.bq_insn.specs.declared.Width.TheVariants.{W64}
use Rattle.bq_bpf.specs.Meaning.{word_of}
use Rattle.bq_insn.specs.declared.Source.{Source}
use Rattle.bq_insn.specs.declared.Source.TheVariants.{Imm, Reg}
use Rattle.bq_bpf.specs.Instructions.{destination_of}
use Rattle.bq_states.specs.declared.abstract_state.ValueKind.{ValueKind}
use Rattle.bq_states.specs.declared.abstract_state.ValueKind.TheVariants.{Number, Stack, Entry, EntryOrNull, Map}
use Rattle.bq_states.specs.declared.abstract_state.AbstractValue.{AbstractValue}
use Rattle.bq_states.specs.declared.abstract_state.AbstractState.{AbstractState}
use Rattle.bq_states.specs.declared.relations.Related.{Related}
use Rattle.bq_ranges.specs.declared.range.Range.{Range}
use Rattle.bq_states.specs.AbstractStates.{Clears, knowing}
use Rattle.bq_states.specs.Certainty.{Certainty, Scalar, Exact, Pointer, NoPointer, CertaintyHolds, CertaintyHoldsAt, Fact, Never, AtRegister, IsSetAt, IsPlainAt, Has, Outlasts, IsMade, IsGiven, IsCalled, IsAnswered, IsStoredAt, IsScalarOperand}
use Rattle.bq_transfer.specs.Ready.{IsAtMost, IsLeftReady}
use Rattle.bq_transfer.specs.After.{GivesExact, GivesNumber, LeavesNumber, GivesPointer, LeavesPointer, Spares, StoresByte, After}
use Rattle.bq_insn.proofs.OptionLemmas.{some_none}

-- no word is sure to be both a number and a pointer
pub not_both : (k : Option AbstractValue) (kind : ValueKind) (o : ℕ) → CertaintyHolds Scalar k → CertaintyHolds (Pointer kind o) k → ⊥
not_both None kind o p q = p
not_both (Some k) kind o p q = q.1 (sym q.0 ∙ p)

-- if a word is sure to be two pointers, their kinds and their offsets are equal
pub pointer_is : (k : Option AbstractValue) (kind : ValueKind) (o : ℕ) (kind' : ValueKind) (o' : ℕ)
    → CertaintyHolds (Pointer kind o) k → CertaintyHolds (Pointer kind' o') k → (kind ≡ kind') × (o ≡ o')
pointer_is None kind o kind' o' p q = absurd p
pointer_is (Some k) kind o kind' o' p q = (sym p.0 ∙ q.0, sym p.2 ∙ q.2)

-- if a word is sure to be two pointers, what is sure to be the one is sure to be the other
same_pointer : (k : Option AbstractValue) (kind : ValueKind) (o : ℕ) (kind' : ValueKind) (o' : ℕ) (v : Option AbstractValue)
    → CertaintyHolds (Pointer kind o) k → CertaintyHolds (Pointer kind' o') k → CertaintyHolds (Pointer kind' o') v
    → CertaintyHolds (Pointer kind o) v
same_pointer k kind o kind' o' v p q stands = let e = pointer_is k kind o kind' o' p q in rw (e.0, e.1) stands

-- of a number in a register, a certainty that outlasts its replacement says only that it is a number or no pointer
apart : (k : Option AbstractValue) (s : Certainty) (r : ℕ) → Outlasts (AtRegister s r) r → CertaintyHolds Scalar k
    → CertaintyHolds s k
    → (s ≡ Scalar) ⊎ (s ≡ NoPointer)
apart None s r lasts p q = absurd p
apart (Some k) Scalar r lasts p q = inl refl
apart (Some k) (Exact n) r lasts p q = absurd (lasts refl)
apart (Some k) (Pointer kind o) r lasts p q = absurd (q.1 (sym q.0 ∙ p))
apart (Some k) NoPointer r lasts p q = inr refl

-- a word that is a number has each certainty that says it is a number or no pointer
scalar_is : (k : Option AbstractValue) (s : Certainty) → CertaintyHolds Scalar k → (s ≡ Scalar) ⊎ (s ≡ NoPointer) → CertaintyHolds s k
scalar_is None s p either = absurd p
scalar_is (Some k) Scalar p either = p
scalar_is (Some k) NoPointer p either = p
scalar_is (Some k) (Exact n) p (inl e) = absurd (let no : ⊥ = cc in no)
scalar_is (Some k) (Exact n) p (inr e) = absurd (let no : ⊥ = cc in no)
scalar_is (Some k) (Pointer kind o) p (inl e) = absurd (let no : ⊥ = cc in no)
scalar_is (Some k) (Pointer kind o) p (inr e) = absurd (let no : ⊥ = cc in no)

-- a certainty of register r outlasts a number put in place of a number in register dst, by whether r is dst
given_by : (s : Certainty) (old new : AbstractState) (dst r : ℕ) (t : Bool)
    → Outlasts (AtRegister s r) dst → CertaintyHoldsAt Scalar old dst → IsGiven old new dst → CertaintyHoldsAt s old r
    → ((t ≡ true) × (r ≡ dst)) ⊎ ((t ≡ false) × (r ≢ dst))
    → CertaintyHoldsAt s new r
given_by s old new dst r t lasts scalar given stands (inr (_, other)) =
    subst (λ (v : Option AbstractValue). CertaintyHolds s v) (sym (given.kept r other)) stands
given_by s old new dst r t lasts scalar given stands (inl (_, same)) =
    let here_lasts : Outlasts (AtRegister s dst) dst = subst (λ (n : ℕ). Outlasts (AtRegister s n) dst) same lasts in
    let here : CertaintyHoldsAt s old dst = subst (λ (n : ℕ). CertaintyHoldsAt s old n) same stands in
    subst (λ (n : ℕ). CertaintyHoldsAt s new n) (sym same) (scalar_is _ s given.given (apart _ s dst here_lasts scalar here))

-- a fact that outlasts the replacement of a number in a register is still true after it
pub given_has : (x : Fact) (old new : AbstractState) (dst : ℕ)
    → Outlasts x dst → CertaintyHoldsAt Scalar old dst → IsGiven old new dst → Has x old → Has x new
given_has Never old new dst lasts scalar given has = has
given_has (AtRegister s r) old new dst lasts scalar given has = given_by s old new dst r _ lasts scalar given has (eqb_tells r dst)
given_has (IsSetAt i) old new dst lasts scalar given has =
    subst (λ (l : List Bool). slice_index_or l i false ≡ true) (sym given.set_same) has
given_has (IsPlainAt j) old new dst lasts scalar given has =
    subst (λ (l : List (Option AbstractValue)). CertaintyHolds NoPointer (slice_index_or l j None)) (sym given.kept_same) has

-- an instruction with a destination makes only this register a number, leaves what it spares and stores no byte, by cases:
writes_one : (insn : Insn) (dst r : ℕ) → destination_of insn ≡ Some dst → GivesNumber insn r → r ≡ dst
writes_one (Call helper) dst r writes gives = absurd (some_none _ _ writes refl)
writes_one (Alu w Mov d (Imm i)) dst r writes gives = let e : Some r ≡ Some dst = ap (λ (n : ℕ). Some n) (sym gives) ∙ writes in cc
writes_one (Alu w Mov d (Reg src)) dst r writes gives = let e : Some r ≡ Some dst = ap (λ (n : ℕ). Some n) (sym gives.0) ∙ writes in cc
writes_one (Alu w op d src) dst r writes gives = absurd gives
writes_one (MovSx w bits d src) dst r writes gives = let e : Some r ≡ Some dst = sym gives ∙ writes in cc
writes_one (Neg w d) dst r writes gives = let e : Some r ≡ Some dst = sym gives ∙ writes in cc
writes_one (End order bits d) dst r writes gives = let e : Some r ≡ Some dst = sym gives ∙ writes in cc
writes_one (Load size signed d src off) dst r writes gives = let e : Some r ≡ Some dst = sym gives ∙ writes in cc
writes_one (Imm64 d value) dst r writes gives = let e : Some r ≡ Some dst = sym gives ∙ writes in cc
writes_one (MapRef d index) dst r writes gives = absurd gives
writes_one _ dst r writes gives = absurd (some_none _ _ writes refl)

spares_other : (insn : Insn) (dst r : ℕ) → destination_of insn ≡ Some dst → Spares insn r → r ≢ dst
spares_other (Call helper) dst r writes spares e = absurd (some_none _ _ writes refl)
spares_other _ dst r writes spares e = spares (writes ∙ ap (λ (n : ℕ). Some n) (sym e))

stores_none : (insn : Insn) (dst i : ℕ) → destination_of insn ≡ Some dst → StoresByte insn i → ⊥
stores_none (StoreImm size d off imm) dst i writes stores = absurd (some_none _ _ writes refl)
stores_none (StoreReg size d off src) dst i writes stores = absurd (some_none _ _ writes refl)
stores_none _ dst i writes stores = stores

-- a fact sure after an instruction holds, if the stack does not change and the facts of registers hold
stack_same : (x : Fact) (slot k : ℕ) (insn : Insn) (old new : AbstractState)
    → ((i : ℕ) → StoresByte insn i → ⊥) → new.set ≡ old.set → new.kept ≡ old.kept
    → ((r : ℕ) → After (AtRegister Scalar r) slot k insn old → CertaintyHoldsAt Scalar new r)
    → ((n r : ℕ) → After (AtRegister (Exact n) r) slot k insn old → CertaintyHoldsAt (Exact n) new r)
    → ((kind : ValueKind) (o r : ℕ) → After (AtRegister (Pointer kind o) r) slot k insn old → CertaintyHoldsAt (Pointer kind o) new r)
    → After x slot k insn old
    → Has x new
stack_same Never slot k insn old new none set kept scalars exacts pointers after = absurd after
stack_same (AtRegister Scalar r) slot k insn old new none set kept scalars exacts pointers after = scalars r after
stack_same (AtRegister (Exact n) r) slot k insn old new none set kept scalars exacts pointers after = exacts n r after
stack_same (AtRegister (Pointer kind o) r) slot k insn old new none set kept scalars exacts pointers after = pointers kind o r after
stack_same (AtRegister NoPointer r) slot k insn old new none set kept scalars exacts pointers after = absurd after
stack_same (IsSetAt i) slot k insn old new none set kept scalars exacts pointers (inl stores) = absurd (none i stores)
stack_same (IsSetAt i) slot k insn old new none set kept scalars exacts pointers (inr has) =
    subst (λ (l : List Bool). slice_index_or l i false ≡ true) (sym set) has
stack_same (IsPlainAt j) slot k insn old new none set kept scalars exacts pointers after =
    subst (λ (l : List (Option AbstractValue)). CertaintyHolds NoPointer (slice_index_or l j None)) (sym kept) after

-- after register dst got a certainty, another register keeps its own, and dst has the new one:
kept_at : (s t : Certainty) (old new : AbstractState) (dst r : ℕ)
    → IsMade t old new dst → r ≢ dst → CertaintyHoldsAt s old r → CertaintyHoldsAt s new r
kept_at s t old new dst r made other stands = subst (λ (v : Option AbstractValue). CertaintyHolds s v) (sym (made.kept r other)) stands

here_at : (s : Certainty) (new : AbstractState) (dst r : ℕ) → r ≡ dst → CertaintyHoldsAt s new dst → CertaintyHoldsAt s new r
here_at s new dst r same stands = subst (λ (n : ℕ). CertaintyHoldsAt s new n) (sym same) stands

-- each fact that is sure after an instruction that gives a register a number holds for the new abstract state
pub has_given : (x : Fact) (slot k : ℕ) (insn : Insn) (old new : AbstractState) (dst : ℕ)
    → destination_of insn ≡ Some dst → ((kind : ValueKind) (o r : ℕ) → GivesPointer kind o slot k insn r old → ⊥)
    → ((n r : ℕ) → GivesExact n insn r → CertaintyHoldsAt (Exact n) new r) → IsGiven old new dst → After x slot k insn old
    → Has x new
has_given x slot k insn old new dst writes none number given after =
    stack_same x slot k insn old new (λ i stores. stores_none insn dst i writes stores) given.set_same
    given.kept_same scalars exacts pointers after
  where
    scalar_at : (r : ℕ) (t : Bool) → ((t ≡ true) × (r ≡ dst)) ⊎ ((t ≡ false) × (r ≢ dst))
        → GivesNumber insn r ⊎ (LeavesNumber insn r × CertaintyHoldsAt Scalar old r)
        → CertaintyHoldsAt Scalar new r
    scalar_at r t (inl (_, same)) either = here_at Scalar new dst r same given.given
    scalar_at r t (inr (_, other)) (inl gives) = absurd (other (writes_one insn dst r writes gives))
    scalar_at r t (inr (_, other)) (inr (_, stands)) = kept_at Scalar Scalar old new dst r given other stands

    scalars : (r : ℕ) → GivesNumber insn r ⊎ (LeavesNumber insn r × CertaintyHoldsAt Scalar old r) → CertaintyHoldsAt Scalar new r
    scalars r either = scalar_at r _ (eqb_tells r dst) either

    exacts : (n r : ℕ) → After (AtRegister (Exact n) r) slot k insn old → CertaintyHoldsAt (Exact n) new r
    exacts n r (inl gives) = number n r gives
    exacts n r (inr (spares, _, stands)) = kept_at (Exact n) Scalar old new dst r given (spares_other insn dst r writes spares) stands

    pointers : (kind : ValueKind) (o r : ℕ)
        → GivesPointer kind o slot k insn r old ⊎ (Spares insn r × LeavesPointer kind insn × CertaintyHoldsAt (Pointer kind o) old r)
        → CertaintyHoldsAt (Pointer kind o) new r
    pointers kind o r (inl gives) = absurd (none kind o r gives)
    pointers kind o r (inr (spares, _, stands)) =
        kept_at (Pointer kind o) Scalar old new dst r given (spares_other insn dst r writes spares) stands

-- arithmetic on numbers gives no pointer
pub no_pointer : (kind : ValueKind) (o slot k : ℕ) (w : Width) (op : Operation) (dst : ℕ) (src : Source) (r : ℕ)
    (state : AbstractState)
    → IsLeftReady op state dst → IsScalarOperand state src → GivesPointer kind o slot k (Alu w op dst src) r state
    → ⊥
no_pointer kind o slot k w Mov dst (Reg src) r state left right (same, ten, stands) =
    not_both _ kind o (subst (λ (n : ℕ). CertaintyHoldsAt Scalar state n) ten right) stands
no_pointer kind o slot k w Add dst (Imm i) r state left right (same, base, stands, at) = not_both _ kind base left stands
no_pointer kind o slot k w op dst src r state left right gives = gives

-- each fact that is sure after a copy of register 10 holds for the new abstract state
pub has_copied : (x : Fact) (slot k : ℕ) (w : Width) (dst base : ℕ) (old new : AbstractState)
    → CertaintyHoldsAt (Pointer Stack base) old 10 → IsMade (Pointer Stack base) old new dst
    → After x slot k (Alu w Mov dst (Reg 10)) old
    → Has x new
has_copied x slot k w dst base old new frame made after =
    stack_same x slot k (Alu w Mov dst (Reg 10)) old new (λ i stores. stores) made.set_same made.kept_same
    (λ r either. elim either [
      | inl gives ↦ absurd (gives.1 refl)
      | inr kept ↦ kept_at Scalar (Pointer Stack base) old new dst r made (λ e. kept.0 (sym e)) kept.1
    ])
    (λ n r either. elim either [
      | inl gives ↦ absurd gives
      | inr kept ↦ kept_at (Exact n) (Pointer Stack base) old new dst r made (λ e. kept.0 (ap (λ (n : ℕ). Some n) (sym e))) kept.2
    ])
    (λ kind o r either. elim either [
      | inl gives ↦ here_at (Pointer kind o) new dst r (sym gives.0) (same_pointer _ kind o Stack base _ gives.2 frame made.given)
      | inr kept ↦ kept_at (Pointer kind o) (Pointer Stack base) old new dst r made (λ e. kept.0 (ap (λ (n : ℕ). Some n) (sym e))) kept.2
    ])
    after

-- each fact that is sure after a number is added to a pointer into the stack holds for the new abstract state
pub has_moved : (x : Fact) (slot k : ℕ) (w : Width) (dst base at : ℕ) (i : ℤ) (old new : AbstractState)
    → CertaintyHoldsAt (Pointer Stack base) old dst → pos at ≡ (pos base +ℤ i) → IsMade (Pointer Stack at) old new dst
    → After x slot k (Alu w Add dst (Imm i)) old
    → Has x new
has_moved x slot k w dst base at i old new stands at_is made after =
    stack_same x slot k (Alu w Add dst (Imm i)) old new (λ n stores. stores) made.set_same made.kept_same scalars
    exacts pointers after
  where
    scalar_at : (r : ℕ) (t : Bool) → ((t ≡ true) × (r ≡ dst)) ⊎ ((t ≡ false) × (r ≢ dst)) → CertaintyHoldsAt Scalar old r
        → CertaintyHoldsAt Scalar new r
    scalar_at r t (inl (_, same)) scalar =
        absurd (not_both _ Stack base (subst (λ (n : ℕ). CertaintyHoldsAt Scalar old n) same scalar) stands)
    scalar_at r t (inr (_, other)) scalar = kept_at Scalar (Pointer Stack at) old new dst r made other scalar

    scalars : (r : ℕ) → ⊥ ⊎ (Unit {0} × CertaintyHoldsAt Scalar old r) → CertaintyHoldsAt Scalar new r
    scalars r (inl gives) = absurd gives
    scalars r (inr (_, scalar)) = scalar_at r _ (eqb_tells r dst) scalar

    exacts : (n r : ℕ) → After (AtRegister (Exact n) r) slot k (Alu w Add dst (Imm i)) old → CertaintyHoldsAt (Exact n) new r
    exacts n r (inl gives) = absurd gives
    exacts n r (inr (spares, _, before)) =
        kept_at (Exact n) (Pointer Stack at) old new dst r made (λ e. spares (ap (λ (n : ℕ). Some n) (sym e))) before

    pointers : (kind : ValueKind) (o r : ℕ)
        → GivesPointer kind o slot k (Alu w Add dst (Imm i)) r old
        ⊎ (Spares (Alu w Add dst (Imm i)) r × LeavesPointer kind (Alu w Add dst (Imm i)) × CertaintyHoldsAt (Pointer kind o) old r)
        → CertaintyHoldsAt (Pointer kind o) new r
    pointers kind o r (inl (same, from, before, o_is)) =
        let kinds = pointer_is _ kind from Stack base before stands in
        let sum : pos o ≡ pos at = o_is ∙ ap (λ (n : ℕ). pos n +ℤ i) kinds.1 ∙ sym at_is in
        let one : o ≡ at = cc in
        here_at (Pointer kind o) new dst r (sym same) (rw (kinds.0, one) made.given)
    pointers kind o r (inr (spares, _, before)) =
        kept_at (Pointer kind o) (Pointer Stack at) old new dst r made (λ e. spares (ap (λ (n : ℕ). Some n) (sym e))) before

-- each fact that is sure after a map reference holds for the new abstract state
pub has_named : (x : Fact) (slot k dst : ℕ) (index : ℤ) (m : ℕ) (old new : AbstractState)
    → index ≡ pos m → IsMade (Pointer (Map m) 0) old new dst → After x slot k (MapRef dst index) old
    → Has x new
has_named x slot k dst index m old new is made after =
    stack_same x slot k (MapRef dst index) old new (λ i stores. stores) made.set_same made.kept_same
    (λ r either. elim either [
      | inl gives ↦ absurd gives
      | inr kept ↦ kept_at Scalar (Pointer (Map m) 0) old new dst r made (λ e. kept.0 (ap (λ (n : ℕ). Some n) (sym e))) kept.1
    ])
    (λ n r either. elim either [
      | inl gives ↦ absurd gives
      | inr kept ↦ kept_at (Exact n) (Pointer (Map m) 0) old new dst r made (λ e. kept.0 (ap (λ (n : ℕ). Some n) (sym e))) kept.2
    ])
    (λ kind o r either. elim either [
      | inl gives ↦
          let same : pos gives.1 ≡ pos m = sym gives.2 ∙ is in
          let one : gives.1 ≡ m = cc in
          here_at (Pointer kind o) new dst r (sym gives.0) (rw (gives.3, gives.4, one) made.given)
      | inr kept ↦ kept_at (Pointer kind o) (Pointer (Map m) 0) old new dst r made (λ e. kept.0 (ap (λ (n : ℕ). Some n) (sym e))) kept.2
    ])
    after

-- a register from 6 on keeps its certainty in a call
called_at : (s t : Certainty) (old new : AbstractState) (r : ℕ)
    → IsCalled t old new → 6 ≤ r → CertaintyHoldsAt s old r → CertaintyHoldsAt s new r
called_at s t old new r called above stands = subst (λ (v : Option AbstractValue). CertaintyHolds s v) (sym (called.kept r above)) stands

-- each fact that is sure after a call that answers a number holds for the new abstract state
pub has_answered : (x : Fact) (slot k : ℕ) (helper : ℤ) (old new : AbstractState)
    → helper ≢ pos 1 → IsAnswered old new → After x slot k (Call helper) old → Has x new
has_answered x slot k helper old new other answered after =
    stack_same x slot k (Call helper) old new (λ i stores. stores) answered.set_same answered.kept_same
    (λ r either. elim either [
      | inl gives ↦ here_at Scalar new 0 r gives.0 answered.given
      | inr kept ↦ called_at Scalar Scalar old new r answered kept.0 kept.1
    ])
    (λ n r either. elim either [
      | inl gives ↦ absurd gives
      | inr kept ↦ called_at (Exact n) Scalar old new r answered kept.0 kept.2
    ])
    (λ kind o r either. elim either [
      | inl gives ↦ absurd (other gives.1)
      | inr kept ↦ called_at (Pointer kind o) Scalar old new r answered kept.0 kept.2
    ])
    after

-- each fact that is sure after a look-up holds for the new abstract state
pub has_looked_up : (x : Fact) (slot k m : ℕ) (old new : AbstractState)
    → CertaintyHoldsAt (Pointer (Map m) 0) old 1 → IsCalled (Pointer (EntryOrNull m) 0) old new
    → After x slot k (Call (pos 1)) old
    → Has x new
has_looked_up x slot k m old new names called after =
    stack_same x slot k (Call (pos 1)) old new (λ i stores. stores) called.set_same called.kept_same
    (λ r either. elim either [
      | inl gives ↦ absurd (gives.1 refl)
      | inr kept ↦ called_at Scalar (Pointer (EntryOrNull m) 0) old new r called kept.0 kept.1
    ])
    (λ n r either. elim either [
      | inl gives ↦ absurd gives
      | inr kept ↦ called_at (Exact n) (Pointer (EntryOrNull m) 0) old new r called kept.0 kept.2
    ])
    (λ kind o r either. elim either [
      | inl gives ↦
          let kinds = pointer_is _ (Map gives.2) 0 (Map m) 0 gives.5 names in
          let one : gives.2 ≡ m = let e : Map gives.2 ≡ Map m = kinds.0 in cc in
          here_at (Pointer kind o) new 0 r gives.0 (rw (gives.3, gives.4, one) called.given)
      | inr kept ↦ called_at (Pointer kind o) (Pointer (EntryOrNull m) 0) old new r called kept.0 kept.2
    ])
    after

-- each fact that is sure after a store on the stack holds for the new abstract state
pub has_stored : (x : Fact) (slot k : ℕ) (insn : Insn) (old new : AbstractState) (from to : ℕ)
    → ((r : ℕ) → GivesNumber insn r → ⊥) → ((n r : ℕ) → GivesExact n insn r → ⊥)
    → ((kind : ValueKind) (o r : ℕ) → GivesPointer kind o slot k insn r old → ⊥)
    → ((i : ℕ) → StoresByte insn i → (from ≤ i) × (i < to)) → IsStoredAt old new from to → After x slot k insn old
    → Has x new
has_stored Never slot k insn old new from to none inexact nowhere bytes stored after = absurd after
has_stored (AtRegister Scalar r) slot k insn old new from to none inexact nowhere bytes stored (inl gives) = absurd (none r gives)
has_stored (AtRegister Scalar r) slot k insn old new from to none inexact nowhere bytes stored (inr (_, stands)) =
    subst (λ (l : List (Option AbstractValue)). CertaintyHolds Scalar (slice_index_or l r None))
    (sym stored.registers_same) stands
has_stored (AtRegister (Exact n) r) slot k insn old new from to none inexact nowhere bytes stored (inl gives) = absurd (inexact n r gives)
has_stored (AtRegister (Exact n) r) slot k insn old new from to none inexact nowhere bytes stored (inr (_, _, stands)) =
    subst (λ (l : List (Option AbstractValue)). CertaintyHolds (Exact n) (slice_index_or l r None)) (sym stored.registers_same) stands
has_stored (AtRegister (Pointer kind o) r) slot k insn old new from to none inexact nowhere bytes stored (inl gives) =
    absurd (nowhere kind o r gives)
has_stored (AtRegister (Pointer kind o) r) slot k insn old new from to none inexact nowhere bytes stored
    (inr (_, _, stands)) =
    subst (λ (l : List (Option AbstractValue)). CertaintyHolds (Pointer kind o) (slice_index_or l r None))
    (sym stored.registers_same) stands
has_stored (AtRegister NoPointer r) slot k insn old new from to none inexact nowhere bytes stored after = absurd after
has_stored (IsSetAt i) slot k insn old new from to none inexact nowhere bytes stored (inl stores) =
    stored.stored i (bytes i stores).0 (bytes i stores).1
has_stored (IsSetAt i) slot k insn old new from to none inexact nowhere bytes stored (inr has) = stored.set i has
has_stored (IsPlainAt j) slot k insn old new from to none inexact nowhere bytes stored after = stored.plain j after

-- each fact that is sure after an instruction that gives no register anything and stores no byte holds as before it
pub has_left : (x : Fact) (slot k : ℕ) (insn : Insn) (state : AbstractState)
    → ((r : ℕ) → GivesNumber insn r → ⊥) → ((n r : ℕ) → GivesExact n insn r → ⊥)
    → ((kind : ValueKind) (o r : ℕ) → GivesPointer kind o slot k insn r state → ⊥) → ((i : ℕ) → StoresByte insn i → ⊥)
    → After x slot k insn state
    → Has x state
has_left Never slot k insn state none inexact nowhere bytes after = after
has_left (AtRegister Scalar r) slot k insn state none inexact nowhere bytes (inl gives) = absurd (none r gives)
has_left (AtRegister Scalar r) slot k insn state none inexact nowhere bytes (inr (_, stands)) = stands
has_left (AtRegister (Exact n) r) slot k insn state none inexact nowhere bytes (inl gives) = absurd (inexact n r gives)
has_left (AtRegister (Exact n) r) slot k insn state none inexact nowhere bytes (inr (_, _, stands)) = stands
has_left (AtRegister (Pointer kind o) r) slot k insn state none inexact nowhere bytes (inl gives) = absurd (nowhere kind o r gives)
has_left (AtRegister (Pointer kind o) r) slot k insn state none inexact nowhere bytes (inr (_, _, stands)) = stands
has_left (AtRegister NoPointer r) slot k insn state none inexact nowhere bytes after = absurd after
has_left (IsSetAt i) slot k insn state none inexact nowhere bytes (inl stores) = absurd (bytes i stores)
has_left (IsSetAt i) slot k insn state none inexact nowhere bytes (inr has) = has
has_left (IsPlainAt j) slot k insn state none inexact nowhere bytes after = after

-- bytes of a store lie where it is placed
pub bytes_at : (a b count i : ℕ) (off : ℤ) → pos a ≡ (pos 512 +ℤ off) → pos b ≡ (pos 512 +ℤ off) → a ≤ i → i < a + count
    → (b ≤ i) × (i < b + count)
bytes_at a b count i off p q le lt = let same : pos a ≡ pos b = p ∙ sym q in let e : a ≡ b = cc in (omega arith, omega arith)

-- an abstract state that learns a word in one register is sure of it there, and all else is as before
pub knowing_made : (s : Certainty) (state : AbstractState) (dst : ℕ) (k : AbstractValue)
    → dst < length state.registers → CertaintyHolds s (Some k) → IsMade s state (knowing state dst k) dst
knowing_made s state dst k there stands = record {
  given = subst (λ (v : Option AbstractValue). CertaintyHolds s v) (sym (get_or-set_same state.registers dst (Some k) None there)) stands;
  kept = λ r other. get_or-set_other state.registers dst r (Some k) None other;
  set_same = refl;
  kept_same = refl;
}

-- other classes and relations of an abstract state do not change what was made sure of a register
pub made_classes : (s : Certainty) (old new : AbstractState) (dst : ℕ) (classes : List ℕ) (related : List (Option Related))
    → IsMade s old new dst → IsMade s old (record new { classes = classes; related = related }) dst
made_classes s old new dst classes related made =
    record { given = made.given; kept = made.kept; set_same = made.set_same; kept_same = made.kept_same }

-- an abstract state that learns a number in a register has a number there, and all else as before
pub knowing_given : (state : AbstractState) (dst : ℕ) (k : AbstractValue)
    → dst < length state.registers → k.kind ≡ Number → IsGiven state (knowing state dst k) dst
knowing_given state dst k there number = knowing_made Scalar state dst k there number

-- registers 1 to 5 are forgotten, and register 0 is learnt again
pub called_by : (s : Certainty) (state : AbstractState) (registers : List (Option AbstractValue))
    (classes : List ℕ) (k : AbstractValue)
    → 0 < length registers → Clears state.registers registers → CertaintyHolds s (Some k)
    → IsCalled s state (knowing (record state { registers = registers; classes = classes }) 0 k)
called_by s state registers classes k there clears stands = record {
  given = subst (λ (v : Option AbstractValue). CertaintyHolds s v) (sym (get_or-set_same registers 0 (Some k) None there)) stands;
  kept = λ r above. get_or-set_other registers 0 r (Some k) None (λ e. absurd (omega arith)) ∙ clears.others r above;
  set_same = refl;
  kept_same = refl;
}

-- a word known as the address of an entry is sure to be the pointer to its start
pub entry_stands : (map : ℕ) (range : Range) → range.lo ≡ 0 → range.hi ≡ 0
    → CertaintyHolds (Pointer (Entry map) 0) (Some (record { kind = Entry map; offset = range }))
entry_stands map range lo hi = (refl, λ e. let refuted : ⊥ = cc in refuted, lo, hi)

-- a word known as a look-up's answer is sure to be the answer of the map of that number
pub answer_stands : (map m : ℕ) (range : Range) → map ≡ m → range.lo ≡ 0 → range.hi ≡ 0
    → CertaintyHolds (Pointer (EntryOrNull m) 0) (Some (record { kind = EntryOrNull map; offset = range }))
answer_stands map m range same lo hi = (ap (λ (n : ℕ). EntryOrNull n) same, λ e. let refuted : ⊥ = cc in refuted, lo, hi)

-- the first operand that is ready is a number, unless the operation is a MOV
pub left_scalar : (op : Operation) (state : AbstractState) (dst : ℕ)
    → (op ≡ Mov → ⊥) → IsLeftReady op state dst → CertaintyHoldsAt Scalar state dst
left_scalar Mov state dst other ready = absurd (other refl)
left_scalar _ state dst other ready = ready

-- a number that an instruction gives is its immediate
pub exact_of : (n : ℕ) (w : Width) (dst : ℕ) (src : Source) (r : ℕ)
    → GivesExact n (Alu w Mov dst src) r → (i : ℤ) × (src ≡ Imm i) × (w ≡ W64) × (dst ≡ r) × (n ≡ word_of i)
exact_of n w dst (Imm i) r gives = (i, refl, gives.0, gives.1, gives.2)
exact_of n w dst (Reg src) r gives = absurd gives

-- an operation other than MOV gives no exact number
pub exact_moves : (n : ℕ) (w : Width) (op : Operation) (dst : ℕ) (src : Source) (r : ℕ)
    → (op ≡ Mov → ⊥) → GivesExact n (Alu w op dst src) r → ⊥
exact_moves n w Mov dst src r other gives = other refl
exact_moves n w _ dst src r other gives = gives

-- a register that a MOV of an immediate makes an exact number is sure to be that number
pub has_exact : (n : ℕ) (w : Width) (dst : ℕ) (src : Source) (r : ℕ) (old new : AbstractState)
    → ((i : ℤ) → src ≡ Imm i → w ≡ W64 → IsMade (Exact (word_of i)) old new dst) → GivesExact n (Alu w Mov dst src) r
    → CertaintyHoldsAt (Exact n) new r
has_exact n w dst src r old new made gives =
    let e = exact_of n w dst src r gives in
    let at : CertaintyHoldsAt (Exact (word_of e.0)) new r = here_at (Exact (word_of e.0)) new dst r (sym e.3) (made e.0 e.1 e.2).given in
    subst (λ (x : ℕ). CertaintyHoldsAt (Exact x) new r) (sym e.4) at

-- a word that is sure to be an exact number is at most each bound of that number
pub exact_at_most : (n most : ℕ) (k : Option AbstractValue) → n ≤ most → CertaintyHolds (Exact n) k → IsAtMost most k
exact_at_most n most None le stands = absurd stands
exact_at_most n most (Some k) le stands = (stands.0, let hi = stands.2 in omega (arith, hi, le))

-- what holds of a success holds, where it is one
pub on_ok_at : {T E P : Type 0} (r : Result T E) → IsOk r → OnOk r P → P
on_ok_at (Ok x) ok p = p
on_ok_at (Err y) ok p = absurd (let no : ⊥ = cc in no)
