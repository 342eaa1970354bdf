-- The first fault of a program has one cause and one slot.
use Rattle.std.proofs.Common.{◌≡◌, ℕ, zero, suc, ◌<◌, ◌≤◌, List, Option, refl, sym, ap, subst, ◌∙◌, arith, ◌⊎◌, inl, inr}
use Rattle.std.proofs.lemmas.Bool.{cases_lt}
use Rattle.bq_insn.specs.declared.Insn.{Insn}
use Rattle.bq_verify.specs.declared.graph_cause.GraphCause.{GraphCause}
use Rattle.bq_verify.specs.declared.graph_cause.GraphCause.TheVariants.{Jump, NoExit, Unreached, Frame, Helper, Counters}
use Rattle.bq_verify.specs.Faults.{HasFault, IsFirstFault, check_place}
use Rattle.bq_verify.specs.Laws.{FaultlessHasNone, OneFirstFault}

-- the cause of that check
abbrev cause_at : ℕ → GraphCause
cause_at zero = Jump
cause_at (suc zero) = Jump
cause_at (suc (suc zero)) = NoExit
cause_at (suc (suc (suc zero))) = Unreached
cause_at (suc (suc (suc (suc zero)))) = Frame
cause_at (suc (suc (suc (suc (suc zero))))) = Helper
cause_at (suc (suc (suc (suc (suc (suc n)))))) = Counters

-- the cause of a fault is the one whose check has that place
at_place : (slots : List (Option Insn)) (a : GraphCause) (j : ℕ) → HasFault slots a j → cause_at (check_place a) ≡ a
at_place slots Jump j h = refl
at_place slots NoExit j h = refl
at_place slots Unreached j h = refl
at_place slots Frame j h = refl
at_place slots Helper j h = refl
at_place slots Counters j h = refl

-- no later check names a fault where an earlier one has one
not_before : (slots : List (Option Insn)) (a b : GraphCause) (j k : ℕ)
    → IsFirstFault slots a j → IsFirstFault slots b k → check_place a < check_place b → ⊥
not_before slots a b j k first second lt = second.0 a lt j first.1.0

-- two first faults of one cause are at the same slot, and any two first faults belong to the same check:
same_slot : (slots : List (Option Insn)) (a : GraphCause) (j k : ℕ)
    → IsFirstFault slots a j → IsFirstFault slots a k → (j < k) ⊎ (k ≤ j) → (k < j) ⊎ (j ≤ k) → j ≡ k
same_slot slots a j k first second (inl lt) back = absurd (second.1.1 j lt first.1.0)
same_slot slots a j k first second (inr le) (inl lt) = absurd (first.1.1 k lt second.1.0)
same_slot slots a j k first second (inr le) (inr ge) = omega arith

same_place : (slots : List (Option Insn)) (a b : GraphCause) (j k : ℕ)
    → IsFirstFault slots a j → IsFirstFault slots b k → (check_place a < check_place b) ⊎ (check_place b ≤ check_place a)
    → (check_place b < check_place a) ⊎ (check_place a ≤ check_place b)
    → check_place a ≡ check_place b
same_place slots a b j k first second (inl lt) back = absurd (not_before slots a b j k first second lt)
same_place slots a b j k first second (inr le) (inl lt) = absurd (not_before slots b a k j second first lt)
same_place slots a b j k first second (inr le) (inr ge) = omega arith

-- two faults that are each the first of a program agree in cause and slot
pub one_first_fault : OneFirstFault
one_first_fault slots a b j k first second =
    let places = same_place slots a b j k first second (cases_lt (check_place a) (check_place b)) (cases_lt (check_place b) (check_place a)) in
    let causes : a ≡ b = sym (at_place slots a j first.1.0) ∙ ap cause_at places ∙ at_place slots b k second.1.0 in (
      causes,
      same_slot slots a j k first (subst (λ (c : GraphCause). IsFirstFault slots c k) (sym causes) second)
          (cases_lt j k) (cases_lt k j),
    )

-- a program without faults has no first one
pub faultless_has_none : FaultlessHasNone
faultless_has_none slots cause slot faultless first = faultless cause slot first.1.0
