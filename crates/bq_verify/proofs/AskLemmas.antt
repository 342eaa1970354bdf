-- What a call of a counter has, where it has what it needs.
use Rattle.std.proofs.Common.{◌≡◌, ◌≢◌, ℕ, ℤ, pos, List, refl, arith, ◌⊎◌, inl, inr}
use Rattle.std.proofs.lemmas.Int.{ints}
use Rattle.bq_insn.specs.declared.Insn.{Insn}
use Rattle.bq_insn.specs.declared.Insn.TheVariants.{Call}
use Rattle.bq_bpf.specs.declared.shape.MapShape.{MapShape}
use Rattle.bq_bpf.specs.Steps.{IsCounterCall}
use Rattle.bq_transfer.specs.Ready.{IsAsking, IsReady, IsReadyToAsk}
use Rattle.bq_states.specs.declared.abstract_state.AbstractState.{AbstractState}

-- a call of a counter, ready to ask it
pub record Asked (state : AbstractState) (insn : Insn) : Type 0 where
  pub helper : ℤ
  pub is : insn ≡ Call helper
  pub needs : IsAsking state helper
  pub other : helper ≢ pos 1

-- the helpers of counters are not helper 1
other_one : (helper : ℤ) → (helper ≡ pos 100) ⊎ (helper ≡ pos 101) → helper ≢ pos 1
other_one helper (inl e) one = omega (arith, ints, e, one)
other_one helper (inr e) one = omega (arith, ints, e, one)

-- the needs of other calls are none of a counter's
other_needs : (shapes : List MapShape) (context : ℕ) (state : AbstractState) (helper : ℤ)
    → (helper ≡ pos 100) ⊎ (helper ≡ pos 101) → IsReady shapes context state (Call helper) → ⊥
other_needs shapes context state helper (inl e) (inl (inl five)) = omega (arith, ints, e, five)
other_needs shapes context state helper (inl e) (inl (inr eight)) = omega (arith, ints, e, eight)
other_needs shapes context state helper (inl e) (inr (inl n)) = let one = n.0 in omega (arith, ints, e, one)
other_needs shapes context state helper (inl e) (inr (inr n)) = let two = n.0 in omega (arith, ints, e, two)
other_needs shapes context state helper (inr e) (inl (inl five)) = omega (arith, ints, e, five)
other_needs shapes context state helper (inr e) (inl (inr eight)) = omega (arith, ints, e, eight)
other_needs shapes context state helper (inr e) (inr (inl n)) = let one = n.0 in omega (arith, ints, e, one)
other_needs shapes context state helper (inr e) (inr (inr n)) = let two = n.0 in omega (arith, ints, e, two)

-- a call of a counter that is ready has what a counter's call needs, and is no look-up
pub ready_is_asked : (shapes : List MapShape) (context : ℕ) (state : AbstractState) (insn : Insn)
    → IsCounterCall insn → IsReady shapes context state insn ⊎ IsReadyToAsk state insn → Asked state insn
ready_is_asked shapes context state (Call helper) call (inl ready) = absurd (other_needs shapes context state helper call ready)
ready_is_asked shapes context state (Call helper) call (inr ready) =
    record { helper = helper; is = refl; needs = ready.1; other = other_one helper call }
ready_is_asked shapes context state insn call ready = absurd call

-- an instruction that calls no counter and may go on is ready as all others are
pub not_asked : (shapes : List MapShape) (context : ℕ) (state : AbstractState) (insn : Insn)
    → (IsCounterCall insn → ⊥) → IsReady shapes context state insn ⊎ IsReadyToAsk state insn
    → IsReady shapes context state insn
not_asked shapes context state insn other (inl ready) = ready
not_asked shapes context state (Call helper) other (inr ready) = absurd (other ready.0)
not_asked shapes context state _ other (inr ready) = absurd ready
