-- Numbers of slots, and that an instruction lies within its program.
use Rattle.std.proofs.Common.{◌≡◌, ◌⊎◌, inl, inr, ℕ, zero, suc, ◌+◌, ◌*◌, ◌<◌, ◌≤◌, Bool, true, false, List, length, Option, Some, refl, arith}
use Rattle.std.proofs.lemmas.Nat.{mul-le}
use Rattle.bq_insn.specs.declared.Insn.{Insn}
use Rattle.bq_insn.specs.declared.Insn.TheVariants.{Imm64, MapRef}
use Rattle.bq_insn.specs.Slots.{slots_of}
use Rattle.bq_bpf.specs.Steps.{instruction_at}
use Rattle.bq_bpf.specs.Instructions.{goes_on}
use Rattle.bq_verify.proofs.EdgeLemmas.{start_inside}
use Rattle.bq_import.specs.declared.fault.Disorder.{Disorder}
use Rattle.bq_import.specs.declared.fault.Disorder.TheVariants.{Outside, Ends, Loop, Long, OutOfMemory}
use Rattle.bq_import.specs.Faults.{IsFull, IsLinked}

-- a copy of more slots may be too long as well
pub full_more : (a b : ℕ) (d : Disorder) → a ≤ b → IsFull a d → IsFull b d
full_more a b (Outside slot) le full = full
full_more a b (Ends slot) le full = full
full_more a b (Loop from to) le full = full
full_more a b Long le full = omega (arith, le, full)
full_more a b OutOfMemory le full = tt

-- of two numbers the first is at most the second, or the second is less
le_or : (a b : ℕ) → (a ≤ b) ⊎ (b < a)
le_or zero b = inl (omega arith)
le_or (suc a) zero = inr (omega arith)
le_or (suc a) (suc b) = elim (le_or a b) [ inl le ↦ inl (omega (arith, le)) | inr lt ↦ inr (omega (arith, lt)) ]

-- where a square and its side are over 4096, the side is 64 or more
pub enough : (n most : ℕ) → 4096 < most → most ≤ n * n + n → 64 ≤ n
enough n most full le =
    elim (le_or 64 n) [
      | inl many ↦ many
      | inr lt ↦ let small = mul-le n n 63 n (omega (arith, lt)) (omega arith) in absurd (omega (arith, small, full, le, lt))
    ]

-- an instruction from which control does not go on has one slot
pub one_slot : (insn : Insn) → goes_on insn ≡ false → slots_of insn ≡ 1
one_slot (Imm64 d v) e = absurd (let no : ⊥ = cc in no)
one_slot (MapRef d i) e = absurd (let no : ⊥ = cc in no)
one_slot _ e = refl

-- an instruction lies within the program
pub lies_within : (slots : List (Option Insn)) (slot : ℕ) (insn : Insn)
    → instruction_at slots slot ≡ Some insn → IsLinked slots → slot + slots_of insn ≤ length slots
lies_within slots slot insn here linked = by (goes_on insn) refl
  where
    by : (b : Bool) → goes_on insn ≡ b → slot + slots_of insn ≤ length slots
    by true e = let next = start_inside slots (slot + slots_of insn) ((linked.leads slot insn here).0 e) in omega (arith, next)
    by false e =
        let inside = start_inside slots slot (record { insn = insn; here = here }) in
        let one = one_slot insn e in omega (arith, inside, one)
