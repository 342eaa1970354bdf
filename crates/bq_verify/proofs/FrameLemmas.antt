-- A well-formed program without faults writes no register from 10 on.
use Rattle.std.proofs.Common.{◌≡◌, ℕ, suc, zero, ◌-◌, ◌<◌, ◌≤◌, true, false, List, [], ◌∷◌, ◌++◌, Option, Some, None, refl, sym, subst, arith, ◌⊎◌, inl, inr, replicate}
use Rattle.std.specs.Prelude.{nat_le}
use Rattle.std.specs.List.{list_all}
use Rattle.std.proofs.lemmas.Bool.{cases_lt, and_parts}
use Rattle.std.proofs.lemmas.Bool.Decides.{nat_tests}
use Rattle.bq_insn.specs.declared.Insn.{Insn}
use Rattle.bq_insn.specs.declared.Insn.TheVariants.{Alu, MovSx, Neg, End, Load, Imm64, MapRef}
use Rattle.bq_insn.specs.declared.Bits.TheVariants.{B8, B16, B32, B64}
use Rattle.bq_insn.specs.declared.Size.TheVariants.{Byte, Half, Word, Double}
use Rattle.bq_insn.specs.declared.Width.TheVariants.{W32, W64}
use Rattle.bq_insn.specs.Slots.{slots_of, spread}
use Rattle.bq_insn.specs.Spelling.{is_insn}
use Rattle.bq_bpf.specs.Steps.{instruction_at}
use Rattle.bq_verify.specs.declared.graph_cause.GraphCause.TheVariants.{Frame}
use Rattle.bq_verify.specs.Faults.{IsFaultless}
use Rattle.bq_bpf.specs.Instructions.{destination_of}
use Rattle.bq_insn.proofs.OptionLemmas.{some_same, some_none}
use Rattle.bq_verify.proofs.SpreadLemmas.{one_or_two}
use Rattle.bq_verify.specs.Control.{SparesFrame}

-- each instruction of the slots is in range
abbrev AreInsns : List (Option Insn) → Type 0
AreInsns slots = (slot : ℕ) (insn : Insn) → instruction_at slots slot ≡ Some insn → is_insn insn ≡ true

-- instructions in range stay so with an empty slot, an instruction in range, or all of its slots before them:
behind_none : (slots : List (Option Insn)) → AreInsns slots → AreInsns (None ∷ slots)
behind_none slots rest zero insn here = absurd (some_none _ _ here refl)
behind_none slots rest (suc k) insn here = rest k insn here

behind_some : (first : Insn) (slots : List (Option Insn)) → is_insn first ≡ true → AreInsns slots → AreInsns (Some first ∷ slots)
behind_some first slots good rest zero insn here = subst (λ (i : Insn). is_insn i ≡ true) (some_same _ _ _ refl here) good
behind_some first slots good rest (suc k) insn here = rest k insn here

behind : (first : Insn) (slots : List (Option Insn)) → is_insn first ≡ true → AreInsns slots
    → (slots_of first ≡ 1) ⊎ (slots_of first ≡ 2)
    → AreInsns ((Some first ∷ replicate (slots_of first - 1) None) ++ slots)
behind first slots good rest (inl one) =
    let none : 0 ≡ slots_of first - 1 = omega (arith, one) in
    subst (λ (n : ℕ). AreInsns ((Some first ∷ replicate n None) ++ slots)) none (behind_some first slots good rest)
behind first slots good rest (inr two) =
    let single : 1 ≡ slots_of first - 1 = omega (arith, two) in
    subst (λ (n : ℕ). AreInsns ((Some first ∷ replicate n None) ++ slots)) single
    (behind_some first (None ∷ slots) good (behind_none slots rest))

-- the slots of a program whose instructions are in range hold only such instructions
spread_insns : (insns : List Insn) → list_all is_insn insns ≡ true → AreInsns (spread insns)
spread_insns [] all = λ k insn here. absurd (some_none _ _ here refl)
spread_insns (first ∷ rest) all =
    let parts = and_parts (is_insn first) (list_all is_insn rest) all in
    behind first (spread rest) parts.0 (spread_insns rest parts.1) (one_or_two first)

-- a destination that passes the test of its range is at most 10
small : (d r : ℕ) → nat_le d 10 ≡ true → Some d ≡ Some r → r ≤ 10
small d r le same =
    let is : d ≡ r = some_same _ _ _ refl same in
    subst (λ (n : ℕ). n ≤ 10) is (grind (arith, nat_tests))

-- a register that an instruction in range writes is one of the eleven
destination_small : (insn : Insn) (r : ℕ) → is_insn insn ≡ true → destination_of insn ≡ Some r → r ≤ 10
destination_small (Alu w o d src) r good same = small d r (and_parts _ _ good).0 same
destination_small (MovSx w B8 d s) r good same = small d r (and_parts _ _ good).0 same
destination_small (MovSx w B16 d s) r good same = small d r (and_parts _ _ good).0 same
destination_small (MovSx W64 B32 d s) r good same = small d r (and_parts _ _ good).0 same
destination_small (MovSx W32 B32 d s) r good same = absurd (let no : ⊥ = cc in no)
destination_small (MovSx w B64 d s) r good same = absurd (let no : ⊥ = cc in no)
destination_small (Neg w d) r good same = small d r good same
destination_small (End order B8 d) r good same = absurd (let no : ⊥ = cc in no)
destination_small (End order B16 d) r good same = small d r good same
destination_small (End order B32 d) r good same = small d r good same
destination_small (End order B64 d) r good same = small d r good same
destination_small (Load Byte g d s off) r good same = small d r (and_parts _ _ good).0 same
destination_small (Load Half g d s off) r good same = small d r (and_parts _ _ good).0 same
destination_small (Load Word g d s off) r good same = small d r (and_parts _ _ good).0 same
destination_small (Load Double true d s off) r good same = absurd (let no : ⊥ = cc in no)
destination_small (Load Double false d s off) r good same = small d r (and_parts _ _ good).0 same
destination_small (Imm64 d v) r good same = small d r good same
destination_small (MapRef d i) r good same = small d r good same
destination_small _ r good same = absurd (some_none _ _ same refl)

-- in a program without faults an instruction writes no register from 10 on
below : (slots : List (Option Insn)) (slot r : ℕ) (insn : Insn)
    → IsFaultless slots → instruction_at slots slot ≡ Some insn → destination_of insn ≡ Some r → r ≤ 10 → (r < 10) ⊎ (10 ≤ r)
    → r < 10
below slots slot r insn faultless here writes le (inl lt) = lt
below slots slot r insn faultless here writes le (inr ge) =
    let ten : r ≡ 10 = omega arith in
    absurd (faultless Frame slot (record { insn = insn; here = here; writes = subst (λ (n : ℕ). destination_of insn ≡ Some n) ten writes }))

-- instructions in range, without a fault of the graph, write only registers below 10
pub spares_frame : (insns : List Insn) (slots : List (Option Insn))
    → slots ≡ spread insns → list_all is_insn insns ≡ true → IsFaultless slots → SparesFrame slots
spares_frame insns slots same all faultless slot insn here r writes =
    let good = subst (λ (s : List (Option Insn)). AreInsns s) (sym same) (spread_insns insns all) slot insn here in
    below slots slot r insn faultless here writes (destination_small insn r good writes) (cases_lt r 10)
