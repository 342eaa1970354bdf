-- A well-formed program takes as many slots as its spelling has.
use Rattle.std.proofs.Common.{◌≡◌, ℕ, suc, ◌-◌, ◌<◌, ◌≤◌, Bool, true, false, ◌&&◌, List, [], ◌∷◌, Option, Some, None, length, refl, arith, length-append}
use Rattle.std.specs.Prelude.{nat_le, replicate}
use Rattle.std.specs.List.{flat_map}
use Rattle.std.proofs.lemmas.List.{length-replicate}
use Rattle.std.proofs.lemmas.Bool.Decides.{nat_tests}
use Rattle.bq_insn.specs.declared.Insn.{Insn}
use Rattle.bq_insn.specs.declared.Insn.TheVariants.{Alu, MovSx, Neg, End, Load, StoreImm, StoreReg, Imm64, MapRef, Goto, Goto32, Branch, Call, Exit}
use Rattle.bq_insn.specs.declared.Source.TheVariants.{Imm, Reg}
use Rattle.bq_insn.specs.Slots.{slots_of, spread}
use Rattle.bq_insn.specs.Spelling.{spelled, slot_count, is_well_formed}

-- one instruction
one_long : (i : Insn) → suc (slots_of i - 1) ≡ length (spelled i)
one_long (Alu w o d (Imm n)) = refl
one_long (Alu w o d (Reg s)) = refl
one_long (MovSx w b d s) = refl
one_long (Neg w d) = refl
one_long (End k b d) = refl
one_long (Load z g d s off) = refl
one_long (StoreImm z d off n) = refl
one_long (StoreReg z d off s) = refl
one_long (Imm64 d v) = refl
one_long (MapRef d i) = refl
one_long (Goto off) = refl
one_long (Goto32 n) = refl
one_long (Branch w c d (Imm n) off) = refl
one_long (Branch w c d (Reg s) off) = refl
one_long (Call h) = refl
one_long Exit = refl

-- the spread of a program is as long as its instructions have slots
pub spread_long : (insns : List Insn) → length (spread insns) ≡ slot_count insns
spread_long [] = refl
spread_long (i ∷ rest) =
    let more = spread_long rest in
    let one = one_long i in
    let gap = length-replicate {A = Option Insn} (slots_of i - 1) None in
    omega (
      arith,
      length-append (Some i ∷ replicate (slots_of i - 1) None) (spread rest),
      length-append (spelled i) (flat_map spelled rest),
      gap,
    )

-- a program that passes the test of its length has from 1 to 4096 slots
limits : (b : Bool) (n : ℕ) → (b && (nat_le 1 n && nat_le n 4096)) ≡ true → (1 ≤ n) × (n ≤ 4096)
limits true n h = (grind (arith, nat_tests), grind (arith, nat_tests))
limits false n h = absurd (let no : ⊥ = cc in no)

-- a well-formed program has a slot
pub some_slots : (insns : List Insn) → is_well_formed insns ≡ true → 0 < length (spread insns)
some_slots insns whole = let n = (limits _ (slot_count insns) whole).0 in omega (arith, spread_long insns)

-- a well-formed program has at most 4096 slots
pub few_slots : (insns : List Insn) → is_well_formed insns ≡ true → length (spread insns) ≤ 4096
few_slots insns whole = let n = (limits _ (slot_count insns) whole).1 in omega (arith, spread_long insns)
