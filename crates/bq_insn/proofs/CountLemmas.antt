-- How many slots instructions take.
use Rattle.std.proofs.Common.{◌≡◌, ℕ, zero, suc, ◌+◌, ◌<◌, ◌≤◌, List, [], ◌∷◌, length, get_or, take, refl, ap, ◌∙◌, arith, length-append}
use Rattle.std.specs.List.{flat_map}
use Rattle.bq_insn.specs.declared.Insn.{Insn}
use Rattle.bq_insn.specs.declared.Insn.TheVariants.{Alu, Branch, Imm64, MapRef}
use Rattle.bq_insn.specs.declared.Source.TheVariants.{Imm, Reg}
use Rattle.bq_insn.specs.Slots.{slots_of}
use Rattle.bq_insn.specs.Spelling.{spelled, slot_count}

-- each instruction has a slot
pub slots_positive : (insn : Insn) → 1 ≤ slots_of insn
slots_positive (Imm64 d v) = omega arith
slots_positive (MapRef d i) = omega arith
slots_positive _ = omega arith

slots_of-spelled : (i : Insn) → length (spelled i) ≡ slots_of i
slots_of-spelled (Alu w o d (Imm n)) = refl
slots_of-spelled (Alu w o d (Reg s)) = refl
slots_of-spelled (Branch w o d (Imm n) off) = refl
slots_of-spelled (Branch w o d (Reg s) off) = refl
slots_of-spelled i = refl

-- an instruction before others takes its own slots beside theirs
pub slot_count-cons : (i : Insn) (insns : List Insn) → slot_count (i ∷ insns) ≡ slots_of i + slot_count insns
slot_count-cons i insns = length-append (spelled i) (flat_map spelled insns) ∙ ap (λ n. n + slot_count insns) (slots_of-spelled i)

-- this many of the instructions take this many slots, and one more
pub count_more : (insns : List Insn) (k : ℕ) (d : Insn) → k < length insns
    → slot_count (take (suc k) insns) ≡ slot_count (take k insns) + slots_of (get_or insns k d)
count_more [] k d h = absurd (omega arith)
count_more (i ∷ insns) zero d h = slot_count-cons i [] ∙ (let e : slots_of i + 0 ≡ 0 + slots_of i = omega arith in e)
count_more (i ∷ insns) (suc k) d h =
    let rest = count_more insns k d (omega arith) in
    omega (arith, slot_count-cons i (take (suc k) insns), slot_count-cons i (take k insns), rest)

-- no more than all of them
pub count_within : (insns : List Insn) (k : ℕ) → slot_count (take k insns) ≤ slot_count insns
count_within insns zero = omega arith
count_within [] (suc k) = omega arith
count_within (i ∷ insns) (suc k) = omega (arith, slot_count-cons i (take k insns), slot_count-cons i insns, count_within insns k)
