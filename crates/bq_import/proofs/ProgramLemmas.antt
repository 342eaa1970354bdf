-- In the slots of a well-formed program each instruction is in range, and what was written from its end is such a program.
use Rattle.std.proofs.Common.{◌≡◌, ℕ, zero, suc, ◌-◌, ◌<◌, ◌≤◌, true, List, [], ◌∷◌, ◌++◌, Option, None, length, replicate, refl, arith, ap, ◌∙◌, subst, le-leb}
use Rattle.std.specs.Prelude.{nat_le, ◌&&◌}
use Rattle.std.specs.List.{list_all}
use Rattle.std.proofs.lemmas.List.{length-reverse}
use Rattle.std.proofs.lemmas.Bool.{and_parts, and_from}
use Rattle.bq_insn.specs.declared.Insn.{Insn}
use Rattle.bq_insn.specs.Slots.{slots_of, spread}
use Rattle.bq_insn.specs.Laws.{Fits, AllFit}
use Rattle.bq_insn.specs.Spelling.{slot_count, is_insn, is_well_formed}
use Rattle.bq_insn.proofs.OptionLemmas.{some_same, some_none}
use Rattle.bq_verify.proofs.SlotLemmas.{spread_long}
use Rattle.bq_import.specs.Backward.{AreGood, IsBuilt, IsFront, insns_of}

-- slots without an instruction before good ones are good
gap_good : (n : ℕ) (rest : List (Option Insn)) → AreGood rest → AreGood (replicate n None ++ rest)
gap_good zero rest good slot insn here = good slot insn here
gap_good (suc n) rest good zero insn here = absurd (some_none _ insn here refl)
gap_good (suc n) rest good (suc slot) insn here = gap_good n rest good slot insn here

-- the slots of instructions in range, whose numbers fit, have only such instructions
all_good : (insns : List Insn) → list_all is_insn insns ≡ true → AllFit insns → AreGood (spread insns)
all_good [] all fits zero insn here = absurd (some_none _ insn here refl)
all_good [] all fits (suc slot) insn here = absurd (some_none _ insn here refl)
all_good (i ∷ rest) all fits zero insn here =
    subst (λ (k : Insn). (is_insn k ≡ true) × Fits k) (some_same _ i insn refl here)
    ((and_parts (is_insn i) (list_all is_insn rest) all).0, fits.0)
all_good (i ∷ rest) all fits (suc slot) insn here =
    gap_good (slots_of i - 1) (spread rest) (all_good rest (and_parts (is_insn i) (list_all is_insn rest) all).1 fits.1) slot
    insn here

-- the instructions of a well-formed program whose numbers fit are in range
pub are_good : (insns : List Insn) → is_well_formed insns ≡ true → AllFit insns → AreGood (spread insns)
are_good insns whole fits =
    all_good insns (and_parts (list_all is_insn insns) (nat_le 1 (slot_count insns) && nat_le (slot_count insns) 4096) whole).0 fits

-- the other way: a program of this many slots, all in range
pub well_formed : (insns : List Insn) → list_all is_insn insns ≡ true → 0 < length (spread insns)
    → length (spread insns) ≤ 4096
    → is_well_formed insns ≡ true
well_formed insns all some few =
    let long = spread_long insns in
    let low : nat_le 1 (slot_count insns) ≡ true = le-leb 1 (slot_count insns) (omega (arith, long, some)) in
    let high : nat_le (slot_count insns) 4096 ≡ true = le-leb (slot_count insns) 4096 (omega (arith, long, few)) in
    and_from _ _ all (and_from _ _ low high)

-- what was written from its end is a program
pub written_is_well_formed : (maps : ℕ) (old back : List (Option Insn)) (origins : List ℕ)
    → IsBuilt maps old back origins → IsFront back origins 0 → is_well_formed (insns_of back) ≡ true
written_is_well_formed maps old back origins built front =
    let short = built.short in
    let some = front.place_is in
    let long : length (spread (insns_of back)) ≡ length back = ap length built.spread_is ∙ length-reverse back in
    well_formed (insns_of back) built.in_range (omega (arith, long, some)) (omega (arith, long, short))
