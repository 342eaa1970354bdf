-- How long a program's bytes are, and that they are refused for no fault.
use Rattle.std.proofs.Common.{◌≡◌, ◌*◌, ◌≤◌, true, refl, inl, inr, List, [], ◌∷◌, length, length-append, arith}
use Rattle.std.specs.Prelude.{◌&&◌, nat_le}
use Rattle.std.proofs.lemmas.Bool.Decides.{nat_tests}
use Rattle.bq_insn.proofs.FaultLemmas.{has_length, fault_parts, not_both}
use Rattle.std.specs.List.{flat_map, list_all}
use Rattle.std.proofs.lemmas.Bool.{and_parts}
use Rattle.bq_insn.specs.declared.Insn.{Insn}
use Rattle.bq_insn.specs.declared.slot.Slot.{Slot}
use Rattle.bq_insn.specs.Spelling.{slot_bytes, spelled, is_insn, insn_bytes, spelling, slot_count, is_well_formed}
use Rattle.bq_insn.specs.Faults.{is_program_length, NoProgramIsRefused}
use Rattle.bq_insn.proofs.ApartLemmas.{no_program_is_faulty}

-- slots have eight bytes each
length-slots : (slots : List Slot) → length (flat_map slot_bytes slots) ≡ 8 * length slots
length-slots [] = refl
length-slots (s ∷ slots) =
    let rest = length-slots slots in
    let more = length-append (slot_bytes s) (flat_map slot_bytes slots) in
    omega (arith, rest, more)

-- a program has eight bytes for each slot
pub length-spelling : (insns : List Insn) → length (spelling insns) ≡ 8 * slot_count insns
length-spelling [] = refl
length-spelling (i ∷ insns) =
    let rest = length-spelling insns in
    let here = length-slots (spelled i) in
    let more = length-append (insn_bytes i) (spelling insns) in
    let slots = length-append (spelled i) (flat_map spelled insns) in
    omega (arith, rest, here, more, slots)

-- each instruction of a well-formed program is in range
pub well_formed_in_range : (insns : List Insn) → is_well_formed insns ≡ true → list_all is_insn insns ≡ true
well_formed_in_range insns h = (and_parts (list_all is_insn insns) (nat_le 1 (slot_count insns) && nat_le (slot_count insns) 4096) h).0

-- the length of a program is that of a program: it takes 1 to 4096 whole slots
pub program_length : (insns : List Insn) → is_well_formed insns ≡ true → is_program_length (spelling insns) ≡ true
program_length insns h =
    let parts = and_parts (list_all is_insn insns) (nat_le 1 (slot_count insns) && nat_le (slot_count insns) 4096) h in
    let bounds = and_parts (nat_le 1 (slot_count insns)) (nat_le (slot_count insns) 4096) parts.1 in
    let low : 1 ≤ slot_count insns = let t = bounds.0 in grind (arith, nat_tests) in
    let high : slot_count insns ≤ 4096 = let t = bounds.1 in grind (arith, nat_tests) in
    let bytes = length-spelling insns in
    has_length (spelling insns) (omega (arith, bytes)) (omega (arith, bytes)) (omega (arith, bytes))

-- a program has neither fault
pub no_program_is_refused : NoProgramIsRefused
no_program_is_refused insns s c h f g = elim (fault_parts (spelling insns) s c g) as (λ _. ⊥) [
  | inl p ↦ not_both (is_program_length (spelling insns)) (program_length insns h) p.2
  | inr p ↦
      no_program_is_faulty insns s c
      (and_parts (list_all is_insn insns) (nat_le 1 (slot_count insns) && nat_le (slot_count insns) 4096) h).0 f p.1
]
