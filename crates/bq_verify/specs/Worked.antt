-- Worked straight programs. One stores the number of an entry, looks the entry up, tests the answer for 0, and answers with the
-- first eight bytes of the entry, or with 0. The other updates an entry, adds to a counter and reads it.
use Rattle.std.specs.Prelude.{true, false, ◌≡◌, ◌≤◌, ℕ, pos, neg_ℤ, List, [], ◌∷◌}
use Rattle.bq_insn.specs.declared.Insn.{Insn}
use Rattle.bq_insn.specs.declared.Insn.TheVariants.{Alu, Load, StoreImm, MapRef, Branch, Call, Exit}
use Rattle.bq_insn.specs.declared.Operation.TheVariants.{Add, Mov}
use Rattle.bq_insn.specs.declared.Condition.TheVariants.{Equal}
use Rattle.bq_insn.specs.declared.Size.TheVariants.{Word, Double}
use Rattle.bq_insn.specs.declared.Source.TheVariants.{Imm, Reg}
use Rattle.bq_insn.specs.declared.Width.TheVariants.{W64}
use Rattle.bq_insn.specs.Slots.{spread}
use Rattle.bq_insn.specs.Spelling.{is_well_formed}
use Rattle.bq_bpf.specs.declared.shape.MapShape.{MapShape}
use Rattle.bq_verify.specs.Straight.{IsStraightProgram}
use Rattle.bq_verify.specs.Subjects.{Subject}

-- these instructions as a program with this one map and a context of this length
abbrev pub subject_with_one_map : List Insn → MapShape → ℕ → Subject
subject_with_one_map insns shape context = record { slots = spread insns; shapes = shape ∷ []; context = context }

-- stw [r10-4], 0; ldmap r1, 0; mov64 r2, r10; add64 r2, -4; call 1; jeq64 r0, 0, +2; ldxdw r0, [r0+0]; exit; mov64 r0, 0; exit
abbrev pub worked : List Insn
worked =
    StoreImm Word 10 (neg_ℤ (pos 4)) (pos 0) ∷ MapRef 1 (pos 0) ∷ Alu W64 Mov 2 (Reg 10) ∷ Alu W64 Add 2 (Imm (neg_ℤ (pos 4))) ∷ Call (pos 1)
    ∷ Branch W64 Equal 0 (Imm (pos 0)) (pos 2) ∷ Load Double false 0 0 (pos 0) ∷ Exit ∷ Alu W64 Mov 0 (Imm (pos 0)) ∷ Exit ∷ []

-- `worked` is well formed, and straight with any one map and a context of any length
abbrev pub WorkedIsStraight : Type 0
WorkedIsStraight = (is_well_formed worked ≡ true) × ((shape : MapShape) (context : ℕ) → IsStraightProgram (subject_with_one_map worked shape context))

-- stdw [r10-8], 0; ldmap r1, 0; mov64 r2, r10; add64 r2, -8; mov64 r3, r10; add64 r3, -8; mov64 r4, 0; call 2;
-- mov64 r2, 1; mov64 r1, 5; call 100; mov64 r1, 5; call 101; exit
abbrev pub calls_program : List Insn
calls_program =
    StoreImm Double 10 (neg_ℤ (pos 8)) (pos 0) ∷ MapRef 1 (pos 0) ∷ Alu W64 Mov 2 (Reg 10) ∷ Alu W64 Add 2 (Imm (neg_ℤ (pos 8)))
    ∷ Alu W64 Mov 3 (Reg 10) ∷ Alu W64 Add 3 (Imm (neg_ℤ (pos 8))) ∷ Alu W64 Mov 4 (Imm (pos 0)) ∷ Call (pos 2)
    ∷ Alu W64 Mov 2 (Imm (pos 1)) ∷ Alu W64 Mov 1 (Imm (pos 5)) ∷ Call (pos 100) ∷ Alu W64 Mov 1 (Imm (pos 5)) ∷ Call (pos 101) ∷ Exit ∷ []

-- `calls_program` is well formed, and straight with any one map whose values have at most 8 bytes and a context of any length
abbrev pub CallingIsStraight : Type 0
CallingIsStraight =
    (is_well_formed calls_program ≡ true) × ((shape : MapShape) (context : ℕ) → shape.value_size ≤ 8 → IsStraightProgram (subject_with_one_map calls_program shape context))
