-- The jumps to labels in the lines of a text, and how the assembler sets their distances once all labels are known.
use Rattle.std.specs.Prelude.{ℕ, ◌+◌, ℤ, pos, ◌-ℤ◌, Bool, true, false, List, [], ◌∷◌, ◌++◌, Option, Some, None, Result, Ok, Err, slice_index_or, slice_set, length, map, if◌then◌else◌}
use Rattle.std.specs.Borrow.{Bor}
use Rattle.std.specs.declared.hash.FoldHasher.{FoldHasher}
use Rattle.std.specs.declared.hash.BuildHasherDefault.{BuildHasherDefault}
use Rattle.std.specs.List.{flat_map}
use Rattle.std.specs.Map.{lookup}
use Rattle.std.specs.Str.{bytes_eq}
use Rattle.indexmap.specs.IndexMap.{IndexMap}
use Rattle.bq_insn.specs.declared.Insn.{Insn}
use Rattle.bq_insn.specs.declared.Insn.TheVariants as insn
use Rattle.bq_insn.specs.Slots.{slots_of}
use Rattle.bq_asm.specs.declared.fault.AssemblyCause.{AssemblyCause}
use Rattle.bq_asm.specs.declared.jump.Jump.{Jump}
use Rattle.bq_asm.specs.Lines.{Line, Instruction, last_word}
use Rattle.bq_asm.specs.Operands.{is_label, instruction_of}
use Rattle.bq_asm.specs.Assembly.{slots_of_line}

-- whether an instruction is a jump
abbrev pub is_jump : Insn → Bool
is_jump (insn.Goto off) = true
is_jump (insn.Goto32 n) = true
is_jump (insn.Branch w c d src off) = true
is_jump i = false

-- the label that a jump names as its target, which is its last word; none for a distance in digits or for any other instruction
abbrev pub target_of : Insn → List (List ℕ) → Option (List ℕ)
target_of i operands = if is_jump i then (if is_label (last_word operands) then Some (last_word operands) else None) else None

-- the jump with its distance replaced by this one; any other instruction stays
abbrev pub jump_aimed : Insn → ℤ → Insn
jump_aimed (insn.Goto off) z = insn.Goto z
jump_aimed (insn.Goto32 n) z = insn.Goto32 z
jump_aimed (insn.Branch w c d src off) z = insn.Branch w c d src z
jump_aimed i z = i

-- a jump that waits for its label: its place among the instructions, the slot after it, its line and the label
pub record Awaited : Type 0 where
  pub index : ℕ
  pub next : ℕ
  pub line : ℕ
  pub label : List ℕ

-- the waiting jump that a `Jump` of the code describes
abbrev pub awaited_by : Jump → Awaited
awaited_by j = record { index = j.index; next = j.next; line = j.line; label = j.label.now }

-- a list with the waiting jump to this label, or an empty list if there is no label
abbrev pub awaited_at : ℕ → ℕ → ℕ → Option (List ℕ) → List Awaited
awaited_at index next line None = []
awaited_at index next line (Some label) = record { index = index; next = next; line = line; label = label } ∷ []

-- a list with the instruction that was read, or an empty list if none was
abbrev pub insn_read : Result Insn AssemblyCause → List Insn
insn_read (Err c) = []
insn_read (Ok i) = i ∷ []

-- the instruction of a line, with the distance 0 for a label
abbrev pub draft_of : Line → List Insn
draft_of (Instruction first operands) = insn_read (instruction_of first operands (Some (pos 0)))
draft_of line = []

-- the instructions of lines, with the distance 0 for each label
abbrev pub drafts_of : List Line → List Insn
drafts_of lines = flat_map draft_of lines

-- the waiting jump of an instruction that was read, if it is a jump to a label
abbrev pub jump_read : ℕ → ℕ → ℕ → List (List ℕ) → Result Insn AssemblyCause → List Awaited
jump_read index slot line operands (Err c) = []
jump_read index slot line operands (Ok i) = awaited_at index (slot + slots_of i) line (target_of i operands)

-- the waiting jump of a line, if it has one; the numbers are the place of its instruction, its slot and its line
abbrev pub jump_at : ℕ → ℕ → ℕ → Line → List Awaited
jump_at index slot line (Instruction first operands) = jump_read index slot line operands (instruction_of first operands (Some (pos 0)))
jump_at index slot line other = []

-- the waiting jumps of lines; the numbers are the place of the first instruction, the slot and the line where the lines begin
abbrev pub jumps_from : ℕ → ℕ → ℕ → List Line → List Awaited
jumps_from index slot number [] = []
jumps_from index slot number (line ∷ lines) =
    jump_at index slot number line ++ jumps_from (index + length (draft_of line)) (slot + slots_of_line line) (number + 1) lines

-- a map from the names of labels to their slots
abbrev pub Labels : Type 0
Labels = IndexMap (Bor (List ℕ)) ℕ (BuildHasherDefault FoldHasher)

-- the labels of a map, each with its slot
abbrev pub places_of : Labels → List (List ℕ × ℕ)
places_of m = map (λ e. (e.0.now, e.1)) m.entries

-- sets the distance of this jump and goes on with the others, or answers the line of the jump if its label has no place
abbrev pub with_jump : Awaited → List Insn → (List Insn → Result (List Insn) ℕ) → Option ℕ → Result (List Insn) ℕ
with_jump j insns others None = Err j.line
with_jump j insns others (Some at) = others (slice_set insns j.index (jump_aimed (slice_index_or insns j.index insn.Exit) (pos at -ℤ pos j.next)))

-- the instructions with the distances of all these jumps set, or the line of the first jump whose label has no place
abbrev pub with_jumps : List (List ℕ × ℕ) → List Awaited → List Insn → Result (List Insn) ℕ
with_jumps places [] insns = Ok insns
with_jumps places (j ∷ jumps) insns = with_jump j insns (λ changed. with_jumps places jumps changed) (lookup (bytes_eq j.label) places)
