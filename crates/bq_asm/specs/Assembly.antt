-- Which instructions a text stands for.
use Rattle.std.specs.Prelude.{◌≡◌, ℕ, ◌+◌, ◌≤◌, ℤ, pos, ◌-ℤ◌, true, false, List, [], ◌∷◌, ◌++◌, Option, Some, Result, Ok, Err, option_map}
use Rattle.std.specs.List.{list_any}
use Rattle.std.specs.Map.{lookup, keys_of}
use Rattle.std.specs.Str.{bytes_eq}
use Rattle.bq_insn.specs.declared.Insn.{Insn}
use Rattle.bq_insn.specs.Slots.{slots_of}
use Rattle.bq_insn.specs.Spelling.{slot_count}
use Rattle.bq_asm.specs.declared.fault.AssemblyCause.{AssemblyCause}
use Rattle.bq_asm.specs.Lines.{Line, Blank, Label, Instruction, lines_of, last_word}
use Rattle.bq_asm.specs.Operands.{is_label, instruction_of}

-- how many slots the instruction that was read takes; none if none was read
abbrev pub slots_read : Result Insn AssemblyCause → ℕ
slots_read (Ok insn) = slots_of insn
slots_read (Err c) = 0

-- how many slots a line takes; its label, if it has one, does not matter
abbrev pub slots_of_line : Line → ℕ
slots_of_line (Instruction first operands) = slots_read (instruction_of first operands (Some (pos 0)))
slots_of_line line = 0

-- the label that a line sets, with the slot that the next instruction takes
abbrev pub label_at : ℕ → Line → List (List ℕ × ℕ)
label_at slot (Label name) = (name, slot) ∷ []
label_at slot line = []

-- the labels that lines set, each with its slot, if the lines begin at this slot
abbrev pub places_from : ℕ → List Line → List (List ℕ × ℕ)
places_from slot [] = []
places_from slot (line ∷ lines) = label_at slot line ++ places_from (slot + slots_of_line line) lines

-- how far a label is from the slot after this one; none if the label is set nowhere
abbrev pub distance_to : List (List ℕ × ℕ) → ℕ → List ℕ → Option ℤ
distance_to places slot name = option_map (λ at. pos at -ℤ pos (slot + 1)) (lookup (bytes_eq name) places)

-- the lines say these instructions from this slot on, if the labels have these places
abbrev pub AssemblesFrom : List (List ℕ × ℕ) → ℕ → List Line → List Insn → Type 0
AssemblesFrom places slot [] [] = Unit {0}
AssemblesFrom places slot [] (insn ∷ insns) = ⊥
AssemblesFrom places slot (Blank ∷ lines) insns = AssemblesFrom places slot lines insns
AssemblesFrom places slot (Label name ∷ lines) insns = AssemblesFrom places slot lines insns
AssemblesFrom places slot (Instruction first operands ∷ lines) [] = ⊥
AssemblesFrom places slot (Instruction first operands ∷ lines) (insn ∷ insns) =
    (instruction_of first operands (distance_to places slot (last_word operands)) ≡ Ok insn) × AssemblesFrom places (slot + slots_of insn) lines insns

-- each label is a valid name, and no label before it has the same name
abbrev pub AreNewLabels : List (List ℕ) → List (List ℕ) → Type 0
AreNewLabels before [] = Unit {0}
AreNewLabels before (name ∷ names) = (is_label name ≡ true) × (list_any (bytes_eq name) before ≡ false) × AreNewLabels (before ++ name ∷ []) names

-- the text stands for these instructions, of 1 to 4096 slots
pub record Assembles (text : List ℕ) (insns : List Insn) : Type 0 where
  pub labels : AreNewLabels [] (keys_of (places_from 0 (lines_of text)))
  pub assembles : AssemblesFrom (places_from 0 (lines_of text)) 0 (lines_of text) insns
  pub some : 1 ≤ slot_count insns
  pub few : slot_count insns ≤ 4096
