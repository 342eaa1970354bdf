-- Why a text is refused, and which line is named.
use Rattle.std.specs.Prelude.{◌≡◌, ℕ, zero, suc, ◌+◌, ◌<◌, pos, Bool, true, false, ◌&&◌, not, nat_le, List, [], ◌∷◌, take, ◌⊎◌, Option, Some, None, Result, Ok, Err, slice_get, option_and_then, if◌then◌else◌}
use Rattle.std.specs.List.{list_any}
use Rattle.std.specs.Map.{keys_of}
use Rattle.std.specs.Str.{bytes_eq}
use Rattle.bq_insn.specs.declared.Insn.{Insn}
use Rattle.bq_insn.specs.Slots.{slots_of}
use Rattle.bq_asm.specs.declared.fault.AssemblyCause.{AssemblyCause}
use Rattle.bq_asm.specs.declared.fault.AssemblyCause.TheVariants.{Word, LabelTwice, LabelMissing, Slots}
use Rattle.bq_asm.specs.declared.fault.AsmFault.{AsmFault}
use Rattle.bq_asm.specs.declared.fault.AsmFault.TheVariants.{At, OutOfMemory}
use Rattle.bq_asm.specs.Lines.{Line, Blank, Label, Instruction, lines_of, last_word}
use Rattle.bq_asm.specs.Operands.{is_label, instruction_of}
use Rattle.bq_asm.specs.Assembly.{slots_of_line, places_from}
use Rattle.bq_insn.specs.declared.TheConstants.{SLOTS}

-- the labels that lines set
abbrev pub labels_in : List Line → List (List ℕ)
labels_in lines = keys_of (places_from 0 lines)

-- how many slots lines take
abbrev pub slots_in : List Line → ℕ
slots_in [] = 0
slots_in (line ∷ lines) = slots_of_line line + slots_in lines

-- what is wrong with a label after these labels: it is no name, or it was set before
abbrev pub cause_of_label : List (List ℕ) → List ℕ → Option AssemblyCause
cause_of_label before name = if is_label name then (if list_any (bytes_eq name) before then Some LabelTwice else None) else Some Word

-- what is wrong with an instruction that begins after this many slots
abbrev pub cause_of_insn : ℕ → Result Insn AssemblyCause → Option AssemblyCause
cause_of_insn slots (Err c) = Some c
cause_of_insn slots (Ok insn) = if nat_le (slots + slots_of insn) SLOTS then None else Some Slots

-- the least cause at a line, after the lines before it; whether the label of a jump is set does not matter yet
abbrev pub cause_at_line : List Line → Line → Option AssemblyCause
cause_at_line before Blank = None
cause_at_line before (Label name) = cause_of_label (labels_in before) name
cause_at_line before (Instruction first operands) = cause_of_insn (slots_in before) (instruction_of first operands (Some (pos 0)))

-- the least cause at the line of this number, counted from 1
abbrev pub fault_at : List Line → ℕ → Option AssemblyCause
fault_at lines zero = None
fault_at lines (suc k) = option_and_then (cause_at_line (take k lines)) (slice_get lines k)

-- with no label set, the instruction is refused only because it names one as its target
abbrev pub awaits_label : Result Insn AssemblyCause → Bool
awaits_label (Err LabelMissing) = true
awaits_label read = false

-- the cause LabelMissing, if the line jumps to a label that is not one of these
abbrev pub cause_of_jump : List (List ℕ) → Line → Option AssemblyCause
cause_of_jump labels (Instruction first operands) =
    if awaits_label (instruction_of first operands None) && not (list_any (bytes_eq (last_word operands)) labels) then Some LabelMissing else None
cause_of_jump labels line = None

-- the cause LabelMissing, if the line of this number, counted from 1, jumps to a label that is set nowhere
abbrev pub missing_at : List Line → ℕ → Option AssemblyCause
missing_at lines zero = None
missing_at lines (suc k) = option_and_then (cause_of_jump (labels_in lines)) (slice_get lines k)

-- this is the first line with a cause, and this is its cause
abbrev pub IsFirstCause : (ℕ → Option AssemblyCause) → ℕ → AssemblyCause → Type 0
IsFirstCause cause_of line cause = (cause_of line ≡ Some cause) × ((k : ℕ) → k < line → cause_of k ≡ None)

-- no line has a fault by itself
abbrev pub IsClean : List Line → Type 0
IsClean lines = (k : ℕ) → fault_at lines k ≡ None

-- the fault of a text: the first line with a fault by itself; else line 0, if there is no instruction; else the first
-- jump whose label is set nowhere
abbrev pub FaultyLines : List Line → ℕ → AssemblyCause → Type 0
FaultyLines lines line cause =
    IsFirstCause (fault_at lines) line cause
    ⊎ (IsClean lines × (slots_in lines ≡ 0) × (line ≡ 0) × (cause ≡ Slots))
    ⊎ (IsClean lines × (0 < slots_in lines) × IsFirstCause (missing_at lines) line cause)

-- the text has this fault; if memory ran out, nothing is said about it
abbrev pub IsAssemblyFault : List ℕ → AsmFault → Type 0
IsAssemblyFault text OutOfMemory = Unit {0}
IsAssemblyFault text (At line cause) = FaultyLines (lines_of text) line cause
