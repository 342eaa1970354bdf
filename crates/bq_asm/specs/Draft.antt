-- What the first pass keeps of the lines that it has read.
use Rattle.std.specs.Prelude.{◌≡◌, ℕ, ◌+◌, ◌<◌, ◌⊎◌, List, [], ◌∷◌, ◌++◌, length, map, Some, None}
use Rattle.bq_insn.specs.declared.Insn.{Insn}
use Rattle.bq_asm.specs.declared.fault.AssemblyCause.TheVariants.{Slots}
use Rattle.bq_asm.specs.declared.fault.AsmFault.{AsmFault}
use Rattle.bq_asm.specs.declared.fault.AsmFault.TheVariants.{At, OutOfMemory}
use Rattle.bq_asm.specs.declared.draft.Draft.{Draft}
use Rattle.bq_asm.specs.Lines.{Line}
use Rattle.bq_asm.specs.Assembly.{places_from, AssemblesFrom}
use Rattle.bq_asm.specs.Faults.{slots_in, cause_at_line, missing_at, IsFirstCause, IsClean}
use Rattle.bq_asm.specs.Jumps.{places_of, awaited_by, drafts_of, jumps_from}

-- the draft has the labels, slots, instructions and waiting jumps of exactly these lines
pub record IsDraftOf (lines : List Line) (draft : Draft) : Type 0 where
  pub labels : places_of draft.labels ≡ places_from 0 lines
  pub slots : draft.slots ≡ slots_in lines
  pub insns : draft.insns.items ≡ drafts_of lines
  pub jumps : map awaited_by draft.jumps.items ≡ jumps_from 0 0 1 lines

-- the new draft describes the lines of the old one and one more line, which has no fault
abbrev pub TakesLine : Draft → Draft → ℕ → Line → Type 0
TakesLine old new number line =
    (before : List Line) → IsDraftOf before old → number ≡ length before + 1 → (cause_at_line before line ≡ None) × IsDraftOf (before ++ line ∷ []) new

-- the line at this number has this fault after the lines that the draft describes
abbrev pub RefusesLine : Draft → ℕ → Line → AsmFault → Type 0
RefusesLine draft number line OutOfMemory = Unit {0}
RefusesLine draft number line (At k c) = (k ≡ number) × ((before : List Line) → IsDraftOf before draft → cause_at_line before line ≡ Some c)

-- if the lines of the draft have no fault, they say these instructions, and there is at least one
abbrev pub FinishesDraft : Draft → List Insn → Type 0
FinishesDraft draft insns = (lines : List Line) → IsDraftOf lines draft → IsClean lines → (0 < slots_in lines) × AssemblesFrom (places_from 0 lines) 0 lines insns

-- if no line of the draft has a fault by itself, this is what is wrong: no instruction, or a jump to a label that is set nowhere
abbrev pub Fails : Draft → AsmFault → Type 0
Fails draft OutOfMemory = ⊥
Fails draft (At line cause) = (lines : List Line) → IsDraftOf lines draft → IsClean lines →
    ((slots_in lines ≡ 0) × (line ≡ 0) × (cause ≡ Slots)) ⊎ ((0 < slots_in lines) × IsFirstCause (missing_at lines) line cause)
