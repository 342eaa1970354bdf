-- Laws of assembly: the listing of a program assembles to the program, a text stands for one program or has one fault,
-- and each mnemonic has one word.
use Rattle.std.specs.Prelude.{◌≡◌, ℕ, true, List, ◌⊎◌, Some}
use Rattle.bq_insn.specs.declared.Insn.{Insn}
use Rattle.bq_insn.specs.Spelling.{is_well_formed}
use Rattle.bq_insn.specs.Laws.{AllFit}
use Rattle.bq_asm.specs.declared.fault.AssemblyCause.{AssemblyCause}
use Rattle.bq_asm.specs.declared.mnemonic.Mnemonic.{Mnemonic}
use Rattle.bq_asm.specs.Names.{mnemonic_word}
use Rattle.bq_asm.specs.Named.{named}
use Rattle.bq_asm.specs.Text.{listing_text}
use Rattle.bq_asm.specs.Lines.{lines_of}
use Rattle.bq_asm.specs.Assembly.{Assembles}
use Rattle.bq_asm.specs.Faults.{FaultyLines}

-- the listing of a program assembles to that program
abbrev pub ListingAssembles : Type 0
ListingAssembles = (insns : List Insn) → is_well_formed insns ≡ true → AllFit insns → Assembles (listing_text insns) insns

-- a text stands for at most one list of instructions
abbrev pub TextHasOneProgram : Type 0
TextHasOneProgram = (text : List ℕ) (a b : List Insn) → Assembles text a → Assembles text b → a ≡ b

-- a text has at most one fault, with one line and one cause
abbrev pub TextHasOneFault : Type 0
TextHasOneFault = (text : List ℕ) (m n : ℕ) (c d : AssemblyCause) → FaultyLines (lines_of text) m c → FaultyLines (lines_of text) n d → (m ≡ n) × (c ≡ d)

-- a text that stands for instructions has no fault
abbrev pub NoAssemblyIsFaulty : Type 0
NoAssemblyIsFaulty = (text : List ℕ) (insns : List Insn) (line : ℕ) (c : AssemblyCause) → Assembles text insns → FaultyLines (lines_of text) line c → ⊥

-- each text stands for instructions or has a fault
abbrev pub EachTextIsJudged : Type 0
EachTextIsJudged = (text : List ℕ) → ((insns : List Insn) × Assembles text insns) ⊎ ((line : ℕ) × (c : AssemblyCause) × FaultyLines (lines_of text) line c)

-- if a text stands for instructions, they are well formed, and their numbers fit the types of their fields
abbrev pub ProgramsAreWellFormed : Type 0
ProgramsAreWellFormed = (text : List ℕ) (insns : List Insn) → Assembles text insns → (is_well_formed insns ≡ true) × AllFit insns

-- a first word that says a mnemonic is the name of the mnemonic
abbrev pub OneName : Type 0
OneName = (word : List ℕ) (m : Mnemonic) → named word ≡ Some m → word ≡ mnemonic_word m
