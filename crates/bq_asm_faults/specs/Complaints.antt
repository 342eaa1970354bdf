-- Which texts are complained of.
use Rattle.std.specs.Prelude.{◌==◌, ℕ, List, ◌++◌, Option, Some, None, codes, if◌then◌else◌}
use Rattle.std.specs.Fmt.{decimal}
use Rattle.std.specs.Str.{IsUtf8}
use Rattle.bq_insn.specs.Appending.{StartsWith}
use Rattle.bq_insn.specs.declared.Insn.{Insn}
use Rattle.bq_asm.specs.declared.fault.AssemblyCause.{AssemblyCause}
use Rattle.bq_asm.specs.Lines.{lines_of}
use Rattle.bq_asm.specs.Assembly.{Assembles}
use Rattle.bq_asm.specs.Faults.{FaultyLines}

-- the text is UTF-8, and assembles to instructions
abbrev pub IsAssembly : List ℕ → Type 0
IsAssembly text = IsUtf8 text × ((insns : List Insn) × Assembles text insns)

-- there is no complaint exactly if the text assembles
abbrev pub ComplainsOf : {S : Type 0} → List ℕ → Option S → Type 0
ComplainsOf text None = IsAssembly text
ComplainsOf text (Some reported) = ¬ (IsAssembly text)

-- the beginning of a complaint of a line; lines are counted from 1, and line 0 means that the text has no instruction
abbrev pub line_beginning : ℕ → List ℕ
line_beginning line = if line == 0 then codes "the text has no instruction" else codes "line " ++ (decimal line ++ codes ": ")

-- the complaint of a text begins with the line of its fault
pub record NamesLine (text reported : List ℕ) : Type 0 where
  pub line : ℕ
  pub cause : AssemblyCause
  pub fault : FaultyLines (lines_of text) line cause
  pub begins : StartsWith (line_beginning line) reported
