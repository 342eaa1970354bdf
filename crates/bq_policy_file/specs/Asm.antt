-- What `asm` writes in a form for the bytes of a text, and whether it accepts them.
use Rattle.std.specs.Prelude.{◌≡◌, ℕ, Bool, true, false, List, ◌++◌, ◌⊎◌, codes}
use Rattle.std.specs.Str.{IsUtf8}
use Rattle.hex.specs.Hex.{encode_lower}
use Rattle.bq_insn.specs.declared.Insn.{Insn}
use Rattle.bq_asm.specs.declared.fault.AssemblyCause.{AssemblyCause}
use Rattle.bq_asm.specs.declared.fault.AsmFault.TheVariants.{At}
use Rattle.bq_asm.specs.Causes.{assembly_fault_text}
use Rattle.bq_asm.specs.Lines.{lines_of}
use Rattle.bq_asm.specs.Assembly.{Assembles}
use Rattle.bq_asm.specs.Faults.{FaultyLines}
use Rattle.bq_policy_file.specs.declared.form.ProgramForm.{ProgramForm}
use Rattle.bq_policy_file.specs.Forms.{SpellsForm}
use Rattle.bq_words.specs.Refused.{refused_line}

-- a text assembles to a program, and what is written is the program's bytes in this form, as hex in lower case, and a line feed
pub record IsAssembled (form : ProgramForm) (text written : List ℕ) : Type 0 where
  pub is_text : IsUtf8 text
  pub insns : List Insn
  pub assembles : Assembles text insns
  pub bytes : List ℕ
  pub spells : SpellsForm form insns bytes
  pub line : written ≡ encode_lower bytes ++ codes "\n"

-- the bytes are no text
abbrev pub IsNoText : List ℕ → List ℕ → Type 0
IsNoText text written = (¬ (IsUtf8 text)) × (written ≡ refused_line (codes "text"))

-- the text has this fault
abbrev pub IsFaultyText : List ℕ → List ℕ → Type 0
IsFaultyText text written =
    IsUtf8 text × (line : ℕ) × (cause : AssemblyCause) × FaultyLines (lines_of text) line cause × (written ≡ refused_line (assembly_fault_text (At line cause)))

-- what is written for a text that is accepted, or for one that is not
abbrev pub AsmWrites : ProgramForm → List ℕ → Bool → List ℕ → Type 0
AsmWrites form text true written = IsAssembled form text written
AsmWrites form text false written = IsNoText text written ⊎ IsFaultyText text written
