-- What `dis` writes for a text of hex, and whether it accepts it.
use Rattle.std.specs.Prelude.{◌≡◌, ℕ, Bool, true, false, List, ◌⊎◌, codes}
use Rattle.bq_insn.specs.declared.Insn.{Insn}
use Rattle.bq_insn.specs.declared.fault.DecodeCause.{DecodeCause}
use Rattle.bq_insn.specs.Causes.{decode_fault_text}
use Rattle.bq_insn.specs.declared.fault.DecodeFault.TheVariants.{At}
use Rattle.bq_insn.specs.Spelling.{spelling, is_well_formed}
use Rattle.bq_insn.specs.Laws.{AllFit}
use Rattle.bq_insn.specs.Faults.{IsDecodeFault}
use Rattle.bq_asm.specs.Text.{listing_text}
use Rattle.bq_policy_file.specs.HexText.{SpellsBytes, IsNoHex}
use Rattle.bq_words.specs.Refused.{refused_line}

-- a text spells the bytes of a program, and what is written is the program's listing
abbrev pub IsListed : List ℕ → List ℕ → Type 0
IsListed text written =
    (insns : List Insn) × SpellsBytes text (spelling insns) × (is_well_formed insns ≡ true) × AllFit insns × (written ≡ listing_text insns)

-- the bytes have this fault
abbrev pub IsFaultyProgram : List ℕ → List ℕ → Type 0
IsFaultyProgram text written =
    (bytes : List ℕ) × SpellsBytes text bytes × (slot : ℕ) × (cause : DecodeCause) × IsDecodeFault bytes (At slot cause)
    × (written ≡ refused_line (decode_fault_text (At slot cause)))

-- what is written for a text that is accepted, or for one that is not
abbrev pub DisWrites : List ℕ → Bool → List ℕ → Type 0
DisWrites text true written = IsListed text written
DisWrites text false written = (IsNoHex text × (written ≡ refused_line (codes "hex"))) ⊎ IsFaultyProgram text written
