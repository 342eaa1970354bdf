-- The text of a policy: its marks, and then the listing of its program.
use Rattle.std.specs.Prelude.{◌≡◌, ℕ, ◌+◌, ◌-◌, Bool, true, false, List, [], ◌∷◌, ◌++◌, length, nat_lt, replicate, codes}
use Rattle.std.specs.Fmt.{decimal}
use Rattle.hex.specs.Hex.{encode_lower}
use Rattle.bq_insn.specs.declared.Insn.{Insn}
use Rattle.bq_insn.specs.Slots.{slots_of}
use Rattle.bq_insn.specs.Spelling.{insn_bytes}
use Rattle.bq_asm.specs.Text.{listing_text, line_body}
use Rattle.bq_policy_file.specs.declared.policy_source.PolicySource.{PolicySource}
use Rattle.bq_policy_file.specs.MarkLines.{AreMarks}

-- as many blanks as the text is short of the width
abbrev pub blanks_to : ℕ → List ℕ → List ℕ
blanks_to width text = replicate (width - length text) 32

-- a byte is ASCII
abbrev pub is_ascii : ℕ → Bool
is_ascii b = nat_lt b 128

-- a line, and beside it a comment: a slot and bytes
abbrev pub noted : List ℕ → ℕ → List ℕ → List ℕ
noted stated slot spelled =
    stated ++ (blanks_to 32 stated ++ (codes "; " ++ (blanks_to 4 (decimal slot) ++ (decimal slot ++ (codes "  " ++ (spelled ++ codes "\n"))))))

-- the line of an instruction, and beside it its slot and its bytes
abbrev pub noted_line : ℕ → Insn → List ℕ
noted_line slot insn = noted (line_body insn) slot (encode_lower (insn_bytes insn))

-- the listing with comments; the first instruction is at this slot
abbrev pub noted_text : ℕ → List Insn → List ℕ
noted_text slot [] = []
noted_text slot (insn ∷ insns) = noted_line slot insn ++ noted_text (slot + slots_of insn) insns

-- the listing of a program; if slots are asked for, each instruction has its slot and its bytes in a comment
abbrev pub program_text : Bool → List Insn → List ℕ
program_text false insns = listing_text insns
program_text true insns = noted_text 0 insns

-- the marks and then the listing
pub record IsListed (p : PolicySource) (has_slots : Bool) (text : List ℕ) : Type 0 where
  pub marks : List ℕ
  pub are_marks : AreMarks p marks
  pub text_is : text ≡ marks ++ program_text has_slots p.insns.items
