-- The lines that tell the instructions of a run.
use Rattle.std.specs.Prelude.{◌≡◌, ℕ, zero, suc, Bool, true, false, List, [], ◌∷◌, ◌++◌, Option, Some, None, codes, if◌then◌else◌, slice_index, ◌==◌}
use Rattle.std.specs.Fmt.{decimal, digits}
use Rattle.bq_insn.specs.declared.Insn.{Insn}
use Rattle.bq_asm.specs.Text.{listing_text}
use Rattle.bq_bpf.specs.Steps.{instruction_at}
use Rattle.bq_verify.specs.Accepted.{Accepted}
use Rattle.bq_interp.specs.declared.traced.Snapshot.{Snapshot}

-- a register with the word that it has now, in decimal and in hex
abbrev pub register_word_text : ℕ → ℕ → List ℕ
register_word_text register word = codes "    r" ++ (decimal register ++ (codes " = " ++ (decimal word ++ (codes " (0x" ++ (digits 16 false word ++ codes ")\n")))))

-- a line for each of the first registers, this many of them, whose words differ
abbrev pub changes_below : ℕ → List ℕ → List ℕ → List ℕ
changes_below zero before now = []
changes_below (suc n) before now =
    changes_below n before now ++ (if slice_index before n == slice_index now n then [] else register_word_text n (slice_index now n))

-- the registers that an instruction changed, by the snapshot at the next one; empty for the last instruction
abbrev pub changes_to : Snapshot → List Snapshot → List ℕ
changes_to m [] = []
changes_to m (next ∷ rest) = changes_below 11 m.registers next.registers

-- the canonical text of the instruction that begins at a slot
abbrev pub slot_listing : Option Insn → List ℕ
slot_listing None = codes "\n"
slot_listing (Some insn) = listing_text (insn ∷ [])

-- the slot of a step, its instruction, and what that changed
abbrev pub step_text : Accepted → Snapshot → List Snapshot → List ℕ
step_text program m after = codes "slot " ++ (decimal m.slot ++ (codes ": " ++ (slot_listing (instruction_at program.slots m.slot) ++ changes_to m after)))

-- the text of each step in order; the place in the policy's text may come before it
abbrev pub AreSteps : Accepted → List Snapshot → List ℕ → Type 0
AreSteps program [] text = text ≡ []
AreSteps program (m ∷ after) text =
    (place rest : List ℕ) × (text ≡ place ++ (step_text program m after ++ rest)) × AreSteps program after rest

-- the steps are shown if that is asked for, and nothing of them otherwise
abbrev pub ReportsSteps : Bool → Accepted → List Snapshot → List ℕ → Type 0
ReportsSteps false program snapshots text = text ≡ []
ReportsSteps true program snapshots text = AreSteps program snapshots text
