-- What it is that slots are read as an instruction, and the steps that all forms share.
use Rattle.std.proofs.Common.{◌≡◌, ℕ, ◌^◌, ◌<◌, true, false, sym, ap, ◌∙◌, inl, ◌⊎◌, [], ◌∷◌}
use Rattle.std.specs.Prelude.{◌&&◌, ◌||◌, nat_lt, Option, Some, None}
use Rattle.std.specs.Int.{w16, w32}
use Rattle.std.proofs.lemmas.Int.{of_z-to_z}
use Rattle.std.proofs.lemmas.Bool.{and_from, or_parts}
use Rattle.bq_insn.specs.declared.Insn.{Insn}
use Rattle.bq_insn.specs.declared.form.Form.{Form}
use Rattle.bq_insn.specs.declared.slot.Slot.{Slot}
use Rattle.bq_insn.specs.Table.{opcode_of}
use Rattle.bq_insn.specs.Uses.{uses_of}
use Rattle.bq_insn.specs.Spelling.{slot, spelled, is_insn, is_register, word16, word32}
use Rattle.bq_insn.specs.Reading.{signed16, signed32}
use Rattle.bq_insn.proofs.FaultLemmas.{IsClean, kept, no_strays_is_kept, same_slot, register_of}

-- the slots available spell the instruction: the first, or both
abbrev pub IsSpelledBy : Slot → Option Slot → Insn → Type 0
IsSpelledBy s None i = spelled i ≡ s ∷ []
IsSpelledBy s (Some t) i = (spelled i ≡ s ∷ []) ⊎ (spelled i ≡ s ∷ t ∷ [])

-- an instruction in range that these slots spell
abbrev pub Reads : Slot → Option Slot → Insn → Type 0
Reads s next i = (is_insn i ≡ true) × IsSpelledBy s next i

-- one slot that spells an instruction does so whatever follows
by_one : (s : Slot) (next : Option Slot) (i : Insn) → spelled i ≡ s ∷ [] → IsSpelledBy s next i
by_one s None i h = h
by_one s (Some t) i h = inl h

-- the bits of a field come back from the signed number
pub word16_of_signed16 : (n : ℕ) → n < 2 ^ 16 → word16 (signed16 n) ≡ n
word16_of_signed16 n h = of_z-to_z w16 n h

-- the bits of a field come back from the signed number
pub word32_of_signed32 : (n : ℕ) → n < 2 ^ 32 → word32 (signed32 n) ≡ n
word32_of_signed32 n h = of_z-to_z w32 n h

-- the fields that a form uses, and zeros
abbrev pub cleaned_slot : Form → Slot → Slot
cleaned_slot f s =
    slot (opcode_of f) (kept (uses_of f).dst s.dst) (kept (uses_of f).src s.src) (kept (uses_of f).offset s.offset)
    (kept (uses_of f).imm s.imm)

-- an instruction of one slot is read where it is in range and spelled by what its form keeps
pub reads_by : (f : Form) (s : Slot) (next : Option Slot) (i : Insn)
    → s.opcode ≡ opcode_of f → IsClean f s next → is_insn i ≡ true → spelled i ≡ cleaned_slot f s ∷ []
    → Reads s next i
reads_by f s next i opcode clean ranged e =
    (ranged, by_one s next i (e ∙ ap (λ (x : Slot). x ∷ []) (no_strays_is_kept f s (opcode_of f) (sym opcode) clean.fields)))

-- slots are equal field by field
pub one_slot : (o d r f i o' d' r' f' i' : ℕ) → o ≡ o' → d ≡ d' → r ≡ r' → f ≡ f' → i ≡ i' → slot o d r f i ∷ [] ≡ slot o' d' r' f' i' ∷ []
one_slot o d r f i o' d' r' f' i' a b c e g = ap (λ (x : Slot). x ∷ []) (same_slot (slot o' d' r' f' i') o d r f i a b c e g)

-- two fields that name registers
pub two_registers : (d r : ℕ) → (nat_lt 10 d || nat_lt 10 r) ≡ false → (is_register d && is_register r) ≡ true
two_registers d r h =
    let parts = or_parts (nat_lt 10 d) (nat_lt 10 r) h in
    and_from (is_register d) (is_register r) (register_of d parts.0) (register_of r parts.1)

-- one field that names a register
pub one_register : (d : ℕ) → (nat_lt 10 d || false) ≡ false → is_register d ≡ true
one_register d h = register_of d (or_parts (nat_lt 10 d) false h).0
