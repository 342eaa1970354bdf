-- The instruction at the front of bytes.
use Rattle.std.proofs.Common.{◌≡◌, ℕ, ◌*◌, true, refl, sym, ap, ◌∙◌, inl, inr, List, [], ◌∷◌, ◌++◌, length, drop, length-append, arith}
use Rattle.std.specs.Prelude.{Option, Some, None}
use Rattle.std.specs.List.{flat_map}
use Rattle.std.proofs.lemmas.List.{drop_at}
use Rattle.bq_insn.specs.declared.Insn.{Insn}
use Rattle.bq_insn.specs.declared.Insn.TheVariants as insn
use Rattle.bq_insn.specs.declared.Source.TheVariants.{Imm, Reg}
use Rattle.bq_insn.specs.declared.slot.Slot.{Slot}
use Rattle.bq_insn.specs.Slots.{slots_of}
use Rattle.bq_insn.specs.Laws.{Fits}
use Rattle.bq_insn.specs.Spelling.{slot_bytes, spelled, is_insn, insn_bytes}
use Rattle.bq_insn.specs.Faults.{IsSlot, BeginsWith, HasFront}
use Rattle.bq_insn.proofs.ReadsLemmas.{Reads}

-- an instruction takes as many slots as spell it
pub slots_of-spelled : (i : Insn) → slots_of i ≡ length (spelled i)
slots_of-spelled (insn.Alu w o d (Imm n)) = refl
slots_of-spelled (insn.Alu w o d (Reg s)) = refl
slots_of-spelled (insn.Branch w o d (Imm n) off) = refl
slots_of-spelled (insn.Branch w o d (Reg s) off) = refl
slots_of-spelled i = refl

-- bytes of two slots and more begin with both
pub begins_with_two : (bytes rest : List ℕ) (s t : Slot) → bytes ≡ slot_bytes s ++ drop 8 bytes → rest ≡ drop 8 bytes
    → rest ≡ slot_bytes t ++ drop 8 rest → IsSlot t
    → BeginsWith bytes s (Some t)
begins_with_two bytes rest s t first same second fits =
    (fits, drop 8 rest, first ∙ ap (λ (x : List ℕ). slot_bytes s ++ x) (sym same ∙ second))

-- an instruction stands in front where its bytes do
front_by : (bytes : List ℕ) (i : Insn) (part rest : List ℕ) → is_insn i ≡ true → Fits i → insn_bytes i ≡ part
    → length part ≡ 8 * slots_of i → bytes ≡ part ++ rest
    → HasFront bytes i
front_by bytes i part rest ranged numbers spells len whole =
    let after : drop (8 * slots_of i) bytes ≡ rest = ap (drop (8 * slots_of i)) whole ∙ drop_at part rest (8 * slots_of i) len in
    record {
      is_insn = ranged;
      numbers = numbers;
      within = omega (arith, len, ap length whole, length-append part rest);
      bytes_are = whole ∙ ap (λ (x : List ℕ). x ++ rest) (sym spells) ∙ ap (λ (x : List ℕ). insn_bytes i ++ x) (sym after);
    }

-- in one slot
front_one : (bytes rest : List ℕ) (s : Slot) (i : Insn) → is_insn i ≡ true → Fits i → spelled i ≡ s ∷ []
    → bytes ≡ slot_bytes s ++ rest
    → HasFront bytes i
front_one bytes rest s i ranged numbers one whole =
    let slots : slots_of i ≡ 1 = slots_of-spelled i ∙ ap length one in
    front_by bytes i (slot_bytes s) rest ranged numbers (ap (flat_map slot_bytes) one) (ap (λ (n : ℕ). 8 * n) (sym slots)) whole

-- in two slots
front_two : (bytes rest : List ℕ) (s t : Slot) (i : Insn) → is_insn i ≡ true → Fits i → spelled i ≡ s ∷ t ∷ []
    → bytes ≡ slot_bytes s ++ (slot_bytes t ++ rest)
    → HasFront bytes i
front_two bytes rest s t i ranged numbers two whole =
    let slots : slots_of i ≡ 2 = slots_of-spelled i ∙ ap length two in
    front_by bytes i (slot_bytes s ++ slot_bytes t) rest ranged numbers (ap (flat_map slot_bytes) two)
    (ap (λ (n : ℕ). 8 * n) (sym slots)) whole

-- what is read of the front stands in front
pub has_front : (bytes : List ℕ) (s : Slot) (next : Option Slot) (i : Insn)
    → BeginsWith bytes s next → Reads s next i → Fits i → HasFront bytes i
has_front bytes s None i begins reads numbers = front_one bytes [] s i reads.0 numbers reads.1 begins
has_front bytes s (Some t) i begins reads numbers = elim reads.1 as (λ _. HasFront bytes i) [
  | inl one ↦ front_one bytes (slot_bytes t ++ begins.1) s i reads.0 numbers one begins.2
  | inr two ↦ front_two bytes begins.1 s t i reads.0 numbers two begins.2
]
