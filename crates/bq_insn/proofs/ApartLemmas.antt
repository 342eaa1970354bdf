-- A program's bytes have no fault.
use Rattle.std.proofs.Common.{◌≡◌, ℕ, true, sym, ap, ◌∙◌, List, [], ◌∷◌, ◌++◌, append-nil, append_assoc, subst, arith}
use Rattle.std.specs.Prelude.{Option, Some, None}
use Rattle.std.specs.List.{flat_map, list_all}
use Rattle.std.proofs.lemmas.Bool.{and_parts}
use Rattle.bq_insn.specs.declared.Insn.{Insn}
use Rattle.bq_insn.specs.declared.slot.Slot.{Slot}
use Rattle.bq_insn.specs.declared.fault.DecodeCause.{DecodeCause}
use Rattle.bq_insn.specs.Spelling.{slot_bytes, spelled, is_insn, insn_bytes, spelling}
use Rattle.bq_insn.specs.Laws.{AllFit}
use Rattle.bq_insn.specs.Faults.{IsSlot, BeginsWith, FrontHasCause, cause_of, NoProgramIsFaulty}
use Rattle.bq_insn.proofs.SpelledSlotsLemmas.{head_of, after}
use Rattle.bq_insn.proofs.CleanLemmas.{spelled_is_clean}
use Rattle.bq_insn.proofs.UniqueLemmas.{IsRead, is_read, same_front, some_bytes, front_cancelled, one_spelling}

-- one slot has not both no cause and a cause
contradicts : (s t : Slot) (next : Option Slot) (c : DecodeCause) → s ≡ t → cause_of s next ≡ None → cause_of t next ≡ Some c → ⊥
contradicts s t next c e none some = let no : None ≡ Some c = sym (sym (ap (λ (x : Slot). cause_of x next) e) ∙ none) ∙ some in cc

-- slots that have no fault, whatever follows, are not the front of bytes with one
pub front_clean : (slots : List Slot) (i : Insn) (x : List ℕ) (s : Slot) (next : Option Slot) (c : DecodeCause)
    → IsRead slots i → ((n : Option Slot) → cause_of (head_of slots) (after slots n) ≡ None) → IsSlot s
    → BeginsWith (flat_map slot_bytes slots ++ x) s next → cause_of s next ≡ Some c
    → ⊥
front_clean [] i x s next c read none fits begins some = let one = read.some in omega arith
front_clean (u ∷ []) i x s None c read none fits begins some =
    let same =
    same_front u s x [] read.registers.0 fits.dst read.numbers.0 fits.offset read.numbers.1 fits.imm
    (begins ∙ sym (append-nil (slot_bytes s))) in
    contradicts u s None c same.0 (none None) some
front_clean (u ∷ []) i x s (Some t) c read none fits begins some =
    let same =
    same_front u s x (slot_bytes t ++ begins.1) read.registers.0 fits.dst read.numbers.0 fits.offset read.numbers.1
    fits.imm begins.2 in
    contradicts u s (Some t) c same.0 (none (Some t)) some
front_clean (u ∷ v ∷ rest) i x s None c read none fits begins some =
    let same =
    same_front u s (flat_map slot_bytes (v ∷ rest) ++ x) [] read.registers.0 fits.dst read.numbers.0 fits.offset
    read.numbers.1 fits.imm (begins ∙ sym (append-nil (slot_bytes s))) in
    absurd (let e = same.1 in cc)
front_clean (u ∷ v ∷ rest) i x s (Some t) c read none fits begins some =
    let same =
    same_front u s (flat_map slot_bytes (v ∷ rest) ++ x) (slot_bytes t ++ begins.1) read.registers.0 fits.dst read.numbers.0
    fits.offset read.numbers.1 fits.imm begins.2 in
    let registers = read.registers.2 in
    let numbers = read.numbers.2 in
    let second =
    same_front v t (flat_map slot_bytes rest ++ x) begins.1 registers.0 begins.0.dst numbers.0 begins.0.offset numbers.1
    begins.0.imm same.1 in
    contradicts u s (Some t) c same.0 (ap (λ (y : Slot). cause_of u (Some y)) (sym second.0) ∙ none None) some

-- no slot stands in front of nothing
no_front : (s : Slot) (next : Option Slot) → BeginsWith [] s next → ⊥
no_front s None e = cc
no_front s (Some t) e = let h = e.2 in cc

-- a program does not begin with instructions and then a fault
apart : (insns before : List Insn) (rest : List ℕ) (c : DecodeCause)
    → list_all is_insn insns ≡ true → AllFit insns → list_all is_insn before ≡ true → AllFit before
    → spelling insns ≡ spelling before ++ rest → FrontHasCause rest c
    → ⊥
apart [] [] rest c h f hb fb e front =
    no_front front.slot front.next (subst (λ (l : List ℕ). BeginsWith l front.slot front.next) (sym e) front.begins)
apart (i ∷ insns) [] rest c h f hb fb e front =
    let p = and_parts (is_insn i) (list_all is_insn insns) h in
    front_clean (spelled i) i (spelling insns) front.slot front.next c (is_read i p.0 f.0) (spelled_is_clean i p.0) front.is_slot
    (subst (λ (l : List ℕ). BeginsWith l front.slot front.next) (sym e) front.begins) front.cause_is
apart [] (b ∷ before) rest c h f hb fb e front =
    let p = and_parts (is_insn b) (list_all is_insn before) hb in
    some_bytes b (spelling before ++ rest) p.0 fb.0 (e ∙ append_assoc (insn_bytes b) (spelling before) rest)
apart (i ∷ insns) (b ∷ before) rest c h f hb fb e front =
    let p = and_parts (is_insn i) (list_all is_insn insns) h in
    let q = and_parts (is_insn b) (list_all is_insn before) hb in
    let e2 = e ∙ append_assoc (insn_bytes b) (spelling before) rest in
    let same = one_spelling i b (spelling insns) (spelling before ++ rest) p.0 q.0 f.0 fb.0 e2 in
    let left =
    front_cancelled (insn_bytes b) (spelling insns) (spelling before ++ rest)
    (ap (λ (x : Insn). insn_bytes x ++ spelling insns) (sym same) ∙ e2) in
    apart insns before rest c p.1 f.1 q.1 fb.1 left front

-- no slot of a program is faulty
pub no_program_is_faulty : NoProgramIsFaulty
no_program_is_faulty insns slot c h f fault =
    apart insns fault.before fault.rest c h f fault.are_insns fault.numbers fault.bytes_are fault.front
