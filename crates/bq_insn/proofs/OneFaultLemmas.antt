-- Bytes have at most one fault.
use Rattle.std.proofs.Common.{◌≡◌, ℕ, true, refl, sym, ap, ◌∙◌, inl, inr, List, [], ◌∷◌, ◌++◌, append-nil, append_assoc, subst}
use Rattle.std.specs.Prelude.{Option, Some, None}
use Rattle.std.specs.List.{list_all}
use Rattle.std.proofs.lemmas.Option.{same_Some}
use Rattle.std.proofs.lemmas.Bool.{and_parts}
use Rattle.bq_insn.specs.declared.Insn.{Insn}
use Rattle.bq_insn.specs.declared.slot.Slot.{Slot}
use Rattle.bq_insn.specs.declared.fault.DecodeCause.{DecodeCause}
use Rattle.bq_insn.specs.Spelling.{slot_bytes, spelled, is_insn, insn_bytes, spelling, slot_count}
use Rattle.bq_insn.specs.Laws.{Fits, AllFit}
use Rattle.bq_insn.specs.Faults.{IsSlot, BeginsWith, FrontHasCause, cause_of, is_program_length, BytesHaveOneFault}
use Rattle.bq_insn.proofs.CleanLemmas.{spelled_is_clean}
use Rattle.bq_insn.proofs.UniqueLemmas.{is_read, same_front, front_cancelled, one_spelling}
use Rattle.bq_insn.proofs.FaultLemmas.{fault_parts, not_both}
use Rattle.bq_insn.proofs.ApartLemmas.{front_clean}

-- nothing is left after two fronts, so they are one
same_next : (s t : Slot) (a b : Option Slot) (x : List ℕ) → IsSlot s → IsSlot t → BeginsWith x s a → BeginsWith x t b → (s ≡ t) × (a ≡ b)
same_next s t None None x f g p q =
    let same =
    same_front s t [] [] f.dst g.dst f.offset g.offset f.imm g.imm
    (append-nil (slot_bytes s) ∙ sym p ∙ q ∙ sym (append-nil (slot_bytes t))) in
    (same.0, refl)
same_next s t None (Some v) x f g p q =
    let same =
    same_front s t [] (slot_bytes v ++ q.1) f.dst g.dst f.offset g.offset f.imm g.imm
    (append-nil (slot_bytes s) ∙ sym p ∙ q.2) in
    let none = same.1 in
    absurd (cc)
same_next s t (Some u) None x f g p q =
    let same =
    same_front s t (slot_bytes u ++ p.1) [] f.dst g.dst f.offset g.offset f.imm g.imm
    (sym p.2 ∙ q ∙ sym (append-nil (slot_bytes t))) in
    let none = same.1 in
    absurd (cc)
same_next s t (Some u) (Some v) x f g p q =
    let same = same_front s t (slot_bytes u ++ p.1) (slot_bytes v ++ q.1) f.dst g.dst f.offset g.offset f.imm g.imm (sym p.2 ∙ q.2) in
    let second = same_front u v p.1 q.1 p.0.dst q.0.dst p.0.offset q.0.offset p.0.imm q.0.imm same.1 in
    (same.0, ap (λ (y : Slot). Some y) second.0)

-- a front has one least cause
one_cause : (x : List ℕ) (c d : DecodeCause) → FrontHasCause x c → FrontHasCause x d → c ≡ d
one_cause x c d p q =
    let same = same_next p.slot q.slot p.next q.next x p.is_slot q.is_slot p.begins q.begins in
    same_Some c d
    (sym p.cause_is ∙ ap (λ (s : Slot). cause_of s p.next) same.0 ∙ ap (λ (n : Option Slot). cause_of q.slot n) same.1 ∙ q.cause_is)

-- an instruction in range stands in front of no fault
no_fault_in_front : (i : Insn) (x : List ℕ) (c : DecodeCause) → is_insn i ≡ true → Fits i → FrontHasCause (insn_bytes i ++ x) c → ⊥
no_fault_in_front i x c h f front =
    front_clean (spelled i) i x front.slot front.next c (is_read i h f) (spelled_is_clean i h) front.is_slot front.begins front.cause_is

-- two ways to a fault in the same bytes are one
one_way : (xs ys : List Insn) (x y : List ℕ) (c d : DecodeCause) → list_all is_insn xs ≡ true → AllFit xs → list_all is_insn ys ≡ true → AllFit ys
    → spelling xs ++ x ≡ spelling ys ++ y → FrontHasCause x c → FrontHasCause y d → (xs ≡ ys) × (c ≡ d)
one_way [] [] x y c d ha fa hb fb e p q = (refl, one_cause y c d (subst (λ (l : List ℕ). FrontHasCause l c) e p) q)
one_way [] (b ∷ ys) x y c d ha fa hb fb e p q =
    let k = and_parts (is_insn b) (list_all is_insn ys) hb in
    absurd (no_fault_in_front b (spelling ys ++ y) c k.0 fb.0
    (subst (λ (l : List ℕ). FrontHasCause l c) (e ∙ append_assoc (insn_bytes b) (spelling ys) y) p))
one_way (a ∷ xs) [] x y c d ha fa hb fb e p q =
    let k = and_parts (is_insn a) (list_all is_insn xs) ha in
    absurd (no_fault_in_front a (spelling xs ++ x) d k.0 fa.0
    (subst (λ (l : List ℕ). FrontHasCause l d) (sym e ∙ append_assoc (insn_bytes a) (spelling xs) x) q))
one_way (a ∷ xs) (b ∷ ys) x y c d ha fa hb fb e p q =
    let k = and_parts (is_insn a) (list_all is_insn xs) ha in
    let l = and_parts (is_insn b) (list_all is_insn ys) hb in
    let e2 = sym (append_assoc (insn_bytes a) (spelling xs) x) ∙ e ∙ append_assoc (insn_bytes b) (spelling ys) y in
    let same = one_spelling a b (spelling xs ++ x) (spelling ys ++ y) k.0 l.0 fa.0 fb.0 e2 in
    let left =
    front_cancelled (insn_bytes b) (spelling xs ++ x) (spelling ys ++ y)
    (ap (λ (i : Insn). insn_bytes i ++ (spelling xs ++ x)) (sym same) ∙ e2) in
    let rest = one_way xs ys x y c d k.1 fa.1 l.1 fb.1 left p q in
    (ap (λ (i : Insn). i ∷ xs) same ∙ ap (λ (is : List Insn). b ∷ is) rest.0, rest.1)

-- two faults of the same bytes are one
pub one_fault : BytesHaveOneFault
one_fault bytes s t c d f g = elim (fault_parts bytes s c f) as (λ _. (s ≡ t) × (c ≡ d)) [
  | inl p ↦ elim (fault_parts bytes t d g) as (λ _. (s ≡ t) × (c ≡ d)) [
    | inl q ↦ (p.1 ∙ sym q.1, p.0 ∙ sym q.0)
    | inr q ↦ not_both (is_program_length bytes) q.0 p.2
  ]
  | inr p ↦ elim (fault_parts bytes t d g) as (λ _. (s ≡ t) × (c ≡ d)) [
    | inl q ↦ not_both (is_program_length bytes) p.0 q.2
    | inr q ↦
        let same =
        one_way p.1.before q.1.before p.1.rest q.1.rest c d p.1.are_insns p.1.numbers q.1.are_insns q.1.numbers
        (sym p.1.bytes_are ∙ q.1.bytes_are) p.1.front q.1.front in
        (p.1.slot_is ∙ ap slot_count same.0 ∙ sym q.1.slot_is, same.1)
  ]
]
