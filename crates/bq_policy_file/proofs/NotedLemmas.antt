-- What is written of one instruction, and of one more.
use Rattle.std.proofs.Common.{◌≡◌, ℕ, zero, suc, ◌+◌, ◌<◌, List, [], ◌∷◌, ◌++◌, length, take, get_or, sym, ap, ◌∙◌, arith, append_assoc, append-nil, true, add-one}
use Rattle.std.specs.Prelude.{◌&&◌, ◌==◌, not, codes}
use Rattle.std.specs.List.{list_all}
use Rattle.std.proofs.lemmas.Bool.{and_parts}
use Rattle.bq_insn.specs.declared.Insn.{Insn}
use Rattle.bq_insn.specs.Slots.{slots_of}
use Rattle.bq_insn.specs.Spelling.{is_insn, slot_count}
use Rattle.bq_insn.specs.Laws.{AllFit, Fits}
use Rattle.bq_insn.proofs.CountLemmas.{slot_count-cons}
use Rattle.bq_asm.specs.Names.{mnemonic_word}
use Rattle.bq_asm.specs.Text.{listing_text, mnemonic_of, operands_of, operands_text, line_body}
use Rattle.bq_policy_file.specs.Listed.{is_ascii, noted_line, noted_text}
use Rattle.bq_asm.proofs.DigitLemmas.{list_all-weaker}
use Rattle.bq_asm.proofs.ListingLemmas.{is_line_byte, is_inner, body_inner}

-- a listing of one instruction is its line
pub one_line : (i : Insn) → listing_text (i ∷ []) ≡ line_body i ++ 10 ∷ []
one_line i =
    let name = mnemonic_word (mnemonic_of i) in
    let operands = operands_text (operands_of i) in
    append-nil (name ++ (operands ++ codes "\n")) ∙ sym (append_assoc name operands (codes "\n"))

-- the lines of one instruction more
pub text_more : (slot : ℕ) (insns : List Insn) (k : ℕ) (d : Insn)
    → k < length insns
    → noted_text slot (take (suc k) insns)
    ≡ noted_text slot (take k insns) ++ noted_line (slot + slot_count (take k insns)) (get_or insns k d)
text_more slot [] k d h = absurd (omega arith)
text_more slot (i ∷ insns) zero d h = append-nil (noted_line slot i) ∙ ap (λ s. noted_line s i) (let e : slot ≡ slot + 0 = omega arith in e)
text_more slot (i ∷ insns) (suc k) d h =
    let there : slot + slots_of i + slot_count (take k insns) ≡ slot + slot_count (i ∷ take k insns) =
    omega (arith, slot_count-cons i (take k insns)) in
    ap (λ t. noted_line slot i ++ t) (text_more (slot + slots_of i) insns k d (omega arith))
    ∙ sym (append_assoc (noted_line slot i) (noted_text (slot + slots_of i) (take k insns))
    (noted_line (slot + slots_of i + slot_count (take k insns)) (get_or insns k d)))
    ∙ ap (λ s. noted_line slot i ++ noted_text (slot + slots_of i) (take k insns) ++ noted_line s (get_or insns k d)) there

-- one instruction of those that are well formed
pub fine_at : (insns : List Insn) (k : ℕ) (d : Insn) → k < length insns → list_all is_insn insns ≡ true → AllFit insns
    → (is_insn (get_or insns k d) ≡ true) × Fits (get_or insns k d)
fine_at [] k d l h fit = absurd (omega arith)
fine_at (i ∷ insns) zero d l h fit = ((and_parts (is_insn i) (list_all is_insn insns) h).0, fit.0)
fine_at (i ∷ insns) (suc k) d l h fit = fine_at insns k d (omega arith) (and_parts (is_insn i) (list_all is_insn insns) h).1 fit.1

-- the line of an instruction is ASCII
pub body_ascii : (i : Insn) → (is_insn i ≡ true) × Fits i → list_all is_ascii (line_body i) ≡ true
body_ascii i h =
    list_all-weaker is_inner is_ascii
    (λ b k. (and_parts (is_ascii b) (not (b == 10) && not (b == 13)) (and_parts (not (b == 59)) (is_line_byte b) k).1).0)
    (line_body i) (body_inner i h.0 h.1)

-- what is reported after one instruction more
pub noted_more : (insns : List Insn) (k : ℕ) (d : Insn) (reported line new : List ℕ) (slot : ℕ)
    → k < length insns → reported ≡ noted_text 0 (take k insns) → slot ≡ slot_count (take k insns)
    → line ≡ noted_line slot (get_or insns k d) → new ≡ reported ++ line
    → new ≡ noted_text 0 (take (k + 1) insns)
noted_more insns k d reported line new slot l so_far count is_line is_new =
    let here : slot ≡ 0 + slot_count (take k insns) =
    count ∙ (let e : slot_count (take k insns) ≡ 0 + slot_count (take k insns) = omega arith in e) in
    is_new ∙ (λ i. so_far i ++ (is_line ∙ ap (λ s. noted_line s (get_or insns k d)) here) i) ∙ sym (text_more 0 insns k d l)
    ∙ ap (λ n. noted_text 0 (take n insns)) (sym (add-one k))
