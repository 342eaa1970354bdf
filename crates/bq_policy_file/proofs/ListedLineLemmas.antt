-- The lines of a listing, without comments and with them.
use Rattle.std.proofs.Common.{◌≡◌, ℕ, List, [], ◌∷◌, ◌++◌, map, true, false, None, refl, sym, ap, ◌∙◌, append_assoc}
use Rattle.std.specs.Prelude.{◌==◌, not, codes}
use Rattle.std.specs.List.{list_all}
use Rattle.std.proofs.lemmas.Bool.{and_parts, not-true, ne_eqb, eqb-false}
use Rattle.bq_insn.specs.declared.Insn.{Insn}
use Rattle.bq_insn.specs.Laws.{AllFit}
use Rattle.bq_insn.specs.Spelling.{is_insn}
use Rattle.bq_asm.specs.Lines.{parsed_line, lines_of}
use Rattle.bq_asm.specs.Names.{mnemonic_word}
use Rattle.bq_asm.specs.Text.{listing_text, mnemonic_of, operands_of, operands_text, line_body}
use Rattle.std.specs.Str.Lines.{lines}
use Rattle.bq_asm.proofs.ListingLemmas.{is_line_byte, is_inner, body_inner, body_begins, inner_line_bytes}
use Rattle.bq_policy_file.specs.Marks.{mark_words}
use Rattle.bq_policy_file.proofs.LineLemmas.{AreClean, ended, lines_ended}
use Rattle.bq_policy_file.proofs.MarkLemmas.{AreNoMarks}
use Rattle.bq_policy_file.proofs.ReadBackLemmas.{AreLines}

-- a line that begins with an inner byte is no mark
no_mark : (b : ℕ) (rest : List ℕ) → is_inner b ≡ true → mark_words (b ∷ rest) ≡ None
no_mark b rest h =
    let other : (b == 59) ≡ false = not-true (b == 59) (and_parts (not (b == 59)) (is_line_byte b) h).0 in
    let differs : (59 == b) ≡ false = ne_eqb 59 b (λ e. eqb-false b 59 other (sym e)) in
    rw differs refl

-- the line of an instruction, with something behind it
pub body_no_mark : (i : Insn) (behind : List ℕ) → mark_words (line_body i ++ behind) ≡ None
body_no_mark i behind =
    let begins = body_begins i in
    ap (λ bs. mark_words (bs ++ behind)) begins.2 ∙ no_mark begins.0 (begins.1 ++ behind) begins.3

-- a listing is these lines
pub listing_ended : (insns : List Insn) → listing_text insns ≡ ended (map line_body insns)
listing_ended [] = refl
listing_ended (i ∷ insns) =
    let name = mnemonic_word (mnemonic_of i) in
    λ n. sym (append_assoc name (operands_text (operands_of i)) (codes "\n")) n ++ listing_ended insns n

-- the lines of a listing are clean, and none is a mark:
bodies_clean : (insns : List Insn) → list_all is_insn insns ≡ true → AllFit insns → AreClean (map line_body insns)
bodies_clean [] h k = tt
bodies_clean (i ∷ insns) h k =
    let parts = and_parts (is_insn i) (list_all is_insn insns) h in
    (inner_line_bytes (line_body i) (body_inner i parts.0 k.0), bodies_clean insns parts.1 k.1)

bodies_no_marks : (insns : List Insn) → AreNoMarks (map line_body insns)
bodies_no_marks [] = tt
bodies_no_marks (i ∷ insns) =
    let begins = body_begins i in
    (ap mark_words begins.2 ∙ no_mark begins.0 begins.1 begins.3, bodies_no_marks insns)

-- the lines of a listing say what the texts of its instructions say
pub bodies_parsed : (insns : List Insn) → list_all is_insn insns ≡ true → AllFit insns
    → lines_of (listing_text insns) ≡ map parsed_line (map line_body insns)
bodies_parsed insns h k =
    ap (λ t. map parsed_line (lines t)) (listing_ended insns)
    ∙ ap (map parsed_line) (lines_ended (map line_body insns) (bodies_clean insns h k))

-- the lines of a listing without comments are lines of its instructions
pub plain_lines : (insns : List Insn) → list_all is_insn insns ≡ true → AllFit insns → AreLines insns (map line_body insns)
plain_lines insns h k = record {
  clean = bodies_clean insns h k;
  no_marks = bodies_no_marks insns;
  stated = sym (bodies_parsed insns h k);
}
