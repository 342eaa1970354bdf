-- The lines of a listing with a comment behind each instruction.
use Rattle.std.proofs.Common.{◌≡◌, ℕ, zero, suc, ◌+◌, ◌-◌, ◌/◌, ◌%◌, ◌^◌, ◌<◌, ◌≤◌, List, [], ◌∷◌, ◌++◌, length, map, take, filter, Bool, true, false, cond, refl, sym, ap, ◌∙◌, arith, append_assoc, append-nil}
use Rattle.std.specs.Prelude.{◌&&◌, ◌==◌, not, nat_lt, codes, replicate, slice_index}
use Rattle.std.specs.List.{before_first, list_all, onto_first, position_or_len, slice_split}
use Rattle.std.specs.Fmt.{decimal}
use Rattle.std.proofs.lemmas.Bool.{and_from, and_parts}
use Rattle.std.proofs.lemmas.List.Elements.{filter-append}
use Rattle.hex.specs.Hex.{encode_with, encode_lower, lower_digits}
use Rattle.bq_insn.specs.declared.Insn.{Insn}
use Rattle.bq_insn.specs.Laws.{AllFit}
use Rattle.bq_insn.specs.Slots.{slots_of}
use Rattle.bq_insn.specs.Spelling.{insn_bytes, is_insn, slot_count}
use Rattle.bq_insn.proofs.CountLemmas.{slot_count-cons}
use Rattle.bq_words.proofs.WordLemmas.{words-blank}
use Rattle.bq_asm.specs.Lines.{is_blank, is_comment, line_of_words, parsed_line, words_between_blanks}
use Rattle.bq_asm.specs.Text.{line_body}
use Rattle.bq_asm.proofs.DigitLemmas.{list_all-append}
use Rattle.bq_asm.proofs.ListingLemmas.{is_line_byte, is_inner, decimal_inner, body_inner, inner_line_bytes, without_comment}
use Rattle.bq_policy_file.specs.Listed.{blanks_to, noted_line, noted_text}
use Rattle.bq_policy_file.proofs.LineLemmas.{AreClean, ended}
use Rattle.bq_policy_file.proofs.ListedLineLemmas.{bodies_parsed, body_no_mark}
use Rattle.bq_policy_file.proofs.MarkLemmas.{AreNoMarks}
use Rattle.bq_policy_file.proofs.ReadBackLemmas.{AreLines}

-- what is put in front of the first part leaves the parts behind as they were
onto_more : {X : Type 0} (x : X) (ps qs : List (List X)) → 0 < length ps → onto_first x (ps ++ qs) ≡ onto_first x ps ++ qs
onto_more x [] qs h = absurd (omega arith)
onto_more x (p ∷ ps) qs h = refl

-- a split gives one part at least
some_split : {X : Type 0} (p : X → Bool) (xs : List X) → 0 < length (slice_split p xs)
some_split {X} p [] = omega arith
some_split {X} p (x ∷ xs) = go (p x) (slice_split p xs)
  where
    go : (b : Bool) (ps : List (List X)) → 0 < length (cond b ([] ∷ ps) (onto_first x ps))
    go true ps = omega arith
    go false [] = omega arith
    go false (q ∷ ps) = omega arith

-- where a byte splits, the parts before it and those after it
split_append : {X : Type 0} (p : X → Bool) (xs : List X) (y : X) (ys : List X)
    → p y ≡ true → slice_split p (xs ++ y ∷ ys) ≡ slice_split p xs ++ slice_split p ys
split_append p [] y ys h = rw h refl
split_append p (x ∷ xs) y ys h = go (p x) (split_append p xs y ys h)
  where
    go : (b : Bool) → slice_split p (xs ++ y ∷ ys) ≡ slice_split p xs ++ slice_split p ys
        → cond b ([] ∷ slice_split p (xs ++ y ∷ ys)) (onto_first x (slice_split p (xs ++ y ∷ ys)))
        ≡ cond b ([] ∷ slice_split p xs) (onto_first x (slice_split p xs)) ++ slice_split p ys
    go true e = ap (λ ps. [] ∷ ps) e
    go false e = ap (onto_first x) e ∙ onto_more x (slice_split p xs) (slice_split p ys) (some_split p xs)

-- the words before and after a blank are the words of the whole
words_append : (xs ys : List ℕ) → words_between_blanks (xs ++ 32 ∷ ys) ≡ words_between_blanks xs ++ words_between_blanks ys
words_append xs ys =
    ap (filter (λ w. nat_lt 0 (length w))) (split_append is_blank xs 32 ys refl)
    ∙ filter-append (λ w. nat_lt 0 (length w)) (slice_split is_blank xs) (slice_split is_blank ys)

-- blanks have no words
no_words : (n : ℕ) → words_between_blanks (replicate n 32) ≡ []
no_words zero = refl
no_words (suc n) = words-blank is_blank 32 (replicate n 32) refl ∙ no_words n

-- blanks behind words say nothing
words_blanks : (xs : List ℕ) (n : ℕ) → words_between_blanks (xs ++ replicate n 32) ≡ words_between_blanks xs
words_blanks xs zero = ap words_between_blanks (append-nil xs)
words_blanks xs (suc n) = words_append xs (replicate n 32) ∙ ap (λ ws. words_between_blanks xs ++ ws) (no_words n) ∙ append-nil (words_between_blanks xs)

-- what stands before the first comment
before_note : (xs ys : List ℕ) → list_all is_inner xs ≡ true → before_first is_comment (xs ++ 59 ∷ ys) ≡ xs
before_note [] ys h = refl
before_note (x ∷ xs) ys h =
    let parts = and_parts (is_inner x) (list_all is_inner xs) h in
    let other = (and_parts (not (x == 59)) (is_line_byte x) parts.0).0 in
    let n = position_or_len is_comment (xs ++ 59 ∷ ys) in
    let one : 1 + n ≡ suc n = omega arith in
    ap (λ t. take (cond t (1 + n) 0) (x ∷ (xs ++ 59 ∷ ys))) other ∙ ap (λ k. take k (x ∷ (xs ++ 59 ∷ ys))) one
    ∙ ap (λ bs. x ∷ bs) (before_note xs ys parts.1)

-- blanks end no line and begin no comment
blanks_inner : (n : ℕ) → list_all is_inner (replicate n 32) ≡ true
blanks_inner zero = refl
blanks_inner (suc n) = blanks_inner n

-- a line says the same with blanks and a comment behind it
noted_parses : (body note : List ℕ) (n : ℕ) → list_all is_inner body ≡ true
    → parsed_line (body ++ (replicate n 32 ++ 59 ∷ note)) ≡ parsed_line body
noted_parses body note n h =
    let blanks = replicate n 32 in
    let before : before_first is_comment (body ++ (blanks ++ 59 ∷ note)) ≡ body ++ blanks =
    ap (before_first is_comment) (sym (append_assoc body blanks (59 ∷ note)))
    ∙ before_note (body ++ blanks) note (list_all-append is_inner body blanks h (blanks_inner n)) in
    ap (λ bs. line_of_words (words_between_blanks bs)) before ∙ ap line_of_words (words_blanks body n) ∙ ap (λ bs. line_of_words (words_between_blanks bs)) (sym (without_comment body h))

-- the byte at a place of a clean text is clean, and the hex of some bytes is:
index_clean : (t : List ℕ) (k : ℕ) → list_all is_line_byte t ≡ true → is_line_byte (slice_index t k) ≡ true
index_clean [] k h = refl
index_clean (b ∷ t) zero h = (and_parts (is_line_byte b) (list_all is_line_byte t) h).0
index_clean (b ∷ t) (suc k) h = index_clean t k (and_parts (is_line_byte b) (list_all is_line_byte t) h).1

hex_clean : (bytes : List ℕ) → list_all is_line_byte (encode_lower bytes) ≡ true
unfolding encode_with
hex_clean [] = refl
hex_clean (b ∷ bytes) =
    and_from (is_line_byte (slice_index lower_digits (b / 16)))
    (is_line_byte (slice_index lower_digits (b % 16)) && list_all is_line_byte (encode_lower bytes))
    (index_clean lower_digits (b / 16) refl)
    (and_from (is_line_byte (slice_index lower_digits (b % 16))) (list_all is_line_byte (encode_lower bytes))
    (index_clean lower_digits (b % 16) refl) (hex_clean bytes))

-- the comment on an instruction: its slot, and its bytes
abbrev note_of : ℕ → Insn → List ℕ
note_of slot i = codes "; " ++ (blanks_to 4 (decimal slot) ++ (decimal slot ++ (codes "  " ++ encode_lower (insn_bytes i))))

-- the comment on an instruction is clean
note_clean : (slot : ℕ) (i : Insn) → slot < 2 ^ 64 → list_all is_line_byte (note_of slot i) ≡ true
note_clean slot i h =
    let blanks = blanks_to 4 (decimal slot) in
    let hex = encode_lower (insn_bytes i) in
    list_all-append is_line_byte blanks (decimal slot ++ (codes "  " ++ hex))
    (inner_line_bytes blanks (blanks_inner (4 - length (decimal slot))))
    (list_all-append is_line_byte (decimal slot) (codes "  " ++ hex) (inner_line_bytes (decimal slot) (decimal_inner slot h))
    (hex_clean (insn_bytes i)))

-- the lines, without their ends
abbrev noted_body : ℕ → Insn → List ℕ
noted_body slot i = line_body i ++ (blanks_to 32 (line_body i) ++ note_of slot i)

-- the lines of the instructions with their comments, where the first stands at that slot
abbrev pub noted_lines : ℕ → List Insn → List (List ℕ)
noted_lines slot [] = []
noted_lines slot (i ∷ insns) = noted_body slot i ∷ noted_lines (slot + slots_of i) insns

-- the listing with comments is made of these lines
pub noted_ended : (slot : ℕ) (insns : List Insn) → noted_text slot insns ≡ ended (noted_lines slot insns)
noted_ended slot [] = refl
noted_ended slot (i ∷ insns) =
    let body = line_body i in
    let blanks = blanks_to 32 body in
    let note = note_of slot i in
    let room = blanks_to 4 (decimal slot) in
    let hex = encode_lower (insn_bytes i) in
    let comment : note ++ codes "\n" ≡ codes "; " ++ (room ++ (decimal slot ++ (codes "  " ++ (hex ++ codes "\n")))) =
    ap (λ t. codes "; " ++ t) (append_assoc room (decimal slot ++ (codes "  " ++ hex)) (codes "\n")
    ∙ ap (λ t. room ++ t) (append_assoc (decimal slot) (codes "  " ++ hex) (codes "\n"))) in
    let line : noted_line slot i ≡ noted_body slot i ++ codes "\n" =
    sym (append_assoc body (blanks ++ note) (codes "\n")
    ∙ ap (λ t. body ++ t) (append_assoc blanks note (codes "\n") ∙ ap (λ t. blanks ++ t) comment)) in
    λ n. line n ++ noted_ended (slot + slots_of i) insns n

-- the instructions that are left have room
abbrev HasRoom : ℕ → List Insn → Type 0
HasRoom slot insns = slot + slot_count insns < 2 ^ 64

-- where some instructions have room, those after the first have it
later_room : (slot : ℕ) (i : Insn) (insns : List Insn) → HasRoom slot (i ∷ insns) → HasRoom (slot + slots_of i) insns
later_room slot i insns h = omega (arith, h, slot_count-cons i insns)

-- the lines with comments are clean, are no marks, and say what the lines without comments say:
notes_clean : (slot : ℕ) (insns : List Insn) → HasRoom slot insns → list_all is_insn insns ≡ true → AllFit insns
    → AreClean (noted_lines slot insns)
notes_clean slot [] r h k = tt
notes_clean slot (i ∷ insns) r h k =
    let parts = and_parts (is_insn i) (list_all is_insn insns) h in
    let body = line_body i in
    let blanks = blanks_to 32 body in (
      list_all-append is_line_byte body (blanks ++ note_of slot i) (inner_line_bytes body (body_inner i parts.0 k.0))
          (list_all-append is_line_byte blanks (note_of slot i) (inner_line_bytes blanks (blanks_inner (32 - length body)))
          (note_clean slot i (omega (arith, r)))),
      notes_clean (slot + slots_of i) insns (later_room slot i insns r) parts.1 k.1,
    )

notes_no_marks : (slot : ℕ) (insns : List Insn) → AreNoMarks (noted_lines slot insns)
notes_no_marks slot [] = tt
notes_no_marks slot (i ∷ insns) =
    (body_no_mark i (blanks_to 32 (line_body i) ++ note_of slot i), notes_no_marks (slot + slots_of i) insns)

notes_parsed : (slot : ℕ) (insns : List Insn) → list_all is_insn insns ≡ true → AllFit insns
    → map parsed_line (noted_lines slot insns) ≡ map parsed_line (map line_body insns)
notes_parsed slot [] h k = refl
notes_parsed slot (i ∷ insns) h k =
    let parts = and_parts (is_insn i) (list_all is_insn insns) h in
    let note = 32 ∷ (blanks_to 4 (decimal slot) ++ (decimal slot ++ (codes "  " ++ encode_lower (insn_bytes i)))) in
    λ n.
    noted_parses (line_body i) note (32 - length (line_body i)) (body_inner i parts.0 k.0) n
    ∷ notes_parsed (slot + slots_of i) insns parts.1 k.1 n

-- the lines of a listing with comments are lines of its instructions
pub noted_are : (insns : List Insn) → slot_count insns ≤ 4096 → list_all is_insn insns ≡ true → AllFit insns
    → AreLines insns (noted_lines 0 insns)
noted_are insns few h k = record {
  clean = notes_clean 0 insns (omega (arith, few)) h k;
  no_marks = notes_no_marks 0 insns;
  stated = notes_parsed 0 insns h k ∙ sym (bodies_parsed insns h k);
}
