-- The lines and the words of a listing are read again, so a listing assembles to its program.
use Rattle.std.proofs.Common.{◌≡◌, ℕ, zero, suc, ◌+◌, ◌-◌, ◌^◌, ◌<◌, ◌≤◌, List, [], ◌∷◌, ◌++◌, length, take, map, get_or, refl, sym, ap, ◌∙◌, Bool, true, false, cond, arith, append_assoc, length-append, subst}
use Rattle.std.specs.Prelude.{ℤ, pos, negsuc, FitsSigned, not, ◌&&◌, ◌||◌, ◌==◌, codes, slice_index, nat_le, nat_lt}
use Rattle.std.specs.Int.{w16, w32}
use Rattle.std.specs.List.{AllByRecursion, list_all, slice_split, before_first, position_or_len}
use Rattle.std.specs.Map.{keys_of}
use Rattle.std.specs.Fmt.{decimal, signed_decimal}
use Rattle.std.specs.Str.Lines.{lines, lines_of_parts, strip_carriage_return}
use Rattle.std.proofs.lemmas.Fmt.{decimal_is_IsNumeral}
use Rattle.std.proofs.lemmas.Bool.{and_parts, not-true, leb-true, lt-ltb, ne_eqb, eqb-false}
use Rattle.std.proofs.lemmas.Int.{ints}
use Rattle.std.proofs.lemmas.List.{take_all}
use Rattle.std.proofs.lemmas.List.Elements.{All-from_recursion}
use Rattle.std.proofs.lemmas.List.Splits.{slice_split_at, length-slice_split}
use Rattle.bq_insn.specs.declared.Width.{Width}
use Rattle.bq_insn.specs.declared.Width.TheVariants.{W32, W64}
use Rattle.bq_insn.specs.declared.Operation.{Operation}
use Rattle.bq_insn.specs.declared.Operation.TheVariants as op
use Rattle.bq_insn.specs.declared.Condition.{Condition}
use Rattle.bq_insn.specs.declared.Condition.TheVariants as jump
use Rattle.bq_insn.specs.declared.Order.{Order}
use Rattle.bq_insn.specs.declared.Order.TheVariants.{Little, Big, Swapped}
use Rattle.bq_insn.specs.declared.Bits.{Bits}
use Rattle.bq_insn.specs.declared.Bits.TheVariants.{B8, B16, B32, B64}
use Rattle.bq_insn.specs.declared.Size.{Size}
use Rattle.bq_insn.specs.declared.Size.TheVariants.{Byte, Half, Word, Double}
use Rattle.bq_insn.specs.declared.Insn.{Insn}
use Rattle.bq_insn.specs.declared.Insn.TheVariants as insn
use Rattle.bq_insn.specs.Slots.{slots_of}
use Rattle.bq_insn.specs.Spelling.{is_insn, slot_count}
use Rattle.bq_insn.specs.Laws.{AllFit, Fits}
use Rattle.bq_words.proofs.WordLemmas.{EndsWord, words-blank, words-word}
use Rattle.bq_asm.specs.declared.mnemonic.Mnemonic.{Mnemonic}
use Rattle.bq_asm.specs.declared.mnemonic.Mnemonic.TheVariants as name
use Rattle.bq_asm.specs.declared.operand.Operand.{Operand}
use Rattle.bq_asm.specs.declared.operand.Operand.TheVariants as operand
use Rattle.bq_asm.specs.Names.{op_name, cond_name, width_name, size_name, order_name, bits_name, mnemonic_word}
use Rattle.bq_asm.specs.Text.{signed_text, operand_text, mnemonic_of, operands_of, after_first, operands_text, text_of_instruction, listing_text, line_body}
use Rattle.bq_asm.specs.Lines.{Line, Instruction, is_comment, is_blank, words_between_blanks, line_of_words, parsed_line, lines_of, last_word}
use Rattle.bq_asm.specs.Assembly.{slots_of_line, places_from, distance_to, AssemblesFrom, AreNewLabels}
use Rattle.bq_asm.specs.Laws.{ListingAssembles}
use Rattle.bq_asm.proofs.DigitLemmas.{is_digit, list_all-append, list_all-weaker, decimal_digits}
use Rattle.bq_asm.proofs.ListedWordsLemmas.{operands_good, listed_again}
use Rattle.bq_asm.proofs.WellFormedLemmas.{IsInRange}

-- an ASCII byte that ends no line
abbrev pub is_line_byte : ℕ → Bool
is_line_byte b = nat_lt b 128 && (not (b == 10) && not (b == 13))

-- an ASCII byte that ends no line and begins no comment
abbrev pub is_inner : ℕ → Bool
is_inner b = not (b == 59) && is_line_byte b

-- a byte of a word
abbrev is_plain : ℕ → Bool
is_plain b = not (is_blank b) && is_inner b

-- digits, and so numbers in decimal, are bytes of words:
digit_plain : (b : ℕ) → is_digit b ≡ true → is_plain b ≡ true
digit_plain b h =
    let low : 48 ≤ b = leb-true 48 b (and_parts (nat_le 48 b) (nat_le b 57) h).0 in
    let high : b ≤ 57 = leb-true b 57 (and_parts (nat_le 48 b) (nat_le b 57) h).1 in
    (λ i. not (ne_eqb b 32 (λ e. omega arith) i || (ne_eqb b 9 (λ e. omega arith) i || ne_eqb b 44 (λ e. omega arith) i))
    && (not (ne_eqb b 59 (λ e. omega arith) i)
    && (lt-ltb b 128 (omega arith) i && (not (ne_eqb b 10 (λ e. omega arith) i) && not (ne_eqb b 13 (λ e. omega arith) i)))))

decimal_plain : (n : ℕ) → n < 2 ^ 64 → list_all is_plain (decimal n) ≡ true
decimal_plain n h = list_all-weaker is_digit is_plain digit_plain (decimal n) (decimal_digits n h)

-- each part of a first word has only bytes of words, by cases:
op_plain : (o : Operation) → list_all is_plain (op_name o) ≡ true
op_plain o = elim o as (λ x. list_all is_plain (op_name x) ≡ true) [ op.Add ↦ refl | _ ↦ refl ]

cond_plain : (c : Condition) → list_all is_plain (cond_name c) ≡ true
cond_plain c = elim c as (λ x. list_all is_plain (cond_name x) ≡ true) [ jump.Equal ↦ refl | _ ↦ refl ]

width_plain : (w : Width) → list_all is_plain (width_name w) ≡ true
width_plain W32 = refl
width_plain W64 = refl

size_plain : (s : Size) → list_all is_plain (size_name s) ≡ true
size_plain Byte = refl
size_plain Half = refl
size_plain Word = refl
size_plain Double = refl

order_plain : (o : Order) → list_all is_plain (order_name o) ≡ true
order_plain Little = refl
order_plain Big = refl
order_plain Swapped = refl

bits_plain : (b : Bits) → list_all is_plain (bits_name b) ≡ true
bits_plain B8 = refl
bits_plain B16 = refl
bits_plain B32 = refl
bits_plain B64 = refl

-- the names of widths and sizes in bits are not empty:
width_some : (w : Width) → 0 < length (width_name w)
width_some W32 = omega arith
width_some W64 = omega arith

bits_some : (b : Bits) → 0 < length (bits_name b)
bits_some B8 = omega arith
bits_some B16 = omega arith
bits_some B32 = omega arith
bits_some B64 = omega arith

-- each first word has only bytes of words
name_plain : (m : Mnemonic) → list_all is_plain (mnemonic_word m) ≡ true
name_plain (name.Alu w o) = list_all-append is_plain (op_name o) (width_name w) (op_plain o) (width_plain w)
name_plain (name.MovSx w b) = list_all-append is_plain (width_name w) (codes "_" ++ bits_name b) (width_plain w) (bits_plain b)
name_plain (name.Neg w) = width_plain w
name_plain (name.End order b) = list_all-append is_plain (order_name order) (bits_name b) (order_plain order) (bits_plain b)
name_plain (name.Load size) = size_plain size
name_plain (name.LoadSigned size) = size_plain size
name_plain (name.StoreImm size) = size_plain size
name_plain (name.StoreReg size) = size_plain size
name_plain (name.Branch w c) = list_all-append is_plain (cond_name c) (width_name w) (cond_plain c) (width_plain w)
name_plain m = refl

-- a word of a listing: not empty, and without blanks
record IsWord (text : List ℕ) : Type 0 where
  some : 0 < length text
  plain : list_all is_plain text ≡ true

-- a number in a listing is a word, without a sign and with one, by cases:
decimal_word : (n : ℕ) → n < 2 ^ 64 → IsWord (decimal n)
decimal_word n h = record { some = (decimal_is_IsNumeral n h).0.0; plain = decimal_plain n h }

signed_decimal_word : (z : ℤ) → FitsSigned w32 z → IsWord (signed_decimal z)
signed_decimal_word (pos n) h = decimal_word n (omega (arith, ints, h))
signed_decimal_word (negsuc n) h = record { some = omega arith; plain = decimal_plain (suc n) (omega (arith, ints, h)) }

signed_word : (z : ℤ) → FitsSigned w32 z → IsWord (signed_text z)
signed_word (pos n) h = record { some = omega arith; plain = decimal_plain n (omega (arith, ints, h)) }
signed_word (negsuc n) h = record { some = omega arith; plain = decimal_plain (suc n) (omega (arith, ints, h)) }

near_word : (z : ℤ) → FitsSigned w16 z → IsWord (signed_text z)
near_word z h = signed_word z (omega (arith, ints, h))

-- the text of a register, and of a place in memory, is a word, by cases:
register_word : (r : ℕ) → r ≤ 10 → IsWord (operand_text (operand.Register r))
register_word r h = record { some = omega arith; plain = decimal_plain r (omega arith) }

memory_word : (r : ℕ) (z : ℤ) → r ≤ 10 → FitsSigned w16 z → IsWord (operand_text (operand.Memory r z))
memory_word r z h k = record {
  some = omega arith;
  plain =
      list_all-append is_plain (decimal r) (signed_text z ++ codes "]") (decimal_plain r (omega arith))
      (list_all-append is_plain (signed_text z) (codes "]") (near_word z k).plain refl);
}

-- the text of each operand in range is a word
operand_word : (o : Operand) → IsInRange o → IsWord (operand_text o)
operand_word (operand.Register r) h = register_word r h
operand_word (operand.Number z) h = signed_decimal_word z h
operand_word (operand.Wide n) h = decimal_word n h
operand_word (operand.Memory r z) h = memory_word r z h.0 h.1
operand_word (operand.Near z) h = near_word z h
operand_word (operand.Far z) h = signed_word z h

-- no byte of a word is a blank
no_blank : (w : List ℕ) → list_all is_plain w ≡ true → AllByRecursion (λ b. is_blank b ≡ false) w
no_blank [] h = tt
no_blank (b ∷ w) h =
    let parts = and_parts (is_plain b) (list_all is_plain w) h in
    (not-true (is_blank b) (and_parts (not (is_blank b)) (is_inner b) parts.0).0, no_blank w parts.1)

-- a word and then a blank or the end give that word, and then the words of the rest
first_word : (w rest : List ℕ) → IsWord w → EndsWord is_blank rest → words_between_blanks (w ++ rest) ≡ w ∷ words_between_blanks rest
first_word w rest h end = words-word is_blank w rest h.some (All-from_recursion (λ b. is_blank b ≡ false) w (no_blank w h.plain)) end

-- the text of the operands after the first begins with a blank or is empty
after_ends : (os : List Operand) → EndsWord is_blank (after_first os)
after_ends [] = tt
after_ends (o ∷ os) = refl

-- the words of operands are the texts of these operands, after the first one and from the first on:
words_after : (os : List Operand) → AllByRecursion IsInRange os → words_between_blanks (after_first os) ≡ map operand_text os
words_after [] h = refl
words_after (o ∷ os) h =
    words-blank is_blank 44 (32 ∷ (operand_text o ++ after_first os)) refl
    ∙ words-blank is_blank 32 (operand_text o ++ after_first os) refl
    ∙ first_word (operand_text o) (after_first os) (operand_word o h.0) (after_ends os)
    ∙ ap (λ ws. operand_text o ∷ ws) (words_after os h.1)

words_operands : (os : List Operand) → AllByRecursion IsInRange os → words_between_blanks (operands_text os) ≡ map operand_text os
words_operands [] h = refl
words_operands (o ∷ os) h =
    words-blank is_blank 32 (operand_text o ++ after_first os) refl
    ∙ first_word (operand_text o) (after_first os) (operand_word o h.0) (after_ends os)
    ∙ ap (λ ws. operand_text o ∷ ws) (words_after os h.1)

-- the text of all operands begins with a blank or is empty
operands_end : (os : List Operand) → EndsWord is_blank (operands_text os)
operands_end [] = tt
operands_end (o ∷ os) = refl

-- no first word is empty
name_some : (m : Mnemonic) → 0 < length (mnemonic_word m)
name_some (name.Alu w o) = let sum = length-append (op_name o) (width_name w) in let two = width_some w in omega (arith, sum, two)
name_some (name.MovSx w b) = omega arith
name_some (name.Neg w) = omega arith
name_some (name.End order b) = let sum = length-append (order_name order) (bits_name b) in let two = bits_some b in omega (arith, sum, two)
name_some (name.Load size) = omega arith
name_some (name.LoadSigned size) = omega arith
name_some (name.StoreImm size) = omega arith
name_some (name.StoreReg size) = omega arith
name_some (name.Branch w c) = let sum = length-append (cond_name c) (width_name w) in let two = width_some w in omega (arith, sum, two)
name_some m = omega arith

-- the words of an instruction's line are its first word and the texts of its operands
words_of-body : (i : Insn) → AllByRecursion IsInRange (operands_of i)
    → words_between_blanks (line_body i) ≡ mnemonic_word (mnemonic_of i) ∷ map operand_text (operands_of i)
words_of-body i h =
    let m = mnemonic_of i in
    first_word (mnemonic_word m) (operands_text (operands_of i)) (record { some = name_some m; plain = name_plain m })
    (operands_end (operands_of i))
    ∙ ap (λ ws. mnemonic_word m ∷ ws) (words_operands (operands_of i) h)

-- the bytes of a word end no line and begin no comment
plain_inner : (w : List ℕ) → list_all is_plain w ≡ true → list_all is_inner w ≡ true
plain_inner w h = list_all-weaker is_plain is_inner (λ b k. (and_parts (not (is_blank b)) (is_inner b) k).1) w h

-- the digits of a number end no line and begin no comment
pub decimal_inner : (n : ℕ) → n < 2 ^ 64 → list_all is_inner (decimal n) ≡ true
decimal_inner n h = plain_inner (decimal n) (decimal_plain n h)

-- operands, after the first one and from the first on, end no line and begin no comment:
after_inner : (os : List Operand) → AllByRecursion IsInRange os → list_all is_inner (after_first os) ≡ true
after_inner [] h = refl
after_inner (o ∷ os) h =
    list_all-append is_inner (operand_text o) (after_first os) (plain_inner (operand_text o) (operand_word o h.0).plain)
    (after_inner os h.1)

operands_inner : (os : List Operand) → AllByRecursion IsInRange os → list_all is_inner (operands_text os) ≡ true
operands_inner [] h = refl
operands_inner (o ∷ os) h =
    list_all-append is_inner (operand_text o) (after_first os) (plain_inner (operand_text o) (operand_word o h.0).plain)
    (after_inner os h.1)

-- the line of an instruction, before its end, ends no line and begins no comment
pub body_inner : (i : Insn) → is_insn i ≡ true → Fits i → list_all is_inner (line_body i) ≡ true
body_inner i h k =
    list_all-append is_inner (mnemonic_word (mnemonic_of i)) (operands_text (operands_of i))
    (plain_inner (mnemonic_word (mnemonic_of i)) (name_plain (mnemonic_of i)))
    (operands_inner (operands_of i) (operands_good i h k))

-- an inner byte begins it
pub body_begins : (i : Insn) → (b : ℕ) × (rest : List ℕ) × (line_body i ≡ b ∷ rest) × (is_inner b ≡ true)
body_begins i =
    let m = mnemonic_of i in
    go (mnemonic_word m) (name_some m) (plain_inner (mnemonic_word m) (name_plain m))
  where
    go : (name : List ℕ) → 0 < length name → list_all is_inner name ≡ true
        → (b : ℕ) × (rest : List ℕ) × (name ++ operands_text (operands_of i) ≡ b ∷ rest) × (is_inner b ≡ true)
    go [] some h = absurd (omega arith)
    go (b ∷ bs) some h = (b, bs ++ operands_text (operands_of i), refl, (and_parts (is_inner b) (list_all is_inner bs) h).0)

-- a text in which no comment begins stays whole:
no_comment : (bs : List ℕ) → list_all is_inner bs ≡ true → position_or_len is_comment bs ≡ length bs
no_comment [] h = refl
no_comment (b ∷ bs) h =
    let parts = and_parts (is_inner b) (list_all is_inner bs) h in
    let rest = no_comment bs parts.1 in
    ap (λ t. cond t (1 + position_or_len is_comment bs) 0) (and_parts (not (b == 59)) (is_line_byte b) parts.0).0
    ∙ (let sum : 1 + position_or_len is_comment bs ≡ length (b ∷ bs) = omega (arith, rest) in sum)

-- what stands before the first comment of such a text is all of it
pub without_comment : (bs : List ℕ) → list_all is_inner bs ≡ true → before_first is_comment bs ≡ bs
without_comment bs h = ap (λ n. take n bs) (no_comment bs h) ∙ take_all (length bs) bs (omega arith)

-- the instruction that a line says, by its words
parsed_line-body : (i : Insn) → is_insn i ≡ true → Fits i
    → parsed_line (line_body i) ≡ Instruction (mnemonic_word (mnemonic_of i)) (map operand_text (operands_of i))
parsed_line-body i h k =
    ap (λ bs. line_of_words (words_between_blanks bs)) (without_comment (line_body i) (body_inner i h k))
    ∙ ap line_of_words (words_of-body i (operands_good i h k)) ∙ lone i
  where
    lone : (i : Insn)
        → line_of_words (mnemonic_word (mnemonic_of i) ∷ map operand_text (operands_of i))
        ≡ Instruction (mnemonic_word (mnemonic_of i)) (map operand_text (operands_of i))
    lone (insn.Alu w o d src) = refl
    lone (insn.MovSx w b d s) = refl
    lone (insn.Neg w d) = refl
    lone (insn.End order b d) = refl
    lone (insn.Load size signed d s off) = refl
    lone (insn.StoreImm size d off n) = refl
    lone (insn.StoreReg size d off s) = refl
    lone (insn.Imm64 d v) = refl
    lone (insn.MapRef d n) = refl
    lone (insn.Goto off) = refl
    lone (insn.Goto32 n) = refl
    lone (insn.Branch w c d src off) = refl
    lone (insn.Call n) = refl
    lone insn.Exit = refl

-- bytes that end no line and begin no comment end no line
pub inner_line_bytes : (bs : List ℕ) → list_all is_inner bs ≡ true → list_all is_line_byte bs ≡ true
inner_line_bytes bs h = list_all-weaker is_inner is_line_byte (λ b k. (and_parts (not (b == 59)) (is_line_byte b) k).1) bs h

-- bytes that end no line have no line feed and no carriage return, by cases:
no_feed : (bs : List ℕ) → list_all is_line_byte bs ≡ true → AllByRecursion (λ b. (b == 10) ≡ false) bs
no_feed [] h = tt
no_feed (b ∷ bs) h =
    let parts = and_parts (is_line_byte b) (list_all is_line_byte bs) h in
    let rest = (and_parts (nat_lt b 128) (not (b == 10) && not (b == 13)) parts.0).1 in
    (not-true (b == 10) (and_parts (not (b == 10)) (not (b == 13)) rest).0, no_feed bs parts.1)

no_return : (bs : List ℕ) (k : ℕ) → list_all is_line_byte bs ≡ true → get_or bs k 0 ≡ 13 → ⊥
no_return [] k h e = omega arith
no_return (b ∷ bs) zero h e =
    let parts = and_parts (is_line_byte b) (list_all is_line_byte bs) h in
    let rest = (and_parts (nat_lt b 128) (not (b == 10) && not (b == 13)) parts.0).1 in
    eqb-false b 13 (not-true (b == 13) (and_parts (not (b == 10)) (not (b == 13)) rest).1) e
no_return (b ∷ bs) (suc k) h e = no_return bs k (and_parts (is_line_byte b) (list_all is_line_byte bs) h).1 e

-- the first of some parts is a line, and the others are the lines after it
parts_more : (line : List ℕ) (parts : List (List ℕ)) → 0 < length parts
    → lines_of_parts (line ∷ parts) ≡ strip_carriage_return line ∷ lines_of_parts parts
parts_more line [] h = absurd (omega arith)
parts_more line (p ∷ parts) h = refl

-- a line with its end, and the lines after it
pub line_first : (line rest : List ℕ) → list_all is_line_byte line ≡ true → lines (line ++ 10 ∷ rest) ≡ line ∷ lines rest
line_first line rest h =
    let feed = λ (b : ℕ). b == 10 in
    let more : 0 < length (slice_split feed rest) = omega (arith, length-slice_split feed rest) in
    let kept : strip_carriage_return line ≡ line =
    ap (λ t. cond t (take (length line - 1) line) line)
    (ne_eqb (slice_index line (length line - 1)) 13 (no_return line (length line - 1) h)) in
    ap lines_of_parts (slice_split_at feed line 10 rest (All-from_recursion (λ b. (b == 10) ≡ false) line (no_feed line h)) refl)
    ∙ parts_more line (slice_split feed rest) more ∙ ap (λ b. b ∷ lines rest) kept

-- what the line of an instruction in a listing says: its first word and the texts of its operands
abbrev listed : Insn → Line
listed i = Instruction (mnemonic_word (mnemonic_of i)) (map operand_text (operands_of i))

-- the lines of a listing say one instruction after another
lines_of-listing : (insns : List Insn) → list_all is_insn insns ≡ true → AllFit insns → lines_of (listing_text insns) ≡ map listed insns
lines_of-listing [] h k = refl
lines_of-listing (i ∷ insns) h k =
    let parts = and_parts (is_insn i) (list_all is_insn insns) h in
    let m = mnemonic_word (mnemonic_of i) in
    let os = operands_text (operands_of i) in
    let rest = listing_text insns in
    let regrouped : text_of_instruction i ++ rest ≡ line_body i ++ 10 ∷ rest =
    append_assoc m (os ++ codes "\n") rest ∙ ap (λ bs. m ++ bs) (append_assoc os (codes "\n") rest)
    ∙ sym (append_assoc m os (10 ∷ rest)) in
    let inner = body_inner i parts.0 k.0 in
    ap (λ bs. map parsed_line (lines bs)) regrouped
    ∙ ap (map parsed_line) (line_first (line_body i) rest (inner_line_bytes (line_body i) inner))
    ∙ (λ n. parsed_line-body i parts.0 k.0 n ∷ lines_of-listing insns parts.1 k.1 n)

-- a listing sets no label
no_places : (slot : ℕ) (insns : List Insn) → places_from slot (map listed insns) ≡ []
no_places slot [] = refl
no_places slot (i ∷ insns) = no_places (slot + slots_of_line (listed i)) insns

-- from any slot on, and with any labels, the lines of a listing say the listed instructions
listing_assembles_from : (places : List (List ℕ × ℕ)) (slot : ℕ) (insns : List Insn)
    → list_all is_insn insns ≡ true → AllFit insns → AssemblesFrom places slot (map listed insns) insns
listing_assembles_from places slot [] h k = tt
listing_assembles_from places slot (i ∷ insns) h k =
    let parts = and_parts (is_insn i) (list_all is_insn insns) h in (
      listed_again i (distance_to places slot (last_word (map operand_text (operands_of i)))) parts.0 k.0,
      listing_assembles_from places (slot + slots_of i) insns parts.1 k.1,
    )

-- the listing of a program assembles to that program
pub listing_assembles : ListingAssembles
listing_assembles insns h k =
    let parts = and_parts (list_all is_insn insns) (nat_le 1 (slot_count insns) && nat_le (slot_count insns) 4096) h in
    let bounds = and_parts (nat_le 1 (slot_count insns)) (nat_le (slot_count insns) 4096) parts.1 in
    let same = lines_of-listing insns parts.0 k in
    record {
      labels =
          subst (λ ls. AreNewLabels [] (keys_of (places_from 0 ls))) (sym same)
          (subst (λ ps. AreNewLabels [] (keys_of ps)) (sym (no_places 0 insns)) tt);
      assembles =
          subst (λ ls. AssemblesFrom (places_from 0 ls) 0 ls insns) (sym same)
          (listing_assembles_from (places_from 0 (map listed insns)) 0 insns parts.0 k);
      some = leb-true 1 (slot_count insns) bounds.0;
      few = leb-true (slot_count insns) 4096 bounds.1;
    }
