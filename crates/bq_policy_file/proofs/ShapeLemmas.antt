-- The shapes that the mark of maps names.
use Rattle.std.proofs.Common.{◌≡◌, ℕ, ◌^◌, ◌<◌, ◌≤◌, List, [], ◌∷◌, ◌++◌, length, map, true, false, Some, None, refl, ap, ◌∙◌, arith, append-nil}
use Rattle.std.specs.Prelude.{nat_lt, nat_le, ◌&&◌, ◌==◌, if◌then◌else◌}
use Rattle.std.specs.List.{AllByRecursion, list_all}
use Rattle.std.specs.Fmt.{decimal}
use Rattle.std.specs.Str.Parse.{digits_value}
use Rattle.std.proofs.lemmas.Bool.{and_parts, leb-true, lt-ltb, ne_eqb}
use Rattle.std.proofs.lemmas.Fmt.{decimal_is_IsNumeral}
use Rattle.std.proofs.lemmas.List.Elements.{All-from_recursion}
use Rattle.std.proofs.lemmas.List.Splits.{slice_split_at, slice_split_none}
use Rattle.bq_bpf.specs.declared.shape.MapShape.{MapShape}
use Rattle.bq_asm.proofs.DigitLemmas.{is_digit, decimal_digits, all_below}
use Rattle.bq_words.specs.Words.{parts}
use Rattle.bq_policy_file.specs.ShapesText.{NamesShapes, shape_number, numbers_in, numbers_of, both_numbers, pair_of}
use Rattle.bq_policy_file.specs.MarkLines.{shape_text, more_maps}

-- a digit is one of the bytes from 48 to 57
digit_below : (b : ℕ) → is_digit b ≡ true → (48 ≤ b) × (b ≤ 57)
digit_below b h =
    let both = and_parts (nat_le 48 b) (nat_le b 57) h in
    (leb-true 48 b both.0, leb-true b 57 both.1)

-- a text of digits does not have a byte that is no digit
no_byte : (mark : ℕ) → ((b : ℕ) → is_digit b ≡ true → (b == mark) ≡ false) → (bs : List ℕ) → list_all is_digit bs ≡ true
    → AllByRecursion (λ b. (b == mark) ≡ false) bs
no_byte mark other [] h = tt
no_byte mark other (b ∷ bs) h =
    let parts = and_parts (is_digit b) (list_all is_digit bs) h in
    (other b parts.0, no_byte mark other bs parts.1)

-- a digit is no comma, and no colon:
no_comma : (b : ℕ) → is_digit b ≡ true → (b == 44) ≡ false
no_comma b h = let low = (digit_below b h).0 in ne_eqb b 44 (λ e. omega arith)

no_colon : (b : ℕ) → is_digit b ≡ true → (b == 58) ≡ false
no_colon b h = let high = (digit_below b h).1 in ne_eqb b 58 (λ e. omega arith)

-- a number below 2 ^ 16 is read again
number_again : (n : ℕ) → n < 2 ^ 16 → shape_number (decimal n) ≡ Some n
number_again n h =
    let is = decimal_is_IsNumeral n (omega arith) in
    let some = lt-ltb 0 (length (decimal n)) is.0.0 in
    let digits = all_below (decimal n) is.0.1 in
    let fits : nat_lt (digits_value 10 (decimal n)) (2 ^ 16) ≡ true = ap (λ m. nat_lt m (2 ^ 16)) is.1 ∙ lt-ltb n (2 ^ 16) h in
    (λ i. if some i && (digits i && fits i) then Some (digits_value 10 (decimal n)) else None) ∙ ap (λ m. Some m) is.1

-- one shape is read again
shape_again : (s : MapShape) → numbers_in (shape_text s) ≡ numbers_of s
shape_again s =
    let size : s.value_size < 2 ^ 16 = omega (arith, s.greatest_size) in
    let entries : s.entries < 2 ^ 16 = omega (arith, s.greatest_entries) in
    let colon = λ (b : ℕ). b == 58 in
    let first =
    All-from_recursion (λ b. (b == 58) ≡ false) (decimal s.value_size)
    (no_byte 58 no_colon (decimal s.value_size) (decimal_digits s.value_size (omega arith))) in
    let second =
    All-from_recursion (λ b. (b == 58) ≡ false) (decimal s.entries)
    (no_byte 58 no_colon (decimal s.entries) (decimal_digits s.entries (omega arith))) in
    ap pair_of (slice_split_at colon (decimal s.value_size) 58 (decimal s.entries) first refl
    ∙ ap (λ ps. decimal s.value_size ∷ ps) (slice_split_none colon (decimal s.entries) second))
    ∙ (λ i. both_numbers (number_again s.value_size size i) (number_again s.entries entries i))

-- the text of a shape has no comma
no_comma_in : (s : MapShape) → AllByRecursion (λ b. (b == 44) ≡ false) (shape_text s)
no_comma_in s = joined (decimal s.value_size) (58 ∷ decimal s.entries)
    (no_byte 44 no_comma (decimal s.value_size) (decimal_digits s.value_size (omega (arith, s.greatest_size))))
    (refl, no_byte 44 no_comma (decimal s.entries) (decimal_digits s.entries (omega (arith, s.greatest_entries))))
  where
    joined : (xs ys : List ℕ) → AllByRecursion (λ b. (b == 44) ≡ false) xs → AllByRecursion (λ b. (b == 44) ≡ false) ys
        → AllByRecursion (λ b. (b == 44) ≡ false) (xs ++ ys)
    joined [] ys h k = k
    joined (x ∷ xs) ys h k = (h.0, joined xs ys h.1 k)

-- the text of shapes, of which there is one at least
abbrev pub shapes_text : MapShape → List MapShape → List ℕ
shapes_text first rest = shape_text first ++ more_maps rest

-- its parts are the shapes' texts
parts_are : (first : MapShape) (rest : List MapShape) → parts 44 (shapes_text first rest) ≡ shape_text first ∷ map shape_text rest
parts_are first [] =
    ap (parts 44) (append-nil (shape_text first))
    ∙ slice_split_none (λ b. b == 44) (shape_text first)
    (All-from_recursion (λ b. (b == 44) ≡ false) (shape_text first) (no_comma_in first))
parts_are first (next ∷ rest) =
    slice_split_at (λ b. b == 44) (shape_text first) 44 (shapes_text next rest)
    (All-from_recursion (λ b. (b == 44) ≡ false) (shape_text first) (no_comma_in first)) refl
    ∙ ap (λ ps. shape_text first ∷ ps) (parts_are next rest)

-- the numbers of shapes are read again from their texts
all_again : (shapes : List MapShape) → map numbers_in (map shape_text shapes) ≡ map numbers_of shapes
all_again [] = refl
all_again (s ∷ shapes) = λ i. shape_again s i ∷ all_again shapes i

-- the text names the shapes
pub names_shapes : (first : MapShape) (rest : List MapShape) → length (first ∷ rest) ≤ 8
    → NamesShapes (shapes_text first rest) (first ∷ rest)
names_shapes first rest few = record {
  each = ap (map numbers_in) (parts_are first rest) ∙ all_again (first ∷ rest);
  few = few;
}
