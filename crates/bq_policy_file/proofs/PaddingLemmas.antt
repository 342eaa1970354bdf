-- Texts and numbers, padded with blanks.
use Rattle.std.proofs.Common.{◌≡◌, ℕ, zero, suc, ◌+◌, ◌-◌, ◌^◌, ◌<◌, ◌≤◌, List, [], ◌∷◌, ◌++◌, length, true, false, refl, ap, ◌∙◌, arith, append-nil, append_assoc}
use Rattle.std.specs.Prelude.{◌==◌, codes, replicate, if◌then◌else◌}
use Rattle.std.specs.List.{list_all}
use Rattle.std.specs.Fmt.{char_count, decimal, fill_text, format_spec, is_char_start, padded, padded_integral, styled_decimal, styled_text, take_chars}
use Rattle.std.proofs.lemmas.Bool.{and_parts, ne_eqb}
use lib.Utf8.{encode}
use Rattle.bq_policy_file.specs.Listed.{blanks_to, is_ascii, noted}

-- a byte of ASCII begins a character
starts : (b : ℕ) → is_ascii b ≡ true → is_char_start b ≡ true
starts b h = rw h refl

-- a text of ASCII has as many characters as bytes
count_is : (text : List ℕ) → list_all is_ascii text ≡ true → char_count text ≡ length text
unfolding char_count
count_is [] h = refl
count_is (b ∷ text) h =
    let parts = and_parts (is_ascii b) (list_all is_ascii text) h in
    let rest = count_is text parts.1 in
    (λ i. (if starts b parts.0 i then 1 else 0) + rest i) ∙ (let one : 1 + length text ≡ length (b ∷ text) = omega arith in one)

-- a text of ASCII with no more characters than are shown is shown whole
shown_is : (n : ℕ) (text : List ℕ) → list_all is_ascii text ≡ true → length text ≤ n → take_chars n text ≡ text
unfolding take_chars
shown_is n [] h l = refl
shown_is n (b ∷ text) h l =
    let parts = and_parts (is_ascii b) (list_all is_ascii text) h in
    let some : (n == 0) ≡ false = ne_eqb n 0 (λ e. omega (arith, e, l)) in
    let rest = shown_is (n - 1) text parts.1 (omega (arith, l)) in
    (λ i. if starts b parts.0 i then (if some i then [] else b ∷ take_chars (n - 1) text) else b ∷ take_chars n text) ∙ ap (λ t. b ∷ t) rest

-- the fill is blanks
fill_is : (align width : ℕ) (n : ℕ) → fill_text (format_spec 32 align 0 width (2 ^ 64 - 1)) n ≡ replicate n 32
unfolding encode
fill_is align width zero = refl
fill_is align width (suc n) = ap (λ t. 32 ∷ t) (fill_is align width n)

-- a text, and blanks behind it
pub text_padded : (text : List ℕ) → list_all is_ascii text ≡ true → length text < 2 ^ 63
    → styled_text (format_spec 32 1 0 32 (2 ^ 64 - 1)) text ≡ text ++ blanks_to 32 text
unfolding padded
text_padded text h l =
    let s = format_spec 32 1 0 32 (2 ^ 64 - 1) in
    let shown : take_chars (2 ^ 64 - 1) text ≡ text = shown_is (2 ^ 64 - 1) text h (omega (arith, l)) in
    let count : char_count (take_chars (2 ^ 64 - 1) text) ≡ length text = ap char_count shown ∙ count_is text h in
    (λ i. shown i ++ fill_text s (32 - count i - 0))
    ∙ ap (λ n. text ++ fill_text s n) (let e : 32 - length text - 0 ≡ 32 - length text = omega arith in e)
    ∙ ap (λ t. text ++ t) (fill_is 1 32 (32 - length text))

-- a number, and blanks before it
pub number_padded : (n : ℕ) → styled_decimal (format_spec 32 3 0 4 (2 ^ 64 - 1)) n ≡ blanks_to 4 (decimal n) ++ decimal n
unfolding padded_integral char_count
number_padded n =
    let s = format_spec 32 3 0 4 (2 ^ 64 - 1) in
    let digits = decimal n in
    let room = 4 - length digits - 0 - 0 in
    let fill = fill_text s room in
    let none : room - room ≡ 0 = omega arith in
    let same : room ≡ 4 - length digits = omega arith in
    ap (λ (k : ℕ). (((fill ++ []) ++ []) ++ []) ++ (digits ++ fill_text s k)) none
    ∙ ap (λ (t : List ℕ). t ++ (digits ++ [])) (append-nil ((fill ++ []) ++ []) ∙ append-nil (fill ++ []) ∙ append-nil fill)
    ∙ ap (λ (t : List ℕ). fill ++ t) (append-nil digits)
    ∙ ap (λ (k : ℕ). fill_text s k ++ digits) same
    ∙ ap (λ (t : List ℕ). t ++ digits) (fill_is 3 4 (4 - length digits))

-- a line with its comment, as it is laid out
pub line_with_comment : (stated spelled shown number : List ℕ) (slot : ℕ)
    → shown ≡ stated ++ blanks_to 32 stated → number ≡ blanks_to 4 (decimal slot) ++ decimal slot
    → shown ++ (codes "; " ++ (number ++ (codes "  " ++ (spelled ++ codes "\n")))) ≡ noted stated slot spelled
line_with_comment stated spelled shown number slot first second =
    let rest = codes "  " ++ (spelled ++ codes "\n") in
    (λ i. first i ++ (codes "; " ++ (second i ++ rest)))
    ∙ append_assoc stated (blanks_to 32 stated) (codes "; " ++ ((blanks_to 4 (decimal slot) ++ decimal slot) ++ rest))
    ∙ ap (λ t. stated ++ (blanks_to 32 stated ++ (codes "; " ++ t))) (append_assoc (blanks_to 4 (decimal slot)) (decimal slot) rest)
