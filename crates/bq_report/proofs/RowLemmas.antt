-- What the rows of slices are as the writer of `csv` writes them.
use Rattle.std.proofs.Common.{◌≡◌, ℕ, zero, suc, ◌<◌, ◌^◌, true, false, List, [], ◌∷◌, ◌++◌, refl, arith, append_assoc, rules, lit<}
use Rattle.std.specs.Prelude.{codes}
use Rattle.std.specs.Fmt.{decimal}
use Rattle.std.specs.Str.{all_ascii_digits, IsUtf8, IsAscii}
use Rattle.std.proofs.lemmas.Bool.Decides.{nat_tests}
use Rattle.std.proofs.lemmas.Fmt.{digits_decimal, IsAscii-decimal}
use Rattle.std.proofs.lemmas.Str.{IsUtf8-append, IsUtf8-from_ascii}
use Rattle.std.proofs.lemmas.Str.Parse.{numerals_by_value, tells_all_ascii_digits}
use Rattle.csv.specs.Writing.{default_writer, needs_quotes, needs_byte, field_text, row_text, fields_text, is_blank}

-- no digit calls for quotes
digit_needs_none : (c : ℕ) → 47 < c → c < 58 → needs_byte default_writer c ≡ false
digit_needs_none c low high = grind (arith, nat_tests)

-- so a number needs no quotes, and is written as its digits:
needs_quotes-digits : (ds : List ℕ) → all_ascii_digits ds ≡ true → needs_quotes default_writer ds ≡ false
needs_quotes-digits [] h = refl
needs_quotes-digits (c ∷ cs) h =
    let parts = tells_all_ascii_digits.parts c cs h in
    let low : 47 < c = omega arith in
    let high : c < 58 = omega arith in
    rw (digit_needs_none c low high, needs_quotes-digits cs parts.1) refl

field_text-decimal : (n : ℕ) → n < 2 ^ 64 → field_text default_writer (decimal n) ≡ decimal n
field_text-decimal n h = rw (needs_quotes-digits (decimal n) (digits_decimal (numerals_by_value _ tells_all_ascii_digits) n h)) refl

-- a row of four numbers is written as these, a comma between each two, and a line feed behind
pub row_text-decimals : (a b c d : ℕ) → a < 2 ^ 64 → b < 2 ^ 64 → c < 2 ^ 64 → d < 2 ^ 64
    → row_text default_writer (decimal a ∷ decimal b ∷ decimal c ∷ decimal d ∷ [])
    ≡ decimal a ++ (codes "," ++ (decimal b ++ (codes "," ++ (decimal c ++ (codes "," ++ (decimal d ++ codes "\n"))))))
unfolding fields_text is_blank
row_text-decimals a b c d ha hb hc hd =
    rw (field_text-decimal a ha, field_text-decimal b hb, field_text-decimal c hc, field_text-decimal d hd) (simp append_assoc)

-- a byte of ASCII is text, and text still is with a number or such a byte before it:
one_byte : (b : ℕ) → b < 128 → IsAscii (b ∷ [])
one_byte b h zero = h
one_byte b h (suc i) = search rules

number_more : (n : ℕ) (rest : List ℕ) → n < 2 ^ 64 → IsUtf8 rest → IsUtf8 (decimal n ++ rest)
number_more n rest h reported = IsUtf8-append (decimal n) rest (IsUtf8-from_ascii (decimal n) (IsAscii-decimal n h)) reported

byte_more : (b : ℕ) (rest : List ℕ) → b < 128 → IsUtf8 rest → IsUtf8 ((b ∷ []) ++ rest)
byte_more b rest h reported = IsUtf8-append (b ∷ []) rest (IsUtf8-from_ascii (b ∷ []) (one_byte b h)) reported

-- the row of a slice is text
IsUtf8-row : (a b c d : ℕ) → a < 2 ^ 64 → b < 2 ^ 64 → c < 2 ^ 64 → d < 2 ^ 64
    → IsUtf8 (decimal a ++ (codes "," ++ (decimal b ++ (codes "," ++ (decimal c ++ (codes "," ++ (decimal d ++ codes "\n")))))))
IsUtf8-row a b c d ha hb hc hd =
    number_more a _ ha (byte_more 44 _ (lit< tt) (number_more b _ hb (byte_more 44 _ (lit< tt)
    (number_more c _ hc (byte_more 44 _ (lit< tt) (number_more d _ hd (IsUtf8-from_ascii (10 ∷ []) (one_byte 10 (lit< tt)))))))))

-- what the writer of `csv` adds for these four numbers is the row
pub adds_row : (old new p t f u : List ℕ) (a b c d : ℕ) → a < 2 ^ 64 → b < 2 ^ 64 → c < 2 ^ 64 → d < 2 ^ 64
    → p ≡ decimal a → t ≡ decimal b → f ≡ decimal c → u ≡ decimal d
    → (IsUtf8 (row_text default_writer (p ∷ t ∷ f ∷ u ∷ [])) → new ≡ old ++ row_text default_writer (p ∷ t ∷ f ∷ u ∷ []))
    → new ≡ old ++ (decimal a ++ (codes "," ++ (decimal b ++ (codes "," ++ (decimal c ++ (codes "," ++ (decimal d ++ codes "\n")))))))
adds_row old new p t f u a b c d ha hb hc hd ep et ef eu =
    rw (ep, et, ef, eu, row_text-decimals a b c d ha hb hc hd) (λ adds. adds (IsUtf8-row a b c d ha hb hc hd))
