-- Images as words: the hex of some bytes is read back, and is not `none`.
use Rattle.std.proofs.Common.{◌≡◌, ℕ, ◌/◌, ◌%◌, ◌<◌, suc, List, [], ◌∷◌, length, refl, true, false, eqb, arith, Some, slice_index, codes, bytes_eq}
use Rattle.std.specs.List.{list_all}
use Rattle.std.proofs.lemmas.Bool.Decides.{nat_tests}
use Rattle.hex.specs.Hex.{IsBytes, encode_with, encode_lower, lower_digits, hex_digit_value}
use Rattle.hex.proofs.HexLemmas.{IsDigits-lower_digits, length-encode_with}
use Rattle.bq_simulate.proofs.PlainWordLemmas.{is_plain, IsPlain}

-- a digit of hex is a plain byte
digit_plain : (c d : ℕ) → hex_digit_value c ≡ Some d → is_plain c ≡ true
digit_plain c d h = grind (arith, nat_tests)

-- a digit of hex is not the `n` with which `none` begins
not_n : (c d : ℕ) → hex_digit_value c ≡ Some d → eqb c 110 ≡ false
not_n c d h = grind (arith, nat_tests)

-- each digit of the table is a plain byte
table_plain : (d : ℕ) → d < 16 → is_plain (slice_index lower_digits d) ≡ true
table_plain d h = digit_plain (slice_index lower_digits d) d (IsDigits-lower_digits d h)

-- each byte of the hex of some bytes is a plain byte
hex_plain : (bytes : List ℕ) → IsBytes bytes → list_all is_plain (encode_lower bytes) ≡ true
unfolding encode_with
hex_plain [] h = refl
hex_plain (b ∷ rest) h =
    let fits : b < 256 = h 0 in
    let high : is_plain (slice_index lower_digits (b / 16)) ≡ true = table_plain (b / 16) (omega arith) in
    let low : is_plain (slice_index lower_digits (b % 16)) ≡ true = table_plain (b % 16) (omega arith) in
    rw (high, low) (hex_plain rest (λ k. h (suc k)))

-- the hex of bytes is a plain word
pub plain_hex : (bytes : List ℕ) → IsBytes bytes → 0 < length bytes → IsPlain (encode_lower bytes)
plain_hex bytes h some = record { some = let len = length-encode_with lower_digits bytes in omega arith; each = hex_plain bytes h }

-- the hex of bytes is not `none`
pub hex_not_none : (bytes : List ℕ) → IsBytes bytes → bytes_eq (encode_lower bytes) (codes "none") ≡ false
unfolding encode_with
hex_not_none [] h = refl
hex_not_none (b ∷ rest) h =
    let fits : b < 256 = h 0 in
    let first : eqb (slice_index lower_digits (b / 16)) 110 ≡ false =
    not_n (slice_index lower_digits (b / 16)) (b / 16) (IsDigits-lower_digits (b / 16) (omega arith)) in
    rw first refl
