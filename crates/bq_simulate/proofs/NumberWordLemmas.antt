-- Numbers as words: each is read back.
use Rattle.std.proofs.Common.{◌≡◌, ℕ, ◌^◌, ◌<◌, ◌≤◌, suc, List, [], ◌∷◌, length, refl, ap, Bool, true, false, ltb, eqb, arith, Some, ℤ, pos, negsuc, neg_ℤ, lit<, nat_eq, codes, decimal, FitsSigned}
use Rattle.std.specs.Prelude.{◌&&◌, option_map}
use Rattle.std.specs.Int.{w8}
use Rattle.std.specs.List.{list_all, starts_with}
use Rattle.std.specs.Char.{digit_value}
use Rattle.std.specs.Fmt.{signed_decimal}
use Rattle.std.specs.Str.Parse.{digits_value, AllDigits}
use Rattle.std.proofs.lemmas.Bool.Decides.{nat_tests}
use Rattle.std.proofs.lemmas.Fmt.{decimal_is_IsNumeral, length-decimal-le}
use Rattle.bq_words.specs.Numbers.{number_in_base}
use Rattle.bq_words.proofs.NumberLemmas.{below-Some}
use Rattle.bq_words.specs.Quantities.{decimal_of, processor_in_word, task_in_word, mask_in_word, nice_in_word}
use Rattle.bq_simulate.proofs.PlainWordLemmas.{is_plain, IsPlain}

-- a digit is a plain byte
digit_plain : (c : ℕ) → digit_value c < 10 → is_plain c ≡ true
digit_plain c h = grind (arith, nat_tests)

-- digits are all plain bytes, and all pass the test of a digit:
digits_plain : (ds : List ℕ) → AllDigits 10 ds → list_all is_plain ds ≡ true
digits_plain [] h = refl
digits_plain (c ∷ ds) h = rw (digit_plain c h.0) (digits_plain ds h.1)

digits_pass : (ds : List ℕ) → AllDigits 10 ds → list_all (λ c. ltb (digit_value c) 10) ds ≡ true
digits_pass [] h = refl
digits_pass (c ∷ ds) h =
    let first : ltb (digit_value c) 10 ≡ true = let d = h.0 in grind (arith, nat_tests) in rw first (digits_pass ds h.1)

-- a number of 64 bits is a plain word
pub plain_decimal : (n : ℕ) → n < 2 ^ 64 → IsPlain (decimal n)
plain_decimal n h = let numeral = (decimal_is_IsNumeral n h).0 in record { some = numeral.0; each = digits_plain (decimal n) numeral.1 }

-- a number of 64 bits is no longer than twenty digits
pub short_decimal : (n : ℕ) → n < 2 ^ 64 → length (decimal n) ≤ 20
short_decimal n h = length-decimal-le 20 n (lit< tt) (omega (arith)) h

-- digits whose value 64 bits can hold are read as that value
if_all : (ds : List ℕ) (n : ℕ) → 0 < length ds → list_all (λ c. ltb (digit_value c) 10) ds ≡ true
    → digits_value 10 ds ≡ n → n < 2 ^ 64
    → number_in_base 10 ds ≡ Some n
if_all ds n some all value fits =
    let long : ltb 0 (length ds) ≡ true = grind (arith, nat_tests) in
    let small : ltb (digits_value 10 ds) (2 ^ 64) ≡ true = grind (arith, nat_tests) in
    rw (long, all, small) (ap Some value)

-- a number that is written is read back
pub decimal_of-decimal : (n : ℕ) → n < 2 ^ 64 → decimal_of (decimal n) ≡ Some n
decimal_of-decimal n h =
    let numeral = decimal_is_IsNumeral n h in
    if_all (decimal n) n numeral.0.0 (digits_pass (decimal n) numeral.0.1) numeral.1 h

-- the number of a processor is read back from its digits
pub processor_of-decimal : (n : ℕ) → n < 2 ^ 8 → processor_in_word (decimal n) ≡ Some n
processor_of-decimal n h = below-Some (2 ^ 8) n _ (decimal_of-decimal n (omega arith)) h

-- the number of a task is read back from its digits
pub task_of-decimal : (n : ℕ) → n < 2 ^ 16 → task_in_word (decimal n) ≡ Some n
task_of-decimal n h = below-Some (2 ^ 16) n _ (decimal_of-decimal n (omega arith)) h

-- a text of digits does not begin with 0x
no_hex_mark : (ds : List ℕ) → AllDigits 10 ds → starts_with nat_eq ds (codes "0x") ≡ false
no_hex_mark [] h = refl
no_hex_mark (c ∷ []) h = one (eqb 48 c)
  where
    one : (b : Bool) → (b && false) ≡ false
    one true = refl
    one false = refl
no_hex_mark (c ∷ d ∷ ds) h =
    let other : eqb 120 d ≡ false = let digit = h.1.0 in grind (arith, nat_tests) in
    two (eqb 48 c) (eqb 120 d) other
  where
    two : (a b : Bool) → b ≡ false → (a && (b && true)) ≡ false
    two true b e = rw e refl
    two false b e = refl

-- a mask is read back from its digits
pub mask_of-decimal : (n : ℕ) → n < 2 ^ 64 → mask_in_word (decimal n) ≡ Some n
mask_of-decimal n h = rw (no_hex_mark (decimal n) (decimal_is_IsNumeral n h).0.1) (decimal_of-decimal n h)

-- digits do not begin with a minus
no_minus : (ds : List ℕ) → AllDigits 10 ds → starts_with nat_eq ds (codes "-") ≡ false
no_minus [] h = refl
no_minus (c ∷ ds) h =
    let other : eqb 45 c ≡ false = let digit = h.0 in grind (arith, nat_tests) in
    rw other refl

-- a nice value is read back from its sign and digits
pub nice_of-signed : (z : ℤ) → FitsSigned w8 z → nice_in_word (signed_decimal z) ≡ Some z
nice_of-signed (pos n) h =
    rw (no_minus (decimal n) (decimal_is_IsNumeral n (omega arith)).0.1)
    (ap (option_map (λ n. pos n)) (below-Some 128 n _ (decimal_of-decimal n (omega arith)) (omega arith)))
nice_of-signed (negsuc n) h =
    ap (option_map (λ n. neg_ℤ (pos n))) (below-Some 129 (suc n) _ (decimal_of-decimal (suc n) (omega arith)) (omega arith))

-- a number of eight bits, with its sign, is a plain word
pub plain_signed : (z : ℤ) → FitsSigned w8 z → IsPlain (signed_decimal z)
plain_signed (pos n) h = plain_decimal n (omega arith)
plain_signed (negsuc n) h = let rest = plain_decimal (suc n) (omega arith) in record { some = omega arith; each = rest.each }

-- a number of eight bits, with its sign, is no longer than 21 bytes
pub short_signed : (z : ℤ) → FitsSigned w8 z → length (signed_decimal z) ≤ 21
short_signed (pos n) h = let short = short_decimal n (omega arith) in omega arith
short_signed (negsuc n) h = let short = short_decimal (suc n) (omega arith) in omega arith
