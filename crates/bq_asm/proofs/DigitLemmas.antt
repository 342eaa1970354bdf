-- The numbers that the listing writes are read again.
use Rattle.std.proofs.Common.{◌≡◌, ℕ, suc, ◌+◌, ◌-◌, ◌%◌, ◌^◌, ◌<◌, ◌≤◌, List, [], ◌∷◌, ◌++◌, length, drop, refl, sym, ap, ◌∙◌, Bool, true, false, Some, None, arith, ⊎_elim}
use Rattle.std.specs.Prelude.{ℤ, pos, negsuc, FitsSigned, option_map, nat_lt, nat_le, nat_eq, ◌&&◌, if◌then◌else◌, codes}
use Rattle.std.specs.Int.{w16, w32}
use Rattle.std.specs.List.{list_all, starts_with}
use Rattle.std.specs.Char.{digit_value}
use Rattle.std.specs.Fmt.{decimal, signed_decimal}
use Rattle.std.specs.Str.Parse.{digits_value, AllDigits}
use Rattle.std.proofs.lemmas.Fmt.{decimal_is_IsNumeral, decimal_by_steps, decimal_digit, decimal_step}
use Rattle.std.proofs.lemmas.Bool.{and_from, and_parts, and_right, and_left, lt-ltb, le-leb, ne_eqb, leb-true, cases_lt}
use Rattle.std.proofs.lemmas.Int.{ints}
use Rattle.bq_words.specs.Numbers.{number_in_base, below, value_of}
use Rattle.bq_words.proofs.NumberLemmas.{below-Some}
use Rattle.bq_asm.specs.Numbers.{negative, imm_of, offset_of, distance_in_word, wide_of, register_named}
use Rattle.bq_asm.specs.Text.{signed_text}

-- a byte is one of the digits `0` to `9`
abbrev pub is_digit : ℕ → Bool
is_digit b = nat_le 48 b && nat_le b 57

-- 48 and a number below 10 is the byte of a digit
digit_is : (n : ℕ) → n < 10 → is_digit (48 + n) ≡ true
digit_is n h = and_from (nat_le 48 (48 + n)) (nat_le (48 + n) 57) (le-leb 48 (48 + n) (omega arith)) (le-leb (48 + n) 57 (omega arith))

-- where all elements of two lists pass a test, all of the two joined do
pub list_all-append : (p : ℕ → Bool) (xs ys : List ℕ) → list_all p xs ≡ true → list_all p ys ≡ true → list_all p (xs ++ ys) ≡ true
list_all-append p [] ys h k = k
list_all-append p (x ∷ xs) ys h k =
    let parts = and_parts (p x) (list_all p xs) h in
    and_from (p x) (list_all p (xs ++ ys)) parts.0 (list_all-append p xs ys parts.1 k)

-- where all elements pass a test, they pass each weaker one
pub list_all-weaker : (p q : ℕ → Bool) → ((b : ℕ) → p b ≡ true → q b ≡ true) → (xs : List ℕ) → list_all p xs ≡ true → list_all q xs ≡ true
list_all-weaker p q f [] h = refl
list_all-weaker p q f (x ∷ xs) h =
    let parts = and_parts (p x) (list_all p xs) h in
    and_from (q x) (list_all q xs) (f x parts.0) (list_all-weaker p q f xs parts.1)

-- a number in decimal has only digits
pub decimal_digits : (n : ℕ) → n < 2 ^ 64 → list_all is_digit (decimal n) ≡ true
decimal_digits n h = decimal_by_steps (λ m ds. list_all is_digit ds ≡ true) one more n h
  where
    one : (m : ℕ) → m < 10 → list_all is_digit ((48 + m) ∷ []) ≡ true
    one m lt = and_from (is_digit (48 + m)) true (digit_is m lt) refl

    more : (m : ℕ) (ds : List ℕ) → 10 ≤ m → list_all is_digit ds ≡ true → list_all is_digit (ds ++ ((48 + m % 10) ∷ [])) ≡ true
    more m ds ge all = list_all-append is_digit ds ((48 + m % 10) ∷ []) all (one (m % 10) (omega arith))

-- each digit of a decimal number is below ten
pub all_below : (cs : List ℕ) → AllDigits 10 cs → list_all (λ c. nat_lt (digit_value c) 10) cs ≡ true
all_below [] h = refl
all_below (c ∷ cs) h =
    and_from (nat_lt (digit_value c) 10) (list_all (λ c. nat_lt (digit_value c) 10) cs)
    (lt-ltb (digit_value c) 10 h.0) (all_below cs h.1)

-- the decimal digits of a number below 2^64 are read as that number
pub number_of-decimal : (n : ℕ) → n < 2 ^ 64 → number_in_base 10 (decimal n) ≡ Some n
number_of-decimal n h =
    let is = decimal_is_IsNumeral n h in
    let some = lt-ltb 0 (length (decimal n)) is.0.0 in
    let digits = all_below (decimal n) is.0.1 in
    let fits : nat_lt (digits_value 10 (decimal n)) (2 ^ 64) ≡ true = ap (λ m. nat_lt m (2 ^ 64)) is.1 ∙ lt-ltb n (2 ^ 64) h in
    (λ i. if some i && (digits i && fits i) then Some (digits_value 10 (decimal n)) else None) ∙ ap (λ m. Some m) is.1

-- digits are no sign and no prefix
no_sign : (b : ℕ) (rest : List ℕ) (s : ℕ) → is_digit b ≡ true → (s < 48) → starts_with nat_eq (b ∷ rest) (s ∷ []) ≡ false
no_sign b rest s h lt =
    let low : 48 ≤ b = leb-true 48 b (and_parts (nat_le 48 b) (nat_le b 57) h).0 in
    and_left (nat_eq s b) true (ne_eqb s b (λ e. omega arith))

no_prefix : (bs : List ℕ) → list_all is_digit bs ≡ true → starts_with nat_eq bs (codes "0x") ≡ false
no_prefix [] h = refl
no_prefix (b ∷ []) h = and_right (nat_eq 48 b) false refl
no_prefix (b ∷ c ∷ bs) h =
    let rest = (and_parts (is_digit b) (list_all is_digit (c ∷ bs)) h).1 in
    let second = (and_parts (is_digit c) (list_all is_digit bs) rest).0 in
    let high : c ≤ 57 = leb-true c 57 (and_parts (nat_le 48 c) (nat_le c 57) second).1 in
    and_right (nat_eq 48 b) (nat_eq 120 c && true) (and_left (nat_eq 120 c) true (ne_eqb 120 c (λ e. omega arith)))

-- decimal digits are read as their number also where a prefix of hex digits could stand
pub value_of-decimal : (n : ℕ) → n < 2 ^ 64 → value_of (decimal n) ≡ Some n
value_of-decimal n h =
    ap (λ b. if b then number_in_base 16 (drop 2 (decimal n)) else number_in_base 10 (decimal n)) (no_prefix (decimal n) (decimal_digits n h))
    ∙ number_of-decimal n h

-- a text of digits does not begin with a byte before `0`
first_no_sign : (bs : List ℕ) (s : ℕ) → 0 < length bs → list_all is_digit bs ≡ true → s < 48 → starts_with nat_eq bs (s ∷ []) ≡ false
first_no_sign [] s some h lt = absurd (omega arith)
first_no_sign (b ∷ bs) s some h lt = no_sign b bs s (and_parts (is_digit b) (list_all is_digit bs) h).0 lt

-- a number in decimal begins with no byte that comes before the digits, as signs do
pub decimal_no_sign : (n s : ℕ) → n < 2 ^ 64 → s < 48 → starts_with nat_eq (decimal n) (s ∷ []) ≡ false
decimal_no_sign n s h lt = first_no_sign (decimal n) s (decimal_is_IsNumeral n h).0.0 (decimal_digits n h) lt

-- a number of 32 bits, with a minus where it is negative, is read as itself where an immediate stands
pub imm_of-signed : (z : ℤ) → FitsSigned w32 z → imm_of (signed_decimal z) ≡ Some z
imm_of-signed (pos n) h =
    let lt : n < 2 ^ 31 = omega (arith, ints, h) in
    let word = decimal n in
    ap (λ b.
    if b
    then option_map negative (below (2 ^ 31 + 1) (value_of (drop 1 word)))
    else option_map (λ n. pos n) (below (2 ^ 31) (value_of word))) (decimal_no_sign n 45 (omega arith) (omega arith))
    ∙ ap (option_map (λ n. pos n)) (below-Some (2 ^ 31) n (value_of word) (value_of-decimal n (omega arith)) lt)
imm_of-signed (negsuc n) h =
    let lt : suc n < 2 ^ 31 + 1 = omega (arith, ints, h) in
    ap (option_map negative) (below-Some (2 ^ 31 + 1) (suc n) (value_of (decimal (suc n))) (value_of-decimal (suc n) (omega arith)) lt)

-- a number of 16 bits with its sign is read as itself where an offset stands
pub offset_of-signed : (z : ℤ) → FitsSigned w16 z → offset_of (signed_text z) ≡ Some z
offset_of-signed (pos n) h =
    let lt : n < 2 ^ 15 = omega (arith, ints, h) in
    ap (option_map (λ n. pos n)) (below-Some (2 ^ 15) n (value_of (decimal n)) (value_of-decimal n (omega arith)) lt)
offset_of-signed (negsuc n) h =
    let lt : suc n < 2 ^ 15 + 1 = omega (arith, ints, h) in
    ap (option_map negative) (below-Some (2 ^ 15 + 1) (suc n) (value_of (decimal (suc n))) (value_of-decimal (suc n) (omega arith)) lt)

-- a number of 32 bits with its sign is read as itself where a distance stands
pub distance_of-signed : (z : ℤ) → FitsSigned w32 z → distance_in_word (signed_text z) ≡ Some z
distance_of-signed (pos n) h =
    let lt : n < 2 ^ 31 = omega (arith, ints, h) in
    ap (option_map (λ n. pos n)) (below-Some (2 ^ 31) n (value_of (decimal n)) (value_of-decimal n (omega arith)) lt)
distance_of-signed (negsuc n) h =
    let lt : suc n < 2 ^ 31 + 1 = omega (arith, ints, h) in
    ap (option_map negative) (below-Some (2 ^ 31 + 1) (suc n) (value_of (decimal (suc n))) (value_of-decimal (suc n) (omega arith)) lt)

-- a number below 2^64 in decimal is read as itself where a wide number stands
pub wide_of-decimal : (n : ℕ) → n < 2 ^ 64 → wide_of (decimal n) ≡ Some n
wide_of-decimal n h =
    let word = decimal n in
    ap (λ b. if b then below 1 (value_of (drop 1 word)) else value_of word) (decimal_no_sign n 45 h (omega arith)) ∙ value_of-decimal n h

-- a register
register_digit : (r : ℕ) → r < 10 → register_named (codes "r" ++ ((48 + r) ∷ [])) ≡ Some r
register_digit r h =
    let back : (48 + r) - 48 ≡ r = omega arith in
    ap (λ b. if b then Some ((48 + r) - 48) else None) (digit_is r h) ∙ ap (λ n. Some n) back

-- the letter r and a number up to 10 in decimal are read as that register
pub register_of-decimal : (r : ℕ) → r ≤ 10 → register_named (codes "r" ++ decimal r) ≡ Some r
register_of-decimal r h =
    ⊎_elim (λ lt. ap (λ ds. register_named (codes "r" ++ ds)) (decimal_digit r lt) ∙ register_digit r lt)
    (λ ge.
    let ten : r ≡ 10 = omega arith in
    let digits : decimal 10 ≡ 49 ∷ 48 ∷ [] =
    decimal_step 10 (omega arith) (omega arith) ∙ ap (λ ds. ds ++ (48 ∷ [])) (decimal_digit 1 (omega arith)) in
    ap (λ n. register_named (codes "r" ++ decimal n)) ten ∙ ap (λ ds. register_named (codes "r" ++ ds)) digits ∙ ap (λ n. Some n) (sym ten))
    (cases_lt r 10)
