-- The number that digits write, one digit after another.
use Rattle.std.proofs.Common.{◌≡◌, ℕ, ◌+◌, ◌*◌, ◌^◌, ◌<◌, ◌≤◌, List, [], ◌∷◌, length, drop, get_or, refl, ap, ◌∙◌, Bool, true, false, cond, ltb, Some, None, Option, arith, lt-ltb}
use Rattle.std.specs.Prelude.{◌&&◌}
use Rattle.std.specs.List.{list_all}
use Rattle.std.specs.Char.{digit_value}
use Rattle.std.specs.Str.Parse.{digits_value_after}
use Rattle.std.proofs.lemmas.Bool.Decides.{nat_tests}
use Rattle.std.proofs.Math.Nat.{mul-le-mul_left}
use Rattle.std.proofs.lemmas.List.{drop_all, drop_more}
use Rattle.bq_words.specs.Numbers.{below, number_in_base}

-- the number of these digits after those of n
abbrev pub number_from : ℕ → ℕ → List ℕ → Option ℕ
number_from base n word =
    cond (list_all (λ c. ltb (digit_value c) base) word && ltb (digits_value_after base n word) (2 ^ 64))
    (Some (digits_value_after base n word)) None

-- a digit counts behind what came before it
pub number_from-digit : (base n c : ℕ) (word : List ℕ) → digit_value c < base
    → number_from base n (c ∷ word) ≡ number_from base (n * base + digit_value c) word
number_from-digit base n c word h = let e : ltb (digit_value c) base ≡ true = grind (arith, nat_tests) in rw e refl

-- more digits make no less
grows : (base n : ℕ) (word : List ℕ) → 1 ≤ base → n ≤ digits_value_after base n word
grows base n [] h = omega arith
grows base n (c ∷ word) h =
    let more = grows base (n * base + digit_value c) word h in
    let product = mul-le-mul_left n h in
    omega arith

-- what is too large for 64 bits is no number, whatever follows
pub number_from-large : (base n : ℕ) (word : List ℕ) → 1 ≤ base → 2 ^ 64 ≤ n → number_from base n word ≡ None
number_from-large base n word h large =
    let more = grows base n word h in
    let e : ltb (digits_value_after base n word) (2 ^ 64) ≡ false = grind (arith, nat_tests) in
    rw e (none_of (list_all (λ c. ltb (digit_value c) base) word))
  where
    none_of : (b : Bool) → cond (b && false) (Some (digits_value_after base n word)) None ≡ None
    none_of true = refl
    none_of false = refl

-- the number of a word is what its bytes write after 0
pub number_from-all : (base : ℕ) (word : List ℕ) → 0 < length word → number_in_base base word ≡ number_from base 0 word
number_from-all base word h = let e : ltb 0 (length word) ≡ true = grind (arith, nat_tests) in rw e refl

-- a digit at a place of the word is taken in, and the bytes behind it are left
pub number_step : (base value i : ℕ) (word : List ℕ) → i < length word → digit_value (get_or word i 0) < base
    → number_from base value (drop i word) ≡ number_from base (value * base + digit_value (get_or word i 0)) (drop (i + 1) word)
number_step base value i word h digit =
    ap (number_from base value) (drop_more word i 0 h) ∙ number_from-digit base value (get_or word i 0) (drop (i + 1) word) digit

-- a word of which the first digits are too large for 64 bits is no number
pub number_too_large : (base value i : ℕ) (word : List ℕ) → number_from base 0 word ≡ number_from base value (drop i word)
    → i < length word → digit_value (get_or word i 0) < base → 2 ^ 64 ≤ value * base + digit_value (get_or word i 0)
    → number_in_base base word ≡ None
number_too_large base value i word so_far h digit large =
    number_from-all base word (omega arith) ∙ so_far ∙ number_step base value i word h digit
    ∙ number_from-large base (value * base + digit_value (get_or word i 0)) (drop (i + 1) word) (omega arith) large

-- a word of which all digits were taken in is what they came to
pub number_whole : (base value i : ℕ) (word : List ℕ) → number_from base 0 word ≡ number_from base value (drop i word)
    → 0 < length word → length word ≤ i → value < 2 ^ 64
    → number_in_base base word ≡ Some value
number_whole base value i word so_far some end fits =
    number_from-all base word some ∙ so_far ∙ ap (number_from base value) (drop_all i word end) ∙ whole
  where
    whole : number_from base value [] ≡ Some value
    whole = let e : ltb value (2 ^ 64) ≡ true = grind (arith, nat_tests) in rw e refl

-- a number below the limit stays
pub below-Some : (limit n : ℕ) (o : Option ℕ) → o ≡ Some n → n < limit → below limit o ≡ Some n
below-Some limit n o is lt = ap (below limit) is ∙ ap (λ b. cond b (Some n) None) (lt-ltb n limit lt)
