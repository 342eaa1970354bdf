-- What is read from words is in range.
use Rattle.std.proofs.Common.{◌≡◌, ℕ, ◌+◌, ◌-◌, ◌^◌, ◌<◌, ◌≤◌, List, [], ◌∷◌, length, drop, refl, Bool, true, false, Some, None, arith}
use Rattle.std.specs.Prelude.{Option, ℤ, pos, FitsSigned, if◌then◌else◌, option_map, nat_lt, nat_le, nat_eq, ◌&&◌, ◌==◌, codes, IfSome}
use Rattle.std.specs.Int.{w16, w32}
use Rattle.std.specs.List.{list_all, starts_with}
use Rattle.std.specs.Str.Parse.{digits_value}
use Rattle.std.specs.Char.{digit_value}
use Rattle.std.proofs.lemmas.Bool.Decides.{nat_tests}
use Rattle.std.proofs.lemmas.Int.{ints}
use Rattle.bq_words.specs.Numbers.{number_in_base, below, value_of}
use Rattle.bq_asm.specs.Numbers.{negative, imm_of, offset_of, distance_in_word, wide_of, register_named}

-- a number that is kept below a limit is below it
below_limit : (limit : ℕ) (o : Option ℕ) → IfSome (below limit o) (λ n. n < limit)
below_limit limit None = tt
below_limit limit (Some n) = by (nat_lt n limit) refl
  where
    by : (b : Bool) → nat_lt n limit ≡ b → IfSome (if b then Some n else None) (λ m. m < limit)
    by true e = grind (arith, nat_tests, e)
    by false e = tt

-- numbers from 0 on and negative ones, within the bounds of 32 or 16 bits with a sign, fit these bits, by cases:
positive_fits : (n : ℕ) → n < 2 ^ 31 → FitsSigned w32 (pos n)
positive_fits n h = omega (arith, ints)

negative_fits : (n : ℕ) → n < 2 ^ 31 + 1 → FitsSigned w32 (negative n)
negative_fits n h = omega (arith, ints)

near_positive_fits : (n : ℕ) → n < 2 ^ 15 → FitsSigned w16 (pos n)
near_positive_fits n h = omega (arith, ints)

near_negative_fits : (n : ℕ) → n < 2 ^ 15 + 1 → FitsSigned w16 (negative n)
near_negative_fits n h = omega (arith, ints)

-- what a function gives of each number, it gives of a number that may be there
module _ (P : ℕ → Type 0) (Q : ℤ → Type 0) (f : ℕ → ℤ) (h : (n : ℕ) → P n → Q (f n)) where
  mapped : (o : Option ℕ) → IfSome o P → IfSome (option_map f o) Q
  mapped None k = tt
  mapped (Some n) k = h n k

-- what holds of both sides of a choice holds of the chosen one
either : {A : Type 0} (P : A → Type 0) (b : Bool) (x y : Option A) → IfSome x P → IfSome y P → IfSome (if b then x else y) P
either P true x y h k = h
either P false x y h k = k

-- what is read as an immediate fits 32 bits with a sign
pub imm_fits : (w : List ℕ) → IfSome (imm_of w) (FitsSigned w32)
imm_fits w =
    let minus = below (2 ^ 31 + 1) (value_of (drop 1 w)) in
    let plain = below (2 ^ 31) (value_of w) in
    either (FitsSigned w32) (starts_with nat_eq w (codes "-")) (option_map negative minus) (option_map (λ n. pos n) plain)
    (mapped (λ n. n < 2 ^ 31 + 1) (FitsSigned w32) negative negative_fits minus (below_limit (2 ^ 31 + 1) (value_of (drop 1 w))))
    (mapped (λ n. n < 2 ^ 31) (FitsSigned w32) (λ n. pos n) positive_fits plain (below_limit (2 ^ 31) (value_of w)))

-- what is read as a distance fits 32 bits with a sign
pub distance_fits : (w : List ℕ) → IfSome (distance_in_word w) (FitsSigned w32)
distance_fits w =
    let size = value_of (drop 1 w) in
    let minus = below (2 ^ 31 + 1) size in
    let plus = below (2 ^ 31) size in
    let signed = if starts_with nat_eq w (codes "+") then option_map (λ n. pos n) plus else None in
    either (FitsSigned w32) (starts_with nat_eq w (codes "-")) (option_map negative minus) signed
    (mapped (λ n. n < 2 ^ 31 + 1) (FitsSigned w32) negative negative_fits minus (below_limit (2 ^ 31 + 1) size))
    (either (FitsSigned w32) (starts_with nat_eq w (codes "+")) (option_map (λ n. pos n) plus) None
    (mapped (λ n. n < 2 ^ 31) (FitsSigned w32) (λ n. pos n) positive_fits plus (below_limit (2 ^ 31) size)) tt)

-- what is read as an offset fits 16 bits with a sign
pub offset_fits : (w : List ℕ) → IfSome (offset_of w) (FitsSigned w16)
offset_fits w =
    let size = value_of (drop 1 w) in
    let minus = below (2 ^ 15 + 1) size in
    let plus = below (2 ^ 15) size in
    let signed = if starts_with nat_eq w (codes "+") then option_map (λ n. pos n) plus else None in
    either (FitsSigned w16) (starts_with nat_eq w (codes "-")) (option_map negative minus) signed
    (mapped (λ n. n < 2 ^ 15 + 1) (FitsSigned w16) negative near_negative_fits minus (below_limit (2 ^ 15 + 1) size))
    (either (FitsSigned w16) (starts_with nat_eq w (codes "+")) (option_map (λ n. pos n) plus) None
    (mapped (λ n. n < 2 ^ 15) (FitsSigned w16) (λ n. pos n) near_positive_fits plus (below_limit (2 ^ 15) size)) tt)

-- what is read as a number in some base fits 64 bits, with or without `0x`:
number_fits : (radix : ℕ) (w : List ℕ) → IfSome (number_in_base radix w) (λ n. n < 2 ^ 64)
number_fits radix w =
    by (nat_lt 0 (length w)) (list_all (λ c. nat_lt (digit_value c) radix) w) (nat_lt (digits_value radix w) (2 ^ 64)) refl
  where
    by : (a b c : Bool) → nat_lt (digits_value radix w) (2 ^ 64) ≡ c
        → IfSome (if a && (b && c) then Some (digits_value radix w) else None) (λ n. n < 2 ^ 64)
    by true true true e = grind (arith, nat_tests, e)
    by true true false e = tt
    by true false c e = tt
    by false b c e = tt

value_fits : (w : List ℕ) → IfSome (value_of w) (λ n. n < 2 ^ 64)
value_fits w =
    either (λ n. n < 2 ^ 64) (starts_with nat_eq w (codes "0x")) (number_in_base 16 (drop 2 w)) (number_in_base 10 w)
    (number_fits 16 (drop 2 w)) (number_fits 10 w)

-- a number that is kept below 1 fits 64 bits
at_most : (o : Option ℕ) → IfSome (below 1 o) (λ n. n < 1) → IfSome (below 1 o) (λ n. n < 2 ^ 64)
at_most o h = by (below 1 o) h
  where
    by : (p : Option ℕ) → IfSome p (λ n. n < 1) → IfSome p (λ n. n < 2 ^ 64)
    by None k = tt
    by (Some n) k = omega arith

-- what is read as a wide number fits 64 bits
pub wide_fits : (w : List ℕ) → IfSome (wide_of w) (λ n. n < 2 ^ 64)
wide_fits w =
    either (λ n. n < 2 ^ 64) (starts_with nat_eq w (codes "-")) (below 1 (value_of (drop 1 w))) (value_of w)
    (at_most (value_of (drop 1 w)) (below_limit 1 (value_of (drop 1 w)))) (value_fits w)

-- a register's name of one digit is one of at most 10
one_digit : (r d : ℕ) → IfSome (register_named (r ∷ d ∷ [])) (λ n. n ≤ 10)
one_digit r d = by (r == 114) (nat_le 48 d) (nat_le d 57) refl
  where
    by : (a b c : Bool) → nat_le d 57 ≡ c → IfSome (if a && (b && c) then Some (d - 48) else None) (λ n. n ≤ 10)
    by true true true e = let under : d ≤ 57 = grind (arith, nat_tests, e) in omega arith
    by true true false e = tt
    by true false c e = tt
    by false b c e = tt

-- what is read as a register is one of r0 to r10
pub register_fits : (w : List ℕ) → IfSome (register_named w) (λ r. r ≤ 10)
register_fits (r ∷ d ∷ []) = one_digit r d
register_fits (r ∷ d ∷ e ∷ []) = either (λ r. r ≤ 10) ((r == 114) && ((d == 49) && (e == 48))) (Some 10) None (omega arith) tt
register_fits w = tt
