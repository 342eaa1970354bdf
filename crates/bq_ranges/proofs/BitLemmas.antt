-- What is left of a mask, signed shifts as shifts of numbers, and words without a common bit.
use Rattle.std.proofs.Common.{◌≡◌, ℕ, ◌+◌, ◌-◌, ◌*◌, ◌/◌, ◌%◌, ◌^◌, ◌<◌, ◌≤◌, false, arith}
use Rattle.std.proofs.lemmas.Bool.Decides.{nat_tests}
use Rattle.std.proofs.lemmas.Int.{ints}
use Rattle.std.proofs.lemmas.Nat.{and_le_r, and_mod, mul-le, div-add-mod', pow_pos, or_lt}
use Rattle.std.specs.Prelude.{bit_and}
use Rattle.std.specs.Int.Bits.{or_add_and}
use Rattle.bq_bpf.specs.Meaning.{bit_count, compares, modulus, operate}
use Rattle.bq_insn.specs.declared.Condition.TheVariants as cond
use Rattle.bq_insn.specs.declared.Operation.TheVariants as op
use Rattle.bq_insn.specs.declared.Width.{Width}
use Rattle.bq_insn.specs.declared.Width.TheVariants.{W32, W64}
use Rattle.bq_ranges.specs.Within.{Within}
use Rattle.bq_ranges.specs.declared.range.Range.{Range}
use Rattle.bq_ranges.proofs.OutcomeLemmas.{word_is_its_remainder, quotients_between}

-- a multiple of n that is at most a bound is at most the greatest multiple of n up to the bound
multiple_below : (z most n : ℕ) → 0 < n → z % n ≡ 0 → z ≤ most → z ≤ most - most % n
multiple_below z most n some whole below =
    let parts : z / n * n + z % n ≡ z = div-add-mod' z n in
    let most_parts : most / n * n + most % n ≡ most = div-add-mod' most n in
    let order : z / n ≤ most / n = (quotients_between z z most n some (omega arith) below).1 in
    let more : z / n * n ≤ most / n * n = mul-le (z / n) n (most / n) n order (omega arith) in
    omega arith

-- the AND of a word and a mask whose k low bits are 0 is at most the greatest multiple of 2 ^ k up to a bound of it
pub mask_left : (x y most k : ℕ) → y % 2 ^ k ≡ 0 → bit_and x y ≤ most → bit_and x y ≤ most - most % 2 ^ k
mask_left x y most k low below =
    let last = and_le_r (x % 2 ^ k) (y % 2 ^ k) in
    let whole : bit_and x y % 2 ^ k ≡ 0 = omega (arith, and_mod x y k, last, low) in
    multiple_below (bit_and x y) most (2 ^ k) (pow_pos k) whole below

-- a signed shift to the right of a word without the sign bit divides it by a power of 2
pub plain_shift : (w : Width) (half x y : ℕ) → 2 * half ≡ modulus w → x < half → operate w op.Arsh x y ≡ x / 2 ^ (y % bit_count w)
unfolding operate
plain_shift W32 half x y s p = let small : x < 2 ^ 31 = omega arith in grind (arith, ints)
plain_shift W64 half x y s p = let small : x < 2 ^ 63 = omega arith in grind (arith, ints)

-- a signed shift to the right of a word with the sign bit divides its distance from the greatest word by a power of 2
pub sign_shift : (w : Width) (half most x y : ℕ) → 2 * half ≡ modulus w → most + 1 ≡ modulus w → half ≤ x → x ≤ most
    → operate w op.Arsh x y ≡ most - (most - x) / 2 ^ (y % bit_count w)
unfolding operate
sign_shift W32 half most x y s t p q = let great : 2 ^ 31 ≤ x = omega arith in grind (arith, ints)
sign_shift W64 half most x y s t p q = let great : 2 ^ 63 ≤ x = omega arith in grind (arith, ints)

-- the sum of two words without a common bit is a word of the width
pub apart_below : (w : Width) (a b : ℕ) → a < modulus w → b < modulus w → compares w cond.AnyBit a b ≡ false → a + b < modulus w
unfolding compares
apart_below W32 a b p q h =
    let none : bit_and a b ≡ 0 = grind (arith, nat_tests) in
    let whole = or_add_and a b in
    let word = or_lt 32 a b p q in
    omega arith
apart_below W64 a b p q h =
    let none : bit_and a b ≡ 0 = grind (arith, nat_tests) in
    let whole = or_add_and a b in
    let word = or_lt 64 a b p q in
    omega arith

-- a signed shift to the right of a member of a range of words with the sign bit lies between the shifts of the ends
pub sign_shifts : (w : Width) (half most : ℕ) (a : Range) (amount x y : ℕ)
    → 2 * half ≡ modulus w → most + 1 ≡ modulus w → half ≤ a.lo → a.hi ≤ most → y ≡ amount → Within a x
    → (most - (most - a.lo) / 2 ^ (amount % bit_count w) ≤ operate w op.Arsh x y % modulus w)
    × (operate w op.Arsh x y % modulus w ≤ most - (most - a.hi) / 2 ^ (amount % bit_count w))
sign_shifts w half most a amount x y s t low high same p =
    let n : ℕ = 2 ^ (amount % bit_count w) in
    let order = quotients_between (most - a.hi) (most - x) (most - a.lo) n (pow_pos (amount % bit_count w)) (omega arith) (omega arith) in
    rw (
      sign_shift w half most x y s t (omega arith) (omega arith),
      same,
      word_is_its_remainder w (most - (most - x) / 2 ^ (amount % bit_count w)) (omega arith),
    ) (omega (arith, order), omega (arith, order))
