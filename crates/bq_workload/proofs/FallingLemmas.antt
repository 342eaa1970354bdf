-- Greater words never give a longer length.
use Rattle.std.proofs.Common.{◌≡◌, ℕ, zero, suc, ◌+◌, ◌*◌, ◌/◌, ◌^◌, ◌<◌, ◌≤◌, refl, arith, Bool, true, false, cond, ltb, ◌⊎◌, inl, inr}
use Rattle.std.specs.Int.{w64, leading_zeros}
use Rattle.std.proofs.Math.Nat.{mul-le-mul, mul-le-mul_right, pow-suc, pow-le-pow_right}
use Rattle.std.proofs.lemmas.Bool.{ltb-true, ltb-false, cases_lt}
use Rattle.std.proofs.lemmas.Nat.{leading_length}
use Rattle.bq_workload.specs.Draws.{fraction, digit, squared, logarithm}
use Rattle.bq_workload.specs.Laws.{FallsWithWords}
use Rattle.bq_workload.proofs.LogarithmLemmas.{fraction-first}

-- at either answer of the test
digit-by : (b : Bool) → cond b 0 1 ≤ 1
digit-by true = omega arith
digit-by false = omega arith

-- this many digits are a number of this many digits
pub fraction-below : (n m : ℕ) → fraction n 0 m < 2 ^ n
unfolding fraction
fraction-below zero m = omega arith
fraction-below (suc n) m =
    let rest : fraction n 0 (squared m) < 2 ^ n = fraction-below n (squared m) in
    let first : digit m * 2 ^ n ≤ 1 * 2 ^ n = mul-le-mul_right (2 ^ n) (digit-by _) in
    rw (fraction-first n m, pow-suc 2 n) (omega (arith, rest, first))

-- at the answers of both tests
rises-by : (m w : ℕ) (b c : Bool) → ltb (m * m) (2 ^ 127) ≡ b → ltb (w * w) (2 ^ 127) ≡ c → m * m ≤ w * w
    → ((cond b 0 1 ≤ cond c 0 1) × (cond b (m * m / 2 ^ 63) (m * m / 2 ^ 64) ≤ cond c (w * w / 2 ^ 63) (w * w / 2 ^ 64)))
    ⊎ (cond b 0 1 + 1 ≤ cond c 0 1)
rises-by m w true true e f h = inl (omega arith, omega (arith, h))
rises-by m w true false e f h = inr (omega arith)
rises-by m w false true e f h = absurd (omega (arith, h, ltb-false _ _ e, ltb-true _ _ f))
rises-by m w false false e f h = inl (omega arith, omega (arith, h))

-- a greater mantissa has a greater digit, or no less a digit and no less is left
rises : (m w : ℕ) → m ≤ w → ((digit m ≤ digit w) × (squared m ≤ squared w)) ⊎ (digit m + 1 ≤ digit w)
rises m w h = rises-by m w _ _ refl refl (mul-le-mul h h)

-- the digits of a greater mantissa are no less
pub fraction-rises : (n m w : ℕ) → m ≤ w → fraction n 0 m ≤ fraction n 0 w
unfolding fraction
fraction-rises zero m w h = omega arith
fraction-rises (suc n) m w h =
    rw (fraction-first n m, fraction-first n w) (elim (rises m w h) [
      | inl same ↦
          let whole : digit m * 2 ^ n ≤ digit w * 2 ^ n = mul-le-mul_right (2 ^ n) same.0 in
          omega (arith, whole, fraction-rises n (squared m) (squared w) same.1)
      | inr more ↦
          let whole : (digit m + 1) * 2 ^ n ≤ digit w * 2 ^ n = mul-le-mul_right (2 ^ n) more in
          omega (arith, whole, fraction-below n (squared m))
    ])

-- a greater word begins with no more zeros
zeros-fall : (a b : ℕ) → a ≤ b → b < 2 ^ 64 → leading_zeros w64 b ≤ leading_zeros w64 a
zeros-fall a b h high =
    let low = leading_length 64 a (omega (arith, h, high)) in
    let top = leading_length 64 b high in
    elim (cases_lt top.0 low.0) [
      | inl more ↦
          let powers : 2 ^ suc top.0 ≤ 2 ^ low.0 = pow-le-pow_right (omega arith) more in
          let twice : 2 ^ suc top.0 ≡ 2 ^ top.0 * 2 = pow-suc 2 top.0 in
          absurd (omega (arith, h, low.3, top.2, rw twice at powers))
      | inr less ↦ omega (arith, less, low.1, top.1)
    ]

-- the logarithm of greater words is no greater
pub logarithm-falls : (first second higher later : ℕ) → first ≤ higher → higher < 2 ^ 64 → second ≤ later
    → logarithm higher later ≤ logarithm first second
logarithm-falls first second higher later h high after =
    let zeros : leading_zeros w64 higher ≤ leading_zeros w64 first = zeros-fall first higher h high in
    let digits : fraction 32 0 (2 ^ 63 + second / 2) ≤ fraction 32 0 (2 ^ 63 + later / 2) = fraction-rises 32 _ _ (omega (arith, after)) in
    omega (arith, zeros, digits)

-- greater words never give a longer length
pub falls-with-words : FallsWithWords
falls-with-words mean first second higher later h high after =
    let less : logarithm higher later ≤ logarithm first second = logarithm-falls first second higher later h high after in
    let times : logarithm higher later * 2977044472 * mean ≤ logarithm first second * 2977044472 * mean =
    mul-le-mul_right mean (mul-le-mul_right 2977044472 less) in
    omega (arith, times)
