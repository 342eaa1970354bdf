-- The digits are those of a logarithm.
use Rattle.std.proofs.Common.{◌≡◌, ℕ, zero, suc, ◌+◌, ◌-◌, ◌*◌, ◌/◌, ◌^◌, ◌<◌, ◌≤◌, refl, ◌∙◌, ap, arith, Bool, true, false, cond, ltb}
use Rattle.std.proofs.Math.Nat.{mul-le-mul, mul-le-mul_left, mul-le-mul_right, pow-suc, pow-zero, pow-le-pow_left, pow-le-pow_right, one-le-pow, lt_of_mul-lt-mul_right, le_trans}
use Rattle.std.proofs.lemmas.Bool.{ltb-true, ltb-false}
use Rattle.std.proofs.lemmas.Nat.{pow-add, mul-pow, pow_pos, mul-lt}
use Rattle.bq_workload.specs.Draws.{fraction, digit, squared}
use Rattle.bq_workload.specs.Laws.{GivesLogarithm}

-- a number to the power of one
power-of-one : (m : ℕ) → m ^ (2 ^ 0) ≡ m
power-of-one m =
    let none : m ^ 0 ≡ 1 = pow-zero m in
    pow-suc m 0 ∙ rw none (omega arith)

-- a power of a power
pub power-of-power : (a i k : ℕ) → (a ^ i) ^ k ≡ a ^ (i * k)
power-of-power a i zero =
    let none : i * 0 ≡ 0 = omega arith in
    rw (none, pow-zero (a ^ i), pow-zero a) refl
power-of-power a i (suc k) =
    let turned : i * suc k ≡ i * k + i = omega arith in
    rw (turned, pow-add a (i * k) i, pow-suc (a ^ i) k, power-of-power a i k) refl

-- the digits that are known stand before those that come
pub known-before : (n known m : ℕ) → fraction n known m ≡ known * 2 ^ n + fraction n 0 m
unfolding fraction
known-before zero known m = omega arith
known-before (suc n) known m =
    let here : fraction n (2 * known + digit m) (squared m) ≡ (2 * known + digit m) * 2 ^ n + fraction n 0 (squared m) =
    known-before n _ _ in
    let there : fraction n (2 * 0 + digit m) (squared m) ≡ (2 * 0 + digit m) * 2 ^ n + fraction n 0 (squared m) = known-before n _ _ in
    let power : 2 ^ suc n ≡ 2 ^ n * 2 = pow-suc 2 n in
    rw (here, there, power) (omega arith)

-- one digit, and the digits of what is left
pub fraction-first : (n m : ℕ) → fraction (suc n) 0 m ≡ digit m * 2 ^ n + fraction n 0 (squared m)
unfolding fraction
fraction-first n m =
    let there : fraction n (2 * 0 + digit m) (squared m) ≡ (2 * 0 + digit m) * 2 ^ n + fraction n 0 (squared m) = known-before n _ _ in
    rw there (omega arith)

-- what a mantissa's square says of its digit and of what is left
pub record Squares (m d s : ℕ) : Type 0 where
  pub below : s * 2 ^ (63 + d) ≤ m * m
  pub near : m * m * 2 ^ 63 ≤ s * (2 ^ 63 + 1) * 2 ^ (63 + d)
  pub low : 2 ^ 63 ≤ s
  pub small : d ≤ 1

-- at either answer of the test
squares-by : (m : ℕ) (b : Bool) → ltb (m * m) (2 ^ 127) ≡ b → 2 ^ 126 ≤ m * m
    → Squares m (cond b 0 1) (cond b (m * m / 2 ^ 63) (m * m / 2 ^ 64))
squares-by m true e h = record { below = omega arith; near = omega arith; low = omega arith; small = omega arith }
squares-by m false e h =
    let passed : 2 ^ 127 ≤ m * m = ltb-false _ _ e in
    record { below = omega arith; near = omega arith; low = omega arith; small = omega arith }

-- a mantissa's square is the power of two by its digit, times what is left, except for the part that is cut off
pub squares-of : (m : ℕ) → 2 ^ 63 ≤ m → Squares m (digit m) (squared m)
squares-of m h = squares-by m _ refl (mul-le-mul h h)

-- a mantissa to twice a power is its square to that power
square-power : (n m : ℕ) → m ^ (2 ^ suc n) ≡ (m * m) ^ (2 ^ n)
square-power n m =
    let turned : 2 ^ suc n ≡ 2 ^ n + 2 ^ n = pow-suc 2 n ∙ omega arith in
    rw (turned, pow-add m (2 ^ n) (2 ^ n), mul-pow m m (2 ^ n)) refl

-- the power of two by a mantissa's digits, by those of its square
powers-split : (n m more : ℕ)
    → 2 ^ (fraction (suc n) 0 m + more + 63 * 2 ^ suc n)
    ≡ 2 ^ (fraction n 0 (squared m) + more + 63 * 2 ^ n) * 2 ^ ((63 + digit m) * 2 ^ n)
powers-split n m more =
    let split : fraction (suc n) 0 m + more + 63 * 2 ^ suc n
    ≡ (fraction n 0 (squared m) + more + 63 * 2 ^ n) + (63 + digit m) * 2 ^ n =
    rw (fraction-first n m, pow-suc 2 n) (omega arith) in
    rw split (pow-add 2 _ _)

-- the digits are never more than the logarithm
pub never-more : (n m : ℕ) → 2 ^ 63 ≤ m → 2 ^ (fraction n 0 m + 0 + 63 * 2 ^ n) ≤ m ^ (2 ^ n)
unfolding fraction
never-more zero m h = rw (power-of-one m) h
never-more (suc n) m h =
    let square : Squares m (digit m) (squared m) = squares-of m h in
    let rest : 2 ^ (fraction n 0 (squared m) + 0 + 63 * 2 ^ n) ≤ squared m ^ (2 ^ n) = never-more n (squared m) square.low in
    let whole : (squared m * 2 ^ (63 + digit m)) ^ (2 ^ n) ≤ (m * m) ^ (2 ^ n) = pow-le-pow_left square.below (2 ^ n) in
    let parts : (squared m * 2 ^ (63 + digit m)) ^ (2 ^ n) ≡ squared m ^ (2 ^ n) * 2 ^ ((63 + digit m) * 2 ^ n) =
    mul-pow _ _ (2 ^ n) ∙ ap (λ (x : ℕ). squared m ^ (2 ^ n) * x) (power-of-power 2 (63 + digit m) (2 ^ n)) in
    rw (powers-split n m 0, square-power n m) (le_trans (mul-le-mul_right _ rest) (rw parts at whole))

-- a number and one more, to a power, are not much apart
pub next_power_is_near : (size k j : ℕ) → k + j ≡ size → (size + 1) ^ k * j ≤ size ^ k * size
next_power_is_near size zero j h = rw (pow-zero (size + 1), pow-zero size) (omega (arith, h))
next_power_is_near size (suc k) j h =
    let before : (size + 1) ^ k * (j + 1) ≤ size ^ k * size = next_power_is_near size k (j + 1) (omega (arith, h)) in
    let less : (size + 1) * j ≤ (j + 1) * size = omega (arith, h) in
    let grown : (size + 1) ^ k * ((size + 1) * j) ≤ (size + 1) ^ k * ((j + 1) * size) = mul-le-mul_left _ less in
    let whole : (size + 1) ^ k * (j + 1) * size ≤ size ^ k * size * size = mul-le-mul_right size before in
    rw (pow-suc (size + 1) k, pow-suc size k) (omega (arith, grown, whole))

-- what is cut off of the squares adds up to less than one digit
pub cut-off : (n : ℕ) → n ≤ 62 → (2 ^ 63 + 1) ^ (2 ^ n) ≤ 2 * (2 ^ 63) ^ (2 ^ n)
cut-off n h =
    let few : 2 ^ n ≤ 2 ^ 62 = pow-le-pow_right (omega arith) h in
    let rest : 2 ^ n + (2 ^ 63 - 2 ^ n) ≡ 2 ^ 63 = omega (arith, few) in
    let near : (2 ^ 63 + 1) ^ (2 ^ n) * (2 ^ 63 - 2 ^ n) ≤ (2 ^ 63) ^ (2 ^ n) * 2 ^ 63 =
    next_power_is_near (2 ^ 63) (2 ^ n) (2 ^ 63 - 2 ^ n) rest in
    let half : (2 ^ 63 + 1) ^ (2 ^ n) * 2 ^ 62 ≤ (2 ^ 63 + 1) ^ (2 ^ n) * (2 ^ 63 - 2 ^ n) = mul-le-mul_left _ (omega (arith, few)) in
    omega (arith, near, half)

-- a number to twice a power
doubled : (n a : ℕ) → a ^ (2 ^ suc n) ≡ a ^ (2 ^ n) * a ^ (2 ^ n)
doubled n a =
    let turned : 2 ^ suc n ≡ 2 ^ n + 2 ^ n = pow-suc 2 n ∙ omega arith in
    rw (turned, pow-add a (2 ^ n) (2 ^ n)) refl

-- one more square is cut off
chained : (a b s g p r : ℕ) → a * b ≤ s * g * p → s * b < g * r → 0 < g * p → a * (b * b) < g * g * (r * p)
chained a b s g p r near rest some =
    let one : a * b * b ≤ s * g * p * b = mul-le-mul_right b near in
    let two : (s * b + 1) * (g * p) ≤ g * r * (g * p) = mul-le-mul_right (g * p) (omega (arith, rest)) in
    omega (arith, one, two, some)

-- at either answer of the test
squared-by : (m : ℕ) (b : Bool) → ltb (m * m) (2 ^ 127) ≡ b → m * m < 2 ^ 128 → cond b (m * m / 2 ^ 63) (m * m / 2 ^ 64) < 2 ^ 64
squared-by m true e h =
    let kept : m * m < 2 ^ 127 = ltb-true _ _ e in
    omega (arith, kept)
squared-by m false e h = omega (arith, h)

-- what is left of a square is a mantissa too
pub squared-high : (m : ℕ) → m < 2 ^ 64 → squared m < 2 ^ 64
squared-high m h = squared-by m _ refl (mul-lt m m (2 ^ 64) (2 ^ 64) h h)

-- a power is not zero
some-power : (a n : ℕ) → 0 < (a + 1) ^ n
some-power a n = one-le-pow n (a + 1) (omega arith)

-- the digits and one more are above the logarithm, except for what is cut off
pub never-far : (n m : ℕ) → 2 ^ 63 ≤ m → m < 2 ^ 64
    → m ^ (2 ^ n) * (2 ^ 63) ^ (2 ^ n) < (2 ^ 63 + 1) ^ (2 ^ n) * 2 ^ (fraction n 0 m + 1 + 63 * 2 ^ n)
unfolding fraction
never-far zero m h high = rw (power-of-one m) (omega (arith, high))
never-far (suc n) m h high =
    let square : Squares m (digit m) (squared m) = squares-of m h in
    let rest : squared m ^ (2 ^ n) * (2 ^ 63) ^ (2 ^ n)
    < (2 ^ 63 + 1) ^ (2 ^ n) * 2 ^ (fraction n 0 (squared m) + 1 + 63 * 2 ^ n) =
    never-far n (squared m) square.low (squared-high m high) in
    let whole : (m * m * 2 ^ 63) ^ (2 ^ n) ≤ (squared m * (2 ^ 63 + 1) * 2 ^ (63 + digit m)) ^ (2 ^ n) =
    pow-le-pow_left square.near (2 ^ n) in
    let left : (m * m * 2 ^ 63) ^ (2 ^ n) ≡ (m * m) ^ (2 ^ n) * (2 ^ 63) ^ (2 ^ n) = mul-pow (m * m) (2 ^ 63) (2 ^ n) in
    let right : (squared m * (2 ^ 63 + 1) * 2 ^ (63 + digit m)) ^ (2 ^ n)
    ≡ squared m ^ (2 ^ n) * (2 ^ 63 + 1) ^ (2 ^ n) * 2 ^ ((63 + digit m) * 2 ^ n) =
    rw (
      mul-pow (squared m * (2 ^ 63 + 1)) (2 ^ (63 + digit m)) (2 ^ n),
      mul-pow (squared m) (2 ^ 63 + 1) (2 ^ n),
      power-of-power 2 (63 + digit m) (2 ^ n),
    ) refl in
    let some : 0 < (2 ^ 63 + 1) ^ (2 ^ n) * 2 ^ ((63 + digit m) * 2 ^ n) =
    mul-le-mul (some-power (2 ^ 63) (2 ^ n)) (pow_pos ((63 + digit m) * 2 ^ n)) in
    rw (powers-split n m 1, square-power n m, doubled n (2 ^ 63), doubled n (2 ^ 63 + 1))
    (chained ((m * m) ^ (2 ^ n)) ((2 ^ 63) ^ (2 ^ n)) (squared m ^ (2 ^ n)) ((2 ^ 63 + 1) ^ (2 ^ n))
    (2 ^ ((63 + digit m) * 2 ^ n)) _ (rw (left, right) at whole) rest some)

-- where twice as much is no more than a factor apart, it is cancelled
cancelled : (a b g r : ℕ) → a * b < g * r → g ≤ 2 * b → a < r * 2
cancelled a b g r h twice =
    let more : g * r ≤ 2 * b * r = mul-le-mul_right r twice in
    lt_of_mul-lt-mul_right b (omega (arith, h, more))

-- the digits of a mantissa are those of its logarithm
pub gives-logarithm : GivesLogarithm
gives-logarithm n m h high few =
    let bare : fraction n 0 m + 0 + 63 * 2 ^ n ≡ fraction n 0 m + 63 * 2 ^ n = omega arith in
    let one : fraction n 0 m + 2 + 63 * 2 ^ n ≡ suc (fraction n 0 m + 1 + 63 * 2 ^ n) = omega arith in (
      rw bare at (never-more n m h),
      rw (one, pow-suc 2 (fraction n 0 m + 1 + 63 * 2 ^ n))
          (cancelled (m ^ (2 ^ n)) ((2 ^ 63) ^ (2 ^ n)) ((2 ^ 63 + 1) ^ (2 ^ n)) _ (never-far n m h high) (cut-off n few)),
    )
