-- What an instruction gives on words of its width, and how that lies between what the ends give.
use Rattle.std.proofs.Common.{◌≡◌, ℕ, zero, suc, ◌+◌, ◌*◌, ◌/◌, ◌%◌, ◌^◌, ◌<◌, ◌≤◌, ◌∙◌, sym, arith}
use Rattle.std.proofs.lemmas.Bool.Decides.{nat_tests}
use Rattle.std.specs.Prelude.{◌==◌, if◌then◌else◌, bit_or, bit_xor}
use Rattle.std.specs.Int.Bits.{or_add_and, xor_add_and}
use Rattle.std.proofs.lemmas.Nat.{and_le_l, and_le_r, or_lt, xor_lt, mul-le, le-div, pow_pos}
use Rattle.std.proofs.Math.Nat.{div-mul-le_self}
use Rattle.bq_bpf.specs.Meaning.{modulus, operate, bit_count}
use Rattle.bq_insn.specs.declared.Width.{Width}
use Rattle.bq_insn.specs.declared.Width.TheVariants.{W32, W64}
use Rattle.bq_insn.specs.declared.Operation.TheVariants as op
use Rattle.bq_ranges.specs.declared.range.Range.{Range}
use Rattle.bq_ranges.specs.Within.{Within}

-- a word of the width is its own remainder
pub word_is_its_remainder : (w : Width) (z : ℕ) → z < modulus w → z % modulus w ≡ z
word_is_its_remainder W32 z h = omega arith
word_is_its_remainder W64 z h = omega arith

-- a remainder is a word of the width
pub remainder_is_word : (w : Width) (z : ℕ) → z % modulus w < modulus w
remainder_is_word W32 z = omega arith
remainder_is_word W64 z = omega arith

-- a range that holds a word of the width holds its remainder
pub holds_low_word : (w : Width) (r : Range) (z : ℕ) → r.hi < modulus w → Within r z → Within r (z % modulus w)
holds_low_word w r z fits h = rw (word_is_its_remainder w z (omega arith)) h

-- a range that holds a word of the width holds its remainder
pub held_bits : (w : Width) (r : Range) (z : ℕ) → z < modulus w → Within r z → Within r (z % modulus w)
held_bits w r z fits h = rw (word_is_its_remainder w z fits) h

-- the range of all words of the width holds every remainder
pub held_by_all : (w : Width) (r : Range) (z : ℕ) → r.lo ≡ 0 → r.hi + 1 ≡ modulus w → Within r (z % modulus w)
held_by_all w r z least most = let below = remainder_is_word w z in (omega arith, omega arith)

-- a choice by whether a divisor is 0 takes the second case if the divisor is not 0
if_some : (k t e : ℕ) → (if suc k == 0 then t else e) ≡ e
if_some k t e = grind (arith, nat_tests)

-- a word of the width that is equal to a number is also equal to its remainder
pub as_word : (w : Width) (r z : ℕ) → r ≡ z → r < modulus w → r ≡ z % modulus w
as_word w r z same fits = same ∙ sym (word_is_its_remainder w z (omega arith))

-- a range holds every quotient of members if it holds those by a divisor above 0, and 0 where the divisor may be 0
pub quotient_held : (w : Width) (a b r : Range) → r.hi < modulus w → ((x : ℕ) → Within a x → Within b 0 → Within r 0)
    → ((x y : ℕ) → Within a x → Within b y → 0 < y → Within r (x / y)) → (x y : ℕ) → Within a x → Within b y
    → Within r (operate w op.Div x y % modulus w)
unfolding operate
quotient_held w a b r fits none some x zero p q = holds_low_word w r 0 fits (none x p q)
quotient_held w a b r fits none some x (suc k) p q =
    rw (if_some k 0 (x / suc k)) (holds_low_word w r (x / suc k) fits (some x (suc k) p q (omega arith)))

-- a range holds every remainder of members if it holds those by a divisor above 0, and the dividend where the divisor may be 0
pub remainder_held : (w : Width) (a b r : Range) → r.hi < modulus w → ((x : ℕ) → Within a x → Within b 0 → Within r x)
    → ((x y : ℕ) → Within a x → Within b y → 0 < y → Within r (x % y)) → (x y : ℕ) → Within a x → Within b y
    → Within r (operate w op.Rem x y % modulus w)
unfolding operate
remainder_held w a b r fits none some x zero p q = holds_low_word w r x fits (none x p q)
remainder_held w a b r fits none some x (suc k) p q =
    rw (if_some k x (x % suc k)) (holds_low_word w r (x % suc k) fits (some x (suc k) p q (omega arith)))

-- the union of bits is no less than each, no more than the sum, and a word of the width
pub union_between : (w : Width) (x y : ℕ) → x < modulus w → y < modulus w
    → (x ≤ bit_or x y) × (y ≤ bit_or x y) × (bit_or x y ≤ x + y) × (bit_or x y < modulus w)
union_between W32 x y p q =
    let whole = or_add_and x y in
    let left = and_le_l x y in
    let right = and_le_r x y in
    (omega arith, omega arith, omega arith, or_lt 32 x y p q)
union_between W64 x y p q =
    let whole = or_add_and x y in
    let left = and_le_l x y in
    let right = and_le_r x y in
    (omega arith, omega arith, omega arith, or_lt 64 x y p q)

-- the bits in one of two words make no more than the sum, and a word of the width
pub difference_between : (w : Width) (x y : ℕ) → x < modulus w → y < modulus w → (bit_xor x y ≤ x + y) × (bit_xor x y < modulus w)
difference_between W32 x y p q = let whole = xor_add_and x y in (omega arith, xor_lt 32 x y p q)
difference_between W64 x y p q = let whole = xor_add_and x y in (omega arith, xor_lt 64 x y p q)

-- quotients by one number keep the order
pub quotients_between : (lo x hi n : ℕ) → 0 < n → lo ≤ x → x ≤ hi → (lo / n ≤ x / n) × (x / n ≤ hi / n)
quotients_between lo x hi n some p q =
    let low : lo / n * n ≤ lo = div-mul-le_self lo n in
    let mid : x / n * n ≤ x = div-mul-le_self x n in
    (le-div (lo / n) x n some (omega arith), le-div (x / n) hi n some (omega arith))

-- products by one number keep the order
pub products_between : (lo x hi n : ℕ) → lo ≤ x → x ≤ hi → (lo * n ≤ x * n) × (x * n ≤ hi * n)
products_between lo x hi n p q = (mul-le lo n x n p (omega arith), mul-le x n hi n q (omega arith))

-- a shift to the right by one amount keeps the order
pub shifts_down : (w : Width) (a : Range) (amount x y : ℕ) → y ≡ amount → Within a x
    → (a.lo / 2 ^ (amount % bit_count w) ≤ x / 2 ^ (y % bit_count w)) × (x / 2 ^ (y % bit_count w) ≤ a.hi / 2 ^ (amount % bit_count w))
shifts_down w a amount x y same p =
    rw same (quotients_between a.lo x a.hi (2 ^ (amount % bit_count w)) (pow_pos (amount % bit_count w)) p.0 p.1)

-- what is at most the greatest word divided by a number is, that many times, still a word
fits_times : (most a n : ℕ) → a ≤ most / n → a * n ≤ most
fits_times most a n h =
    let whole : most / n * n ≤ most = div-mul-le_self most n in
    let more : a * n ≤ most / n * n = mul-le a n (most / n) n h (omega arith) in
    omega arith

-- a shift to the left by one amount that loses nothing keeps the order
pub shifts_up : (w : Width) (a : Range) (most n x : ℕ) → most + 1 ≡ modulus w → a.hi ≤ most / n → Within a x
    → (a.lo * n % 2 ^ 64 ≤ x * n % modulus w) × (x * n % modulus w ≤ a.hi * n % 2 ^ 64)
shifts_up w a most n x greatest h p =
    let top : a.hi * n ≤ most = fits_times most a.hi n h in
    let order = products_between a.lo x a.hi n p.0 p.1 in
    let small : x * n % modulus w ≡ x * n = word_is_its_remainder w (x * n) (omega arith) in
    let word : modulus w ≤ 2 ^ 64 = least_word w in
    let low : a.lo * n % 2 ^ 64 ≡ a.lo * n = word_is_its_remainder W64 (a.lo * n) (omega arith) in
    let high : a.hi * n % 2 ^ 64 ≡ a.hi * n = word_is_its_remainder W64 (a.hi * n) (omega arith) in
    rw (small, low, high) (order.0, order.1)
  where
    least_word : (w : Width) → modulus w ≤ 2 ^ 64
    least_word W32 = omega arith
    least_word W64 = omega arith

-- a product of members lies between the products of the ends
pub products_held : (w : Width) (a b : Range) (x y : ℕ) → a.hi * b.hi < modulus w → Within a x → Within b y
    → (a.lo * b.lo ≤ x * y % modulus w) × (x * y % modulus w ≤ a.hi * b.hi)
products_held w a b x y fits p q =
    let least : a.lo * b.lo ≤ x * y = mul-le a.lo b.lo x y p.0 q.0 in
    let most : x * y ≤ a.hi * b.hi = mul-le x y a.hi b.hi p.1 q.1 in
    rw (word_is_its_remainder w (x * y) (omega arith)) (least, most)

-- a quotient of members lies between the least by the greatest and the greatest by the least
pub ratios_between : (a b : Range) (x y : ℕ) → 0 < b.lo → Within a x → Within b y → (a.lo / b.hi ≤ x / y) × (x / y ≤ a.hi / b.lo)
ratios_between a b x y some p q =
    let low : a.lo / b.hi * y ≤ a.lo = less (a.lo / b.hi) y b.hi a.lo q.1 (div-mul-le_self a.lo b.hi) in
    let high : x / y * b.lo ≤ x = less (x / y) b.lo y x q.0 (div-mul-le_self x y) in
    (le-div (a.lo / b.hi) x y (omega arith) (omega arith), le-div (x / y) a.hi b.lo some (omega arith))
  where
    less : (k m n z : ℕ) → m ≤ n → k * n ≤ z → k * m ≤ z
    less k m n z h whole = let smaller : k * m ≤ k * n = mul-le k m k n (omega arith) h in omega arith
