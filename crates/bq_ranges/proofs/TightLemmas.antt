-- When the ends of a result are outcomes: what holds of the low bits of the operands holds of all words that have these low bits.
use Rattle.std.proofs.Common.{◌≡◌, ℕ, ◌+◌, ◌-◌, ◌%◌, ◌<◌, ◌≤◌, refl, sym, arith}
use Rattle.std.specs.Prelude.{bit_and}
use Rattle.std.proofs.lemmas.Nat.{and_le_l, and_le_r}
use Rattle.bq_bpf.specs.Meaning.{alu_result, modulus, operate}
use Rattle.bq_insn.specs.declared.Width.{Width}
use Rattle.bq_insn.specs.declared.Width.TheVariants.{W32, W64}
use Rattle.bq_insn.specs.declared.Operation.{Operation}
use Rattle.bq_insn.specs.declared.Operation.TheVariants as op
use Rattle.bq_ranges.specs.declared.range.Range.{Range}
use Rattle.bq_ranges.specs.Within.{Within}
use Rattle.bq_ranges.specs.Tight.{IsTightAt, IsTightWithin, IsReachable, greatest_by, least_by}

-- if the least range is promised for two ranges of words, it is promised for the ranges of their low bits
pub tight_within : (w : Width) (o : Operation) (a b low_a low_b : Range)
    → ((x : ℕ) × Within a x × (x % modulus w ≡ low_a.lo)) → ((x : ℕ) × Within a x × (x % modulus w ≡ low_a.hi))
    → ((y : ℕ) × Within b y × (y % modulus w ≡ low_b.lo)) → ((y : ℕ) × Within b y × (y % modulus w ≡ low_b.hi))
    → IsTightAt w o a b
    → IsTightWithin w o low_a low_b
tight_within w op.Add a b low_a low_b least (x, p, e) (z, s, g) (y, q, f) promised = rw (← e, ← f) (promised x y p q)
tight_within w op.Sub a b low_a low_b (u, r, d) (x, p, e) (z, s, g) (y, q, f) promised = rw (← f, ← d) (promised u y r q)
tight_within w op.Mul a b low_a low_b least (x, p, e) (z, s, g) (y, q, f) promised = rw (← e, ← f) (promised x y p q)
tight_within w op.Rsh a b low_a low_b least (x, p, e) (z, s, g) (y, q, f) promised =
    let same : z ≡ y = omega arith in rw (← g, ← f, same) refl
tight_within w op.Mov a b low_a low_b least (x, p, e) (z, s, g) (y, q, f) promised = promised
tight_within w _ a b low_a low_b least (x, p, e) (z, s, g) (y, q, f) promised = promised

-- the result of the operation on low bits that two members have is reachable from the ranges of these members
pub low_bits_reach : (w : Width) (o : Operation) (a b : Range) (low_x low_y z : ℕ)
    → ((x : ℕ) × Within a x × (x % modulus w ≡ low_x)) → ((y : ℕ) × Within b y × (y % modulus w ≡ low_y))
    → z ≡ operate w o low_x low_y % modulus w
    → IsReachable w o a b z
low_bits_reach w o a b low_x low_y z (x, p, e) (y, q, f) is = (x, y, p, q, rw (e, f) (sym is))

-- both ends of the low bits are reached, so also the one that gives the least outcome
pub least_reached : (w : Width) (o : Operation) (b low_b : Range)
    → ((y : ℕ) × Within b y × (y % modulus w ≡ low_b.lo)) → ((y : ℕ) × Within b y × (y % modulus w ≡ low_b.hi))
    → (y : ℕ) × Within b y × (y % modulus w ≡ least_by o low_b)
least_reached w op.Sub b low_b low high = high
least_reached w _ b low_b low high = low

-- both ends of the low bits are reached, so also the one that gives the greatest outcome
pub greatest_reached : (w : Width) (o : Operation) (b low_b : Range)
    → ((y : ℕ) × Within b y × (y % modulus w ≡ low_b.lo)) → ((y : ℕ) × Within b y × (y % modulus w ≡ low_b.hi))
    → (y : ℕ) × Within b y × (y % modulus w ≡ greatest_by o low_b)
greatest_reached w op.Sub b low_b low high = low
greatest_reached w _ b low_b low high = high

-- a difference of words that does not wrap is the remainder
pub as_difference : (w : Width) (r x y : ℕ) → r ≡ x - y → y ≤ x → x < modulus w → r ≡ (x + (modulus w - y)) % modulus w
as_difference W32 r x y is order fits = omega arith
as_difference W64 r x y is order fits = omega arith

-- the low bits of a word are at most the word
remainder_below : (w : Width) (x : ℕ) → x % modulus w ≤ x
remainder_below W32 x = omega arith
remainder_below W64 x = omega arith

-- the AND of two words is at most each of them
pub common_below : (w : Width) (x y : ℕ) → (alu_result w op.And x y ≤ x) × (alu_result w op.And x y ≤ y)
unfolding operate
common_below w x y =
    let whole = remainder_below w (bit_and (x % modulus w) (y % modulus w)) in
    let left = and_le_l (x % modulus w) (y % modulus w) in
    let right = and_le_r (x % modulus w) (y % modulus w) in
    let low_x = remainder_below w x in
    let low_y = remainder_below w y in
    (omega arith, omega arith)
