-- Digits of a logarithm, one after another.
use Rattle.std.proofs.Common.{◌≡◌, ℕ, zero, suc, ◌+◌, ◌-◌, ◌*◌, ◌^◌, ◌<◌, ◌≤◌, refl, arith, sub-one}
use Rattle.std.proofs.Math.Nat.{mul-le-mul_right, pow-suc}
use Rattle.bq_workload.specs.Draws.{fraction, digit, squared}

-- a fraction goes on by one more digit
pub fraction-step : (left known m d r : ℕ) → 0 < left → d ≡ digit m → r ≡ squared m
    → fraction (left - 1) (2 * known + d) r ≡ fraction left known m
unfolding fraction
fraction-step zero known m d r h e f = absurd (omega arith)
fraction-step (suc n) known m d r h e f = rw (sub-one, e, f) refl

-- a number with room for this many digits takes one
pub room-step : (left known d : ℕ) → 0 < left → d ≤ 1 → (known + 1) * 2 ^ left ≤ 4294967296
    → (2 * known + d + 1) * 2 ^ (left - 1) ≤ 4294967296
room-step zero known d h small room = absurd (omega arith)
room-step (suc n) known d h small room =
    let power : 2 ^ suc n ≡ 2 ^ n * 2 = pow-suc 2 n in
    let more : (2 * known + d + 1) * 2 ^ n ≤ (2 * known + 2) * 2 ^ n = mul-le-mul_right (2 ^ n) (omega arith) in
    let whole : (known + 1) * (2 ^ n * 2) ≤ 4294967296 = rw power at room in
    rw sub-one (omega (arith, more, whole))

-- with no digit left a fraction is what is known of it
pub fraction-end : (left known m : ℕ) → left ≤ 0 → fraction left known m ≡ known
unfolding fraction
fraction-end zero known m h = refl
fraction-end (suc n) known m h = absurd (omega arith)
