-- A mask of 64 bits allows no processor beyond them.
use Rattle.std.proofs.Common.{◌≡◌, ℕ, ◌/◌, ◌%◌, ◌^◌, ◌<◌, ◌≤◌, false, ap, arith}
use Rattle.std.specs.Prelude.{◌==◌}
use Rattle.std.proofs.Math.Nat.{pow-le-pow_right}
use Rattle.std.proofs.lemmas.Nat.{div_below}
use Rattle.bq_disc.specs.Masks.{allows}

-- a mask of 64 bits has no processor beyond them
pub allows-late : (mask p : ℕ) → mask < 2 ^ 64 → 64 ≤ p → allows mask p ≡ false
allows-late mask p low late =
    let grows : 2 ^ 64 ≤ 2 ^ p = pow-le-pow_right (omega arith) late in
    let below : mask / 2 ^ p < 1 = div_below mask (2 ^ p) 1 (omega (arith, grows)) (omega (arith, low, grows)) in
    let none : mask / 2 ^ p ≡ 0 = omega (arith, below) in
    ap (λ (q : ℕ). q % 2 == 1) none
