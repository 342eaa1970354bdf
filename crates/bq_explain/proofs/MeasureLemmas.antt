-- The values of a map take at most 65536 bytes.
use Rattle.std.proofs.Common.{◌≡◌, ℕ, ◌*◌, ◌≤◌, subst, sym}
use Rattle.std.proofs.Math.Nat.{mul-le-mul}
use Rattle.bq_bpf.specs.declared.shape.MapShape.{MapShape}

-- the values of a map have few bytes
pub few_bytes : (shape : MapShape) (bytes : ℕ) → bytes ≡ shape.value_size * shape.entries → bytes ≤ 65536
few_bytes shape bytes is =
    let product : shape.value_size * shape.entries ≤ 256 * 256 = mul-le-mul shape.greatest_size shape.greatest_entries in
    subst (λ (n : ℕ). n ≤ 65536) (sym is) product
