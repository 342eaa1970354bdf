-- The bytes of a slot are those that its numbers were read from.
use Rattle.std.proofs.Common.{◌≡◌, ℕ, ◌+◌, ◌*◌, ◌/◌, ◌%◌, ◌^◌, ◌<◌, ◌≤◌, List, ◌∷◌, ◌++◌, length, drop, slice_index_or, Fits, arith}
use Rattle.std.specs.Int.{w8}
use Rattle.std.proofs.Math.Facts.{Fits-lt-pow}
use Rattle.byteorder.specs.Endian.{little_number}
use Rattle.bq_insn.specs.Spelling.{slot, slot_bytes}

-- eight bytes are the bytes of the numbers that stand in them
pub read_back : (bytes : List ℕ) (offset imm : ℕ) → 8 ≤ length bytes → ((i : ℕ) → Fits w8 (slice_index_or bytes i 0))
    → offset ≡ little_number 2 (drop 2 bytes) → imm ≡ little_number 4 (drop 4 bytes)
    → bytes ≡ slot_bytes (slot (slice_index_or bytes 0 0) (slice_index_or bytes 1 0 % 16) (slice_index_or bytes 1 0 / 16) offset imm)
    ++ drop 8 bytes
read_back (a ∷ b ∷ c ∷ d ∷ e ∷ f ∷ g ∷ h ∷ rest) offset imm long fits to ti =
    let tc : c < 2 ^ 8 = Fits-lt-pow (fits 2) in
    let td : d < 2 ^ 8 = Fits-lt-pow (fits 3) in
    let te : e < 2 ^ 8 = Fits-lt-pow (fits 4) in
    let tf : f < 2 ^ 8 = Fits-lt-pow (fits 5) in
    let tg : g < 2 ^ 8 = Fits-lt-pow (fits 6) in
    let th : h < 2 ^ 8 = Fits-lt-pow (fits 7) in
    let eb : b ≡ b % 16 + 16 * (b / 16) = omega arith in
    let ec : c ≡ offset % 256 = omega arith in
    let ed : d ≡ offset / 256 % 256 = omega arith in
    let ee : e ≡ imm % 256 = omega arith in
    let ef : f ≡ imm / 256 % 256 = omega arith in
    let eg : g ≡ imm / 65536 % 256 = omega arith in
    let eh : h ≡ imm / 16777216 % 256 = omega arith in
    cc
read_back bytes offset imm long fits to ti = absurd (omega arith)
