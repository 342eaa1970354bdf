-- What is made of the numbers of a range, for one number more.
use Rattle.std.proofs.Common.{◌≡◌, ℕ, suc, zero, ◌+◌, List, ◌++◌, arith}
use Rattle.std.specs.List.{flat_map, range_with_len}
use Rattle.std.proofs.lemmas.Grind.{common_steps}

-- the lists of a range that is longer by one are those before, and that of its last number
pub flat_map-range_more : {X : Type 0} (f : ℕ → List X) (first count : ℕ)
    → flat_map f (range_with_len first (count + 1)) ≡ flat_map f (range_with_len first count) ++ f (first + count)
flat_map-range_more f first zero = grind (arith, common_steps)
flat_map-range_more f first (suc count) = grind (arith, common_steps, flat_map-range_more f (first + 1) count)
