-- What is shown of the numbers of a range, for one number more.
use Rattle.std.proofs.Common.{◌≡◌, ℕ, suc, zero, ◌+◌, Bool, cond, List, [], ◌++◌, filter, arith}
use Rattle.std.specs.List.{flat_map, range_with_len}
use Rattle.std.proofs.lemmas.Grind.{common_steps}

-- the lists of a range that is longer by one are those before, and that of its last number
flat_map-range_more : {X : Type 0} (f : ℕ → List X) (first count : ℕ)
    → flat_map f (range_with_len first (count + 1)) ≡ flat_map f (range_with_len first count) ++ f (first + count)
flat_map-range_more f first zero = grind (arith, common_steps)
flat_map-range_more f first (suc count) = grind (arith, common_steps, flat_map-range_more f (first + 1) count)

-- the lists of a range that is longer by one, of only those numbers that pass a test
flat_map-filter-range_more : {X : Type 0} (f : ℕ → List X) (test : ℕ → Bool) (first count : ℕ)
    → flat_map f (filter test (range_with_len first (count + 1)))
    ≡ flat_map f (filter test (range_with_len first count)) ++ cond (test (first + count)) (f (first + count)) []
flat_map-filter-range_more f test first zero = grind (arith, common_steps)
flat_map-filter-range_more f test first (suc count) = grind (arith, common_steps, flat_map-filter-range_more f test (first + 1) count)

-- a text that tells the numbers so far, and then the next one, tells one number more
pub reported_more : (f : ℕ → List ℕ) (count : ℕ) (begun before after : List ℕ)
    → before ≡ begun ++ flat_map f (range_with_len 0 count) → after ≡ before ++ f count
    → after ≡ begun ++ flat_map f (range_with_len 0 (count + 1))
reported_more f count begun before after reported grown = grind (arith, common_steps, flat_map-range_more f 0 count)

-- a text that tells the numbers so far that pass a test, and then the next one if it does, tells one number more
pub reported_more_passing : (f : ℕ → List ℕ) (test : ℕ → Bool) (count : ℕ) (begun before after : List ℕ)
    → before ≡ begun ++ flat_map f (filter test (range_with_len 0 count)) → after ≡ before ++ cond (test count) (f count) []
    → after ≡ begun ++ flat_map f (filter test (range_with_len 0 (count + 1)))
reported_more_passing f test count begun before after reported grown =
    grind (arith, common_steps, flat_map-filter-range_more f test 0 count)
