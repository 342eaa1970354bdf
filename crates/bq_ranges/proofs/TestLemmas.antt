-- What a test by unsigned order or equality says of its two words, and where low halves are tested as whole words.
use Rattle.std.proofs.Common.{◌≡◌, ◌≢◌, ℕ, ◌%◌, ◌^◌, ◌<◌, ◌≤◌, Bool, true, false, refl, arith}
use Rattle.std.proofs.lemmas.Bool.Decides.{nat_tests}
use Rattle.std.specs.Prelude.{Option, Some, None, not, bit_and, ◌==◌}
use Rattle.std.proofs.lemmas.Nat.{and_comm}
use Rattle.bq_bpf.specs.Meaning.{taken, compares, modulus}
use Rattle.bq_insn.specs.declared.Width.{Width}
use Rattle.bq_insn.specs.declared.Width.TheVariants.{W32, W64}
use Rattle.bq_insn.specs.declared.Condition.{Condition}
use Rattle.bq_insn.specs.declared.Condition.TheVariants as cond
use Rattle.bq_ranges.specs.declared.range.Range.{Range}
use Rattle.bq_ranges.specs.Within.{Within, EndsAre}
use Rattle.bq_ranges.specs.Tight.{EndsTestAs, TestsAs, IsByOrder, IsSigned}

-- what the outcome of a test by order or equality says of its two words; of any other test it says nothing
abbrev pub Meets : Condition → Bool → ℕ → ℕ → Type 0
Meets cond.Equal true a b = a ≡ b
Meets cond.Equal false a b = a ≢ b
Meets cond.NotEqual true a b = a ≢ b
Meets cond.NotEqual false a b = a ≡ b
Meets cond.Greater true a b = b < a
Meets cond.Greater false a b = a ≤ b
Meets cond.GreaterEqual true a b = b ≤ a
Meets cond.GreaterEqual false a b = a < b
Meets cond.Less true a b = a < b
Meets cond.Less false a b = b ≤ a
Meets cond.LessEqual true a b = a ≤ b
Meets cond.LessEqual false a b = b < a
Meets _ goes a b = Unit {0}

-- if a test comes out that way, its two words are in the order that the outcome says
pub test_meets_side : (c : Condition) (goes : Bool) (a b : ℕ) → a < 2 ^ 64 → b < 2 ^ 64 → taken W64 c a b ≡ goes → Meets c goes a b
unfolding compares
test_meets_side cond.Equal true a b p q h = grind (arith, nat_tests)
test_meets_side cond.Equal false a b p q h = grind (arith, nat_tests)
test_meets_side cond.NotEqual true a b p q h = grind (arith, nat_tests)
test_meets_side cond.NotEqual false a b p q h = grind (arith, nat_tests)
test_meets_side cond.Greater true a b p q h = grind (arith, nat_tests)
test_meets_side cond.Greater false a b p q h = grind (arith, nat_tests)
test_meets_side cond.GreaterEqual true a b p q h = grind (arith, nat_tests)
test_meets_side cond.GreaterEqual false a b p q h = grind (arith, nat_tests)
test_meets_side cond.Less true a b p q h = grind (arith, nat_tests)
test_meets_side cond.Less false a b p q h = grind (arith, nat_tests)
test_meets_side cond.LessEqual true a b p q h = grind (arith, nat_tests)
test_meets_side cond.LessEqual false a b p q h = grind (arith, nat_tests)
test_meets_side _ goes a b p q h = tt

-- if two words are in the order that the outcome of a test says, the test comes out that way
pub goes_where : (c : Condition) (goes : Bool) (a b : ℕ) → IsByOrder c → a < 2 ^ 64 → b < 2 ^ 64 → Meets c goes a b → taken W64 c a b ≡ goes
unfolding compares
goes_where cond.Equal true a b u p q h = grind (arith, nat_tests)
goes_where cond.Equal false a b u p q h = grind (arith, nat_tests)
goes_where cond.NotEqual true a b u p q h = grind (arith, nat_tests)
goes_where cond.NotEqual false a b u p q h = grind (arith, nat_tests)
goes_where cond.Greater true a b u p q h = grind (arith, nat_tests)
goes_where cond.Greater false a b u p q h = grind (arith, nat_tests)
goes_where cond.GreaterEqual true a b u p q h = grind (arith, nat_tests)
goes_where cond.GreaterEqual false a b u p q h = grind (arith, nat_tests)
goes_where cond.Less true a b u p q h = grind (arith, nat_tests)
goes_where cond.Less false a b u p q h = grind (arith, nat_tests)
goes_where cond.LessEqual true a b u p q h = grind (arith, nat_tests)
goes_where cond.LessEqual false a b u p q h = grind (arith, nat_tests)
goes_where _ goes a b u p q h = absurd u

-- if both ends of the range that is left are in that order to the bound, the test of both ends comes out that way
pub ends_go : (c : Condition) (goes : Bool) (a : Range) (b : ℕ) (P : ℕ → Type 0) (r : Option Range)
    → IsByOrder c → b < 2 ^ 64 → ((x : ℕ) → P x → Within a x × Meets c goes x b) → EndsAre P r
    → EndsTestAs c a b goes r
ends_go c goes a b P None u q shows ends = tt
ends_go c goes a b P (Some r) u q shows ends = (at r.lo (omega arith) ends.0, at r.hi (omega arith) ends.1)
  where
    at : (x : ℕ) → x < 2 ^ 64 → P x → TestsAs c a b goes x
    at x p h = let here = shows x h in (here.0, goes_where c goes x b u p q here.1)

-- a test by no sign is the same on low halves and on whole words where the words have no upper half
pub same_on_low_halves : (c : Condition) (a b : ℕ) → (IsSigned c → ⊥) → a < 2 ^ 32 → b < 2 ^ 32 → taken W32 c a b ≡ taken W64 c a b
unfolding compares
same_on_low_halves cond.SignedGreater a b unsigned p q = absurd (unsigned tt)
same_on_low_halves cond.SignedGreaterEqual a b unsigned p q = absurd (unsigned tt)
same_on_low_halves cond.SignedLess a b unsigned p q = absurd (unsigned tt)
same_on_low_halves cond.SignedLessEqual a b unsigned p q = absurd (unsigned tt)
same_on_low_halves _ a b unsigned p q =
    let left : a % 2 ^ 32 ≡ a = omega arith in
    let right : b % 2 ^ 32 ≡ b = omega arith in
    let left_word : a % 2 ^ 64 ≡ a = omega arith in
    let right_word : b % 2 ^ 64 ≡ b = omega arith in
    rw (left, right, left_word, right_word) refl

-- a test by no sign of a word of the width is the test of whole words against the low bits
pub as_words : (w : Width) (c : Condition) (a b : ℕ) → (IsSigned c → ⊥) → a < modulus w → taken w c a b ≡ taken W64 c a (b % modulus w)
as_words W64 c a b unsigned p =
    let same : b % 2 ^ 64 % 2 ^ 64 ≡ b % 2 ^ 64 = omega arith in
    rw same refl
as_words W32 c a b unsigned p =
    let same : b % 2 ^ 32 % 2 ^ 32 ≡ b % 2 ^ 32 = omega arith in
    let low : taken W32 c a (b % 2 ^ 32) ≡ taken W64 c a (b % 2 ^ 32) = same_on_low_halves c a (b % 2 ^ 32) unsigned p (omega arith) in
    rw same at low

-- equal words are equal either way
pub same_turned : (a b : ℕ) → (a == b) ≡ (b == a)
same_turned a b = grind (arith, nat_tests)

-- words have bits in common either way
pub common_turned : (a b : ℕ) → not (bit_and a b == 0) ≡ not (bit_and b a == 0)
common_turned a b = rw (and_comm a b) refl
