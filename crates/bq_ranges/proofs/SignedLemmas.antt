-- What a signed comparison says of its two words, by their sign bits and the order of the words.
use Rattle.std.proofs.Common.{◌≡◌, ℕ, ◌*◌, ◌<◌, Bool, true, false, arith}
use Rattle.std.proofs.lemmas.Int.{ints}
use Rattle.std.specs.Prelude.{int_le, int_lt, Option, Some, None}
use Rattle.std.specs.Int.{cast_signed}
use Rattle.bq_bpf.specs.Meaning.{integer_bytes, compares, modulus}
use Rattle.bq_insn.specs.declared.Condition.{Condition}
use Rattle.bq_insn.specs.declared.Condition.TheVariants as cond
use Rattle.bq_insn.specs.declared.Width.{Width}
use Rattle.bq_insn.specs.declared.Width.TheVariants.{W32, W64}
use Rattle.bq_ranges.specs.declared.range.Range.{Range}
use Rattle.bq_ranges.specs.Within.{EndsAre, Within}
use Rattle.bq_ranges.specs.Tight.{IsSigned}
use Rattle.bq_ranges.specs.Signed.{EndsMeet, IsSignedAtMost, IsSignedBelow}

-- whether, as signed numbers of the width, the first word is at most the second; and whether it is below it:
abbrev Le : Width → ℕ → ℕ → Bool
Le w a b = int_le (cast_signed (integer_bytes w) a) (cast_signed (integer_bytes w) b)

abbrev Lt : Width → ℕ → ℕ → Bool
Lt w a b = int_lt (cast_signed (integer_bytes w) a) (cast_signed (integer_bytes w) b)

-- the outcome of a test of the signed order says how the two words lie to each other, by sign bit and order, by cases:
le_true : (w : Width) (half a b : ℕ) → 2 * half ≡ modulus w → a < modulus w → b < modulus w → Le w a b ≡ true → IsSignedAtMost half a b
le_true W32 half a b s p q h = grind (arith, ints)
le_true W64 half a b s p q h = grind (arith, ints)

le_false : (w : Width) (half a b : ℕ) → 2 * half ≡ modulus w → a < modulus w → b < modulus w → Le w a b ≡ false → IsSignedBelow half b a
le_false W32 half a b s p q h = grind (arith, ints)
le_false W64 half a b s p q h = grind (arith, ints)

lt_true : (w : Width) (half a b : ℕ) → 2 * half ≡ modulus w → a < modulus w → b < modulus w → Lt w a b ≡ true → IsSignedBelow half a b
lt_true W32 half a b s p q h = grind (arith, ints)
lt_true W64 half a b s p q h = grind (arith, ints)

lt_false : (w : Width) (half a b : ℕ) → 2 * half ≡ modulus w → a < modulus w → b < modulus w → Lt w a b ≡ false → IsSignedAtMost half b a
lt_false W32 half a b s p q h = grind (arith, ints)
lt_false W64 half a b s p q h = grind (arith, ints)

-- words that lie so to each other make the test of their signed order come out so, by cases:
true_le : (w : Width) (half a b : ℕ) → 2 * half ≡ modulus w → a < modulus w → b < modulus w → IsSignedAtMost half a b → Le w a b ≡ true
true_le W32 half a b s p q h = grind (arith, ints)
true_le W64 half a b s p q h = grind (arith, ints)

false_le : (w : Width) (half a b : ℕ) → 2 * half ≡ modulus w → a < modulus w → b < modulus w → IsSignedBelow half b a → Le w a b ≡ false
false_le W32 half a b s p q h = grind (arith, ints)
false_le W64 half a b s p q h = grind (arith, ints)

true_lt : (w : Width) (half a b : ℕ) → 2 * half ≡ modulus w → a < modulus w → b < modulus w → IsSignedBelow half a b → Lt w a b ≡ true
true_lt W32 half a b s p q h = grind (arith, ints)
true_lt W64 half a b s p q h = grind (arith, ints)

false_lt : (w : Width) (half a b : ℕ) → 2 * half ≡ modulus w → a < modulus w → b < modulus w → IsSignedAtMost half b a → Lt w a b ≡ false
false_lt W32 half a b s p q h = grind (arith, ints)
false_lt W64 half a b s p q h = grind (arith, ints)

-- what the outcome of a signed test says of its two words; of an unsigned test it says nothing
abbrev pub SignedMeets : ℕ → Condition → Bool → ℕ → ℕ → Type 0
SignedMeets half cond.SignedGreater true a b = IsSignedBelow half b a
SignedMeets half cond.SignedGreater false a b = IsSignedAtMost half a b
SignedMeets half cond.SignedGreaterEqual true a b = IsSignedAtMost half b a
SignedMeets half cond.SignedGreaterEqual false a b = IsSignedBelow half a b
SignedMeets half cond.SignedLess true a b = IsSignedBelow half a b
SignedMeets half cond.SignedLess false a b = IsSignedAtMost half b a
SignedMeets half cond.SignedLessEqual true a b = IsSignedAtMost half a b
SignedMeets half cond.SignedLessEqual false a b = IsSignedBelow half b a
SignedMeets half _ goes a b = Unit {0}

-- if a test comes out that way, its words lie to each other as a signed test with that outcome says
pub signed_meets : (w : Width) (half : ℕ) (c : Condition) (goes : Bool) (a b : ℕ)
    → 2 * half ≡ modulus w → a < modulus w → b < modulus w → compares w c a b ≡ goes
    → SignedMeets half c goes a b
unfolding compares
signed_meets w half cond.SignedGreater true a b s p q h = lt_true w half b a s q p h
signed_meets w half cond.SignedGreater false a b s p q h = lt_false w half b a s q p h
signed_meets w half cond.SignedGreaterEqual true a b s p q h = le_true w half b a s q p h
signed_meets w half cond.SignedGreaterEqual false a b s p q h = le_false w half b a s q p h
signed_meets w half cond.SignedLess true a b s p q h = lt_true w half a b s p q h
signed_meets w half cond.SignedLess false a b s p q h = lt_false w half a b s p q h
signed_meets w half cond.SignedLessEqual true a b s p q h = le_true w half a b s p q h
signed_meets w half cond.SignedLessEqual false a b s p q h = le_false w half a b s p q h
signed_meets w half _ goes a b s p q h = tt

-- if two words lie to each other as the outcome of a signed test says, the test comes out that way
pub goes_signed : (w : Width) (half : ℕ) (c : Condition) (goes : Bool) (a b : ℕ)
    → 2 * half ≡ modulus w → a < modulus w → b < modulus w → IsSigned c → SignedMeets half c goes a b
    → compares w c a b ≡ goes
unfolding compares
goes_signed w half cond.SignedGreater true a b s p q u h = true_lt w half b a s q p h
goes_signed w half cond.SignedGreater false a b s p q u h = false_lt w half b a s q p h
goes_signed w half cond.SignedGreaterEqual true a b s p q u h = true_le w half b a s q p h
goes_signed w half cond.SignedGreaterEqual false a b s p q u h = false_le w half b a s q p h
goes_signed w half cond.SignedLess true a b s p q u h = true_lt w half a b s p q h
goes_signed w half cond.SignedLess false a b s p q u h = false_lt w half a b s p q h
goes_signed w half cond.SignedLessEqual true a b s p q u h = true_le w half a b s p q h
goes_signed w half cond.SignedLessEqual false a b s p q u h = false_le w half a b s p q h
goes_signed w half _ goes a b s p q u h = absurd u

-- if both ends of the range that is left lie to the bound as the outcome says, the test of both ends comes out that way
pub ends_meet : (w : Width) (half : ℕ) (c : Condition) (goes : Bool) (a : Range) (b : ℕ) (P : ℕ → Type 0) (r : Option Range)
    → 2 * half ≡ modulus w → IsSigned c → a.hi < modulus w → b < modulus w
    → ((x : ℕ) → P x → Within a x × SignedMeets half c goes x b) → EndsAre P r
    → EndsMeet w c a b goes r
ends_meet w half c goes a b P None s u p q shows ends = tt
ends_meet w half c goes a b P (Some r) s u p q shows ends = (at r.lo ends.0, at r.hi ends.1)
  where
    at : (x : ℕ) → P x → Within a x × (compares w c x b ≡ goes)
    at x h = let here = shows x h in (here.0, goes_signed w half c goes x b s (omega arith) q u here.1)

-- a word that is at most another, by sign, is at most what that one is at most
pub at_most_trans : (half a b c : ℕ) → IsSignedAtMost half a b → IsSignedAtMost half b c → IsSignedAtMost half a c
at_most_trans half a b c p q = grind arith

-- a word that is below another, by sign, is below what that one is at most
pub below_at_most : (half a b c : ℕ) → IsSignedBelow half a b → IsSignedAtMost half b c → IsSignedBelow half a c
below_at_most half a b c p q = grind arith

-- a word that is at most another, by sign, is below what that one is below
pub at_most_below : (half a b c : ℕ) → IsSignedAtMost half a b → IsSignedBelow half b c → IsSignedBelow half a c
at_most_below half a b c p q = grind arith
