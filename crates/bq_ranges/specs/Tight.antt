-- When an answer is the least range that has every outcome.
use Rattle.std.specs.Prelude.{◌≡◌, ℕ, ◌+◌, ◌*◌, ◌%◌, ◌<◌, ◌≤◌, Bool, Option, Some, None}
use Rattle.bq_insn.specs.declared.Width.{Width}
use Rattle.bq_insn.specs.declared.Width.TheVariants.{W64}
use Rattle.bq_insn.specs.declared.Operation.{Operation}
use Rattle.bq_insn.specs.declared.Operation.TheVariants.{Add, Sub, Mul, Rsh, Mov}
use Rattle.bq_insn.specs.declared.Condition.{Condition}
use Rattle.bq_insn.specs.declared.Condition.TheVariants.{Equal, NotEqual, Greater, GreaterEqual, Less, LessEqual, SignedGreater, SignedGreaterEqual, SignedLess, SignedLessEqual}
use Rattle.bq_bpf.specs.Meaning.{alu_result, modulus, taken}
use Rattle.bq_ranges.specs.declared.range.Range.{Range}
use Rattle.bq_ranges.specs.Within.{Within}

-- the word is the result of the operation on some members of both ranges
abbrev pub IsReachable : Width → Operation → Range → Range → ℕ → Type 0
IsReachable w op a b z = (x : ℕ) × (y : ℕ) × Within a x × Within b y × (alu_result w op x y ≡ z)

-- both ends of the result are outcomes, so no smaller range has all outcomes
pub record IsTight (w : Width) (op : Operation) (a b result : Range) : Type 0 where
  pub low : IsReachable w op a b result.lo
  pub high : IsReachable w op a b result.hi

-- the least range is promised for sums, differences and products that cannot wrap, shifts to the right by one amount, and copies
abbrev pub IsTightAt : Width → Operation → Range → Range → Type 0
IsTightAt w Add a b = (x y : ℕ) → Within a x → Within b y → x % modulus w + y % modulus w < modulus w
IsTightAt w Sub a b = (x y : ℕ) → Within a x → Within b y → y % modulus w ≤ x % modulus w
IsTightAt w Mul a b = (x y : ℕ) → Within a x → Within b y → (x % modulus w) * (y % modulus w) < modulus w
IsTightAt w Rsh a b = b.lo ≡ b.hi
IsTightAt w Mov a b = Unit {0}
IsTightAt w _ a b = ⊥

-- the word is a member of the range, and the test of it against `b` comes out as `goes` says
abbrev pub TestsAs : Condition → Range → ℕ → Bool → ℕ → Type 0
TestsAs cond a b goes x = Within a x × (taken W64 cond x b ≡ goes)

-- both ends of the range that is left are members for which the test comes out as `goes` says
abbrev pub EndsTestAs : Condition → Range → ℕ → Bool → Option Range → Type 0
EndsTestAs cond a b goes None = Unit {0}
EndsTestAs cond a b goes (Some r) = TestsAs cond a b goes r.lo × TestsAs cond a b goes r.hi

-- the tests by unsigned order and by equality, for which the least range is promised
abbrev pub IsByOrder : Condition → Type 0
IsByOrder Equal = Unit {0}
IsByOrder NotEqual = Unit {0}
IsByOrder Greater = Unit {0}
IsByOrder GreaterEqual = Unit {0}
IsByOrder Less = Unit {0}
IsByOrder LessEqual = Unit {0}
IsByOrder _ = ⊥

-- the least range is promised for these operand ranges, which fit the width
abbrev pub IsTightWithin : Width → Operation → Range → Range → Type 0
IsTightWithin w Add a b = a.hi + b.hi < modulus w
IsTightWithin w Sub a b = b.hi ≤ a.lo
IsTightWithin w Mul a b = a.hi * b.hi < modulus w
IsTightWithin w Rsh a b = b.lo ≡ b.hi
IsTightWithin w Mov a b = Unit {0}
IsTightWithin w _ a b = ⊥

-- the end of the second operand that gives the least outcome: the most taken away leaves the least
abbrev pub least_by : Operation → Range → ℕ
least_by Sub b = b.hi
least_by _ b = b.lo

-- the end of the second operand that gives the greatest outcome
abbrev pub greatest_by : Operation → Range → ℕ
greatest_by Sub b = b.lo
greatest_by _ b = b.hi

-- the tests of signed numbers
abbrev pub IsSigned : Condition → Type 0
IsSigned SignedGreater = Unit {0}
IsSigned SignedGreaterEqual = Unit {0}
IsSigned SignedLess = Unit {0}
IsSigned SignedLessEqual = Unit {0}
IsSigned _ = ⊥
