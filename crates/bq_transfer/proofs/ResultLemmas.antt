-- Words that arithmetic gives, and words on the sides of a test.
use Rattle.std.proofs.Common.{true, false, ◌≢◌, ◌⊎◌, inl, inr, ◌≡◌, ℕ, ◌+◌, ◌-◌, ◌%◌, ◌^◌, ◌<◌, List, Option, Some, None, refl, arith}
use Rattle.bq_bpf.specs.Meaning.{alu_result, operate, taken, compares}
use Rattle.bq_insn.specs.declared.Width.TheVariants.{W32, W64}
use Rattle.bq_insn.specs.declared.Operation.TheVariants as op
use Rattle.bq_insn.specs.declared.Condition.TheVariants as cond
use Rattle.std.proofs.lemmas.Bool.Decides.{nat_tests}
use Rattle.bq_bpf.specs.declared.shape.MapShape.{MapShape}
use Rattle.bq_ranges.specs.Within.{Within}
use Rattle.bq_ranges.specs.declared.range.Range.{Range}
use Rattle.bq_states.specs.declared.abstract_state.ValueKind.{ValueKind}
use Rattle.bq_states.specs.declared.abstract_state.ValueKind.TheVariants.{Number, Entry, EntryOrNull}
use Rattle.bq_states.specs.declared.abstract_state.AbstractValue.{AbstractValue}
use Rattle.bq_states.specs.AbstractStates.{Describes, IsEntryBase}
use Rattle.bq_states.proofs.WordLemmas.{number_within, describes_number}
use Rattle.bq_transfer.specs.Sides.{IsNeverOrNumber, IsNumberIfAny}

-- a word plus a number is of the same kind, and its offset is in a range that holds the sums
pub moved_up : (shapes : List MapShape) (kind : ValueKind) (r t : Range) (x y : ℕ) (b : Range)
    → Describes shapes (record { kind = kind; offset = r }) x → Within b y
    → ((u v : ℕ) → Within r u → Within b v → Within t ((u + v) % 2 ^ 64))
    → Describes shapes (record { kind = kind; offset = t }) (alu_result W64 op.Add x y)
unfolding operate
moved_up shapes kind r t x y b d w sums =
    record {
      base = d.base;
      offset = (d.offset + y) % 2 ^ 64;
      is_base = d.is_base;
      within = sums d.offset y d.within w;
      word_is = omega (arith, d.word_is);
    }

-- a word less a number is of the same kind, and its offset is in a range that holds the differences
pub moved_down : (shapes : List MapShape) (kind : ValueKind) (r t : Range) (x y : ℕ) (b : Range)
    → Describes shapes (record { kind = kind; offset = r }) x → Within b y
    → ((u v : ℕ) → Within r u → Within b v → Within t ((u + (2 ^ 64 - v)) % 2 ^ 64))
    → Describes shapes (record { kind = kind; offset = t }) (alu_result W64 op.Sub x y)
unfolding operate
moved_down shapes kind r t x y b d w differences =
    let fits = b.fits in
    record {
      base = d.base;
      offset = (d.offset + (2 ^ 64 - y)) % 2 ^ 64;
      is_base = d.is_base;
      within = differences d.offset y d.within w;
      word_is = omega (arith, d.word_is, w);
    }

-- a move of all 64 bits gives the word that is moved
pub move_is_right : (x y : ℕ) → y < 2 ^ 64 → alu_result W64 op.Mov x y ≡ y
unfolding operate
move_is_right x y h = omega arith

-- a word that is moved whole is described as before
pub copied_word : (shapes : List MapShape) (k : AbstractValue) (x y : ℕ)
    → Describes shapes k y → Describes shapes k (alu_result W64 op.Mov x y)
copied_word shapes k x y d = rw (move_is_right x y (omega (arith, d.word_is))) d

-- what a move of 32 bits gives does not depend on its first operand
pub move_ignores_left : (x y : ℕ) → alu_result W32 op.Mov x y ≡ alu_result W32 op.Mov y y
unfolding operate
move_ignores_left x y = refl

-- the number 0, as a look-up's result may be compared with it
zero_word : (shapes : List MapShape) (k : AbstractValue) (b : ℕ) → k.kind ≡ Number → k.offset.hi ≡ 0 → Describes shapes k b → b ≡ 0
zero_word shapes k b kind none d = let w = number_within shapes k b kind d in omega (arith, w)

-- a word that is equal to a known 0 is the number 0
pub null_side : (shapes : List MapShape) (k : AbstractValue) (a b : ℕ)
    → k.kind ≡ Number → k.offset.hi ≡ 0 → Describes shapes k b → a ≡ b
    → Describes shapes (record { kind = Number; offset = k.offset }) a
null_side shapes k a b kind none d same = rw same (describes_number shapes k.offset b (number_within shapes k b kind d))

-- an entry or null that is not equal to 0 is an entry
pub entry_side : (shapes : List MapShape) (m : ℕ) (left right : AbstractValue) (a b : ℕ)
    → left.kind ≡ EntryOrNull m → left.offset.hi ≡ 0 → right.kind ≡ Number → right.offset.hi ≡ 0 → Describes shapes left a
    → Describes shapes right b → a ≢ b
    → Describes shapes (record { kind = Entry m; offset = left.offset }) a
entry_side shapes m left right a b is whole kind none d e differ =
    record {
      base = d.base;
      offset = d.offset;
      is_base = choose (rw is at d.is_base);
      within = d.within;
      word_is = d.word_is;
    }
  where
    choose : (d.base ≡ 0) ⊎ IsEntryBase shapes m d.base → IsEntryBase shapes m d.base
    choose (inl zero_base) = absurd (differ (let w = d.within in omega (arith, d.word_is, zero_word shapes right b kind none e, w)))
    choose (inr entry) = entry

-- a test for equality that holds says that the numbers are equal
pub equal_true : (a b : ℕ) → a < 2 ^ 64 → b < 2 ^ 64 → taken W64 cond.Equal a b ≡ true → a ≡ b
unfolding compares
equal_true a b p q h = grind (arith, nat_tests)

-- a test for equality that fails says that the numbers differ
pub equal_false : (a b : ℕ) → a < 2 ^ 64 → b < 2 ^ 64 → taken W64 cond.Equal a b ≡ false → a ≢ b
unfolding compares
equal_false a b p q h = grind (arith, nat_tests)

-- a test for difference that holds says that the numbers differ
pub unequal_true : (a b : ℕ) → a < 2 ^ 64 → b < 2 ^ 64 → taken W64 cond.NotEqual a b ≡ true → a ≢ b
unfolding compares
unequal_true a b p q h = grind (arith, nat_tests)

-- a test for difference that fails says that the numbers are equal
pub unequal_false : (a b : ℕ) → a < 2 ^ 64 → b < 2 ^ 64 → taken W64 cond.NotEqual a b ≡ false → a ≡ b
unfolding compares
unequal_false a b p q h = grind (arith, nat_tests)

-- a sum may be turned
pub sum_turned : (x y : ℕ) → alu_result W64 op.Add x y ≡ alu_result W64 op.Add y x
unfolding operate
sum_turned x y = omega arith

-- a copy of the low half of a word that has no other
pub same_half : (n : ℕ) → n < 2 ^ 32 → alu_result W32 op.Mov 0 n ≡ n
unfolding operate
same_half n h = omega arith

-- no number is a look-up's answer that may be 0
pub number_or_null : (kind : ValueKind) (m : ℕ) → kind ≡ Number → kind ≡ EntryOrNull m → ⊥
number_or_null kind m number null = cc

-- no entry is a look-up's answer that may be 0
pub entry_or_null : (kind : ValueKind) (m n : ℕ) → kind ≡ Entry m → kind ≡ EntryOrNull n → ⊥
entry_or_null kind m n entry null = cc

-- a look-up's answer that may be 0 is of one map
pub same_map : (kind : ValueKind) (m n : ℕ) → kind ≡ EntryOrNull m → kind ≡ EntryOrNull n → m ≡ n
same_map kind m n one other = cc

-- a side on numbers has a number, where control goes there
pub number_on_side : (side : Option AbstractValue) → IsNeverOrNumber (Some side) → IsNumberIfAny side
number_on_side None side = tt
number_on_side (Some k) number = number
