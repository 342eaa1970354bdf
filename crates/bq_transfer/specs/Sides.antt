-- What the left operand of a branch is on one side of the test.
use Rattle.std.specs.Prelude.{Bool, true, not, ◌≡◌, ℕ, Option, Some, None, ◌⊎◌, List}
use Rattle.bq_insn.specs.declared.Condition.TheVariants.{Equal}
use Rattle.bq_insn.specs.declared.Condition.{Condition}
use Rattle.bq_insn.specs.declared.Source.{Source}
use Rattle.bq_insn.specs.declared.Width.{Width}
use Rattle.bq_transfer.specs.Ready.{IsNullCheck}
use Rattle.bq_states.specs.Certainty.{Pointer, CertaintyHolds}
use Rattle.bq_states.specs.AbstractStates.{Describes}
use Rattle.bq_states.specs.declared.abstract_state.ValueKind.{ValueKind}
use Rattle.bq_states.specs.declared.abstract_state.ValueKind.TheVariants.{Number, Entry, EntryOrNull}
use Rattle.bq_states.specs.declared.abstract_state.AbstractValue.{AbstractValue}
use Rattle.bq_bpf.specs.declared.shape.MapShape.{MapShape}
use Rattle.bq_bpf.specs.Meaning.{taken}

-- whether a test with 0 has found an entry on this side: for Equal the side where the test fails, for NotEqual the side
-- where it holds
abbrev pub is_found : Condition → Bool → Bool
is_found Equal goes = not goes
is_found c goes = goes

-- the kind is an answer of a look-up in this map, untested or found
abbrev pub IsAnswerOf : ℕ → ValueKind → Type 0
IsAnswerOf map kind = (kind ≡ EntryOrNull map) ⊎ (kind ≡ Entry map)

-- the words may be compared: both are numbers, or a 64-bit test for equality compares the answer of a look-up with the
-- immediate 0
abbrev pub IsCompared : Width → Condition → AbstractValue → Source → AbstractValue → Type 0
IsCompared w c left src right = ((left.kind ≡ Number) × (right.kind ≡ Number)) ⊎ ((m : ℕ) × IsAnswerOf m left.kind × (left.offset.hi ≡ 0) × IsNullCheck w c src)

-- something is known of the answer of a look-up on one side of its test: on the side where it was found it is an entry
pub record IsTested (map : ℕ) (found : Bool) (side : Option AbstractValue) : Type 0 where
  pub word : AbstractValue
  pub is : side ≡ Some word
  pub entry : found ≡ true → CertaintyHolds (Pointer (Entry map) 0) (Some word)

-- the words may be compared, and `IsTested` holds on the side
abbrev pub IsComparableAndTested : ℕ → Bool → Option (Option AbstractValue) → Type 0
IsComparableAndTested map found None = ⊥
IsComparableAndTested map found (Some side) = IsTested map found side

-- if the branch tests the answer of a look-up in a map, then `holds` is true of the map
abbrev pub IfAnswerTested : Width → Condition → AbstractValue → Source → (ℕ → Type 0) → Type 0
IfAnswerTested w c left src holds = (map : ℕ) → IsNullCheck w c src → CertaintyHolds (Pointer (EntryOrNull map) 0) (Some left) → holds map

-- on one side of a branch on numbers, control never goes there, or the left operand is still a number
abbrev pub IsNeverOrNumber : Option (Option AbstractValue) → Type 0
IsNeverOrNumber None = ⊥
IsNeverOrNumber (Some None) = Unit {0}
IsNeverOrNumber (Some (Some k)) = k.kind ≡ Number

-- if something is known of the word, it is a number
abbrev pub IsNumberIfAny : Option AbstractValue → Type 0
IsNumberIfAny None = Unit {0}
IsNumberIfAny (Some k) = k.kind ≡ Number

-- something is known of the word, and it is right
abbrev pub KnownDescribes : List MapShape → Option AbstractValue → ℕ → Type 0
KnownDescribes shapes None word = ⊥
KnownDescribes shapes (Some k) word = Describes shapes k word

-- whatever words `left` and `right` describe, if control goes to this side, something is known there of the left one, and it
-- is right
abbrev pub FitsSide : Width → Condition → AbstractValue → AbstractValue → Bool → Option AbstractValue → Type 0
FitsSide w c left right goes side =
    (shapes : List MapShape) (a b : ℕ) → Describes shapes left a → Describes shapes right b → taken w c a b ≡ goes → KnownDescribes shapes side a
