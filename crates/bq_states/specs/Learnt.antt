-- What a branch shows about its operands, and about the places that hold the same words.
use Rattle.std.specs.Prelude.{◌≡◌, ℕ, List, Option, Some, None, slice_set}
use Rattle.bq_ranges.specs.declared.range.Range.{Range}
use Rattle.bq_ranges.specs.Within.{Within}
use Rattle.bq_states.specs.declared.relations.Related.{Related}
use Rattle.bq_states.specs.declared.relations.Relation.{Relation}
use Rattle.bq_states.specs.Relations.{IsRelated, IsRelatedBy, Relates}
use Rattle.bq_insn.specs.declared.Source.{Source}
use Rattle.bq_insn.specs.declared.Source.TheVariants.{Reg}
use Rattle.bq_bpf.specs.declared.shape.MapShape.{MapShape}
use Rattle.bq_bpf.specs.Memory.{Setting, State}
use Rattle.bq_states.specs.declared.abstract_state.AbstractValue.{AbstractValue}
use Rattle.bq_states.specs.declared.abstract_state.AbstractState.{AbstractState}
use Rattle.bq_states.specs.Certainty.{Certainty, Pointer, Fact, AtRegister, Has}
use Rattle.bq_states.specs.AbstractStates.{Contains, Describes}
use Rattle.bq_states.specs.declared.abstract_state.ValueKind.TheVariants.{EntryOrNull}
use Rattle.bq_states.specs.declared.abstract_state.ValueKind.{ValueKind}

-- the kind is certain: it is no untested answer of a look-up
abbrev pub IsCertain : ValueKind → Type 0
IsCertain (EntryOrNull m) = ⊥
IsCertain kind = Unit {0}

-- the certainty stays true when more is learnt of the word; only an answer of a look-up does not, because it becomes an
-- entry or 0
abbrev pub IsLastingWord : Certainty → Type 0
IsLastingWord (Pointer kind o) = IsCertain kind
IsLastingWord s = Unit {0}

-- the fact stays true when more is learnt of words
abbrev pub IsLasting : Fact → Type 0
IsLasting (AtRegister s r) = IsLastingWord s
IsLasting x = Unit {0}

-- the fact holds for the abstract state with `word` put into register `dst`
abbrev pub HasLearnt : Fact → AbstractState → ℕ → AbstractValue → Type 0
HasLearnt x state dst word = Has x (record state { registers = slice_set state.registers dst (Some word) })

-- the new abstract value describes every word that both the old value and `learnt` describe
abbrev pub IsSharper : AbstractValue → Option AbstractValue → Option AbstractValue → Type 0
IsSharper learnt old None = Unit {0}
IsSharper learnt None (Some new) = ⊥
IsSharper learnt (Some old) (Some new) = (shapes : List MapShape) (n : ℕ) → Describes shapes learnt n → Describes shapes old n → Describes shapes new n

-- if the old abstract state describes a state, and `learnt` describes the word of the class, the new one describes the
-- state with the same words of classes
abbrev pub Sharpens : AbstractValue → ℕ → AbstractState → AbstractState → Type 0
Sharpens learnt class old new =
    (f : Setting) (s : State) (was : Contains f old s) → Describes f.shapes learnt (was.copies.0 class) → (is : Contains f new s) × (is.copies.0 ≡ was.copies.0)

-- if the old abstract state describes a state in which the relation `r` holds and the word of the class is in the
-- range, the new one describes the state with the same words of classes
abbrev pub SharpensBy : Related → Range → ℕ → AbstractState → AbstractState → Type 0
SharpensBy r learnt class old new =
    (f : Setting) (s : State) (was : Contains f old s) → IsRelatedBy was.copies.0 (Some r) → Within learnt (was.copies.0 class) → (is : Contains f new s) × (is.copies.0 ≡ was.copies.0)

-- if the right operand is a register, it is set to a word with the property
abbrev pub HoldsRight : State → Source → (ℕ → Type 0) → Type 0
HoldsRight s src holds = (r : ℕ) → src ≡ Reg r → (n : ℕ) × (s.register r ≡ Some n) × holds n

-- the new abstract state describes each state of the old one in which register `dst` is set, and the relation holds between
-- it and the right operand if that is a register
abbrev pub LearnsRelation : ℕ → Source → Relation → AbstractState → AbstractState → Type 0
LearnsRelation dst src relation old new =
    (f : Setting) (s : State) (a : ℕ) → Contains f old s → s.register dst ≡ Some a → HoldsRight s src (Relates relation a) → Contains f new s

-- `left` and `right` describe the operands of a branch, and the relation holds between them
pub record DescribesBranch (f : Setting) (s : State) (dst : ℕ) (src : Source) (left right : AbstractValue) (relation : Relation) : Type 0 where
  pub word : ℕ
  pub is : s.register dst ≡ Some word
  pub left_is : Describes f.shapes left word
  pub right_is : HoldsRight s src (λ n. Describes f.shapes right n × IsRelated relation word n)
