-- Which facts hold for abstract states along the ways that control takes.
use Rattle.std.proofs.Common.{Global}
use Rattle.std.specs.Prelude.{Bool, true, false, ◌≡◌, ◌≢◌, ℕ, ◌+◌, List, Option, Some, None, slice_index_or, ◌⊎◌}
use Rattle.std.specs.declared.boxed.Box.{Box}
use Rattle.bq_insn.specs.declared.Condition.{Condition}
use Rattle.bq_insn.specs.declared.Insn.{Insn}
use Rattle.bq_insn.specs.declared.Source.{Source}
use Rattle.bq_insn.specs.declared.Width.{Width}
use Rattle.bq_verify.specs.Control.{Waiting}
use Rattle.bq_verify.specs.Edges.{IsEdge}
use Rattle.bq_verify.specs.Subjects.{Subject}
use Rattle.bq_transfer.specs.Ready.{IsNullCheck, IsReady, IsReadyToAsk}
use Rattle.bq_transfer.specs.After.{After}
use Rattle.bq_transfer.specs.Sides.{is_found}
use Rattle.bq_states.specs.Certainty.{Scalar, Pointer, CertaintyHoldsAt, Fact, AtRegister, Has, IsScalarOperand, Outlasts}
use Rattle.bq_states.specs.Learnt.{HasLearnt, IsLasting}
use Rattle.bq_states.specs.declared.abstract_state.ValueKind.TheVariants.{Entry, EntryOrNull}
use Rattle.bq_states.specs.declared.abstract_state.AbstractValue.{AbstractValue}
use Rattle.bq_states.specs.declared.abstract_state.AbstractState.{AbstractState}

-- the abstract state has what the instruction needs in this program; for a call of a counter it never does
abbrev pub IsReadyIn : Subject → AbstractState → Insn → Type 0
IsReadyIn p state insn = IsReady p.shapes p.context state insn

-- the abstract state has what the instruction needs, as a plain instruction or as a call of a counter
abbrev pub IsReadyFor : Subject → AbstractState → Insn → Type 0
IsReadyFor p state insn = IsReady p.shapes p.context state insn ⊎ IsReadyToAsk state insn

-- the fact is not about register `dst`
abbrev pub IsApartFrom : Fact → ℕ → Type 0
IsApartFrom (AtRegister s r) dst = r ≢ dst
IsApartFrom x dst = Unit {0}

-- the test compares an untested answer of a look-up in this map with 0
abbrev pub IsAnswerCheck : AbstractState → ℕ → Width → Condition → ℕ → Source → Type 0
IsAnswerCheck state map w c dst src = IsNullCheck w c src × CertaintyHoldsAt (Pointer (EntryOrNull map) 0) state dst

-- if both operands of the test are known to be numbers, then this holds
abbrev pub IfNumbersTested : AbstractState → ℕ → Source → Type 0 → Type 0
IfNumbersTested state dst src Then = CertaintyHoldsAt Scalar state dst → IsScalarOperand state src → Then

-- the fact is sure on one side of a test of a look-up's answer: the register is an entry, if it was found; or the fact
-- is about something else and held before
abbrev pub AfterTest : AbstractState → ℕ → ℕ → Bool → Fact → Type 0
AfterTest state dst map found x = ((found ≡ true) × (x ≡ AtRegister (Pointer (Entry map) 0) dst)) ⊎ (IsApartFrom x dst × IsLasting x × Has x state)

-- the fact is sure on both sides of a test of numbers: it held before, and is not the exact number of the tested register
abbrev pub OutlastsTest : AbstractState → ℕ → Fact → Type 0
OutlastsTest state dst x = Outlasts x dst × IsLasting x × Has x state

-- if an abstract state waits, the fact holds for it
abbrev pub HasIn : Fact → Option (Box AbstractState Global) → Type 0
HasIn x None = Unit {0}
HasIn x (Some boxed) = Has x boxed.value

-- if an abstract state waits at slot `k`, the fact holds for it
abbrev pub HasWaiting : Fact → Waiting → ℕ → Type 0
HasWaiting x pending k = HasIn x (slice_index_or pending k None)

-- each fact that held for what waits at any slot still does, at this slot if it also `Holds` of what came to wait there
abbrev pub KeepsFacts : (Fact → Type 0) → ℕ → Waiting → Waiting → Type 0
KeepsFacts Holds slot old new = (x : Fact) (k : ℕ) → HasWaiting x old k → (k ≡ slot → Holds x) → HasWaiting x new k

-- the fact holds for each abstract state with which control reaches slot `k`: the one that waits there, and the one
-- that is transferred to it
pub record IsSureOf (x : Fact) (pending : Waiting) (state : AbstractState) (live : Bool) (slot k : ℕ) : Type 0 where
  pub waiting : HasWaiting x pending k
  pub transferred : live ≡ true → k ≡ slot → Has x state

-- over one more instruction each fact that was sure at a slot stays sure there, if it is also sure after the
-- instruction on its edge to the slot
abbrev pub GoesOnSure : List (Option Insn) → ℕ → Insn → AbstractState → Waiting → Waiting → AbstractState → Bool → Type 0
GoesOnSure slots slot insn state old new after live =
    (x : Fact) (k : ℕ) → HasWaiting x old k → (IsEdge slots slot k → After x slot k insn state) → IsSureOf x new after live (slot + 1) k

-- after a branch a fact is sure at a slot if it held for what waited there and is sure on the ways of the branch that lead there
abbrev pub BranchesSure : (Fact → Type 0) → (Fact → Type 0) → ℕ → ℕ → Waiting → Waiting → AbstractState → Bool → Type 0
BranchesSure Taken Other to next old new after live =
    (x : Fact) (k : ℕ) → HasWaiting x old k → (k ≡ to → Taken x) → (k ≡ next → Other x) → IsSureOf x new after live next k

-- `BranchesSure` for the two ways from a test of numbers
abbrev pub BranchesTested : AbstractState → ℕ → ℕ → ℕ → Waiting → Waiting → AbstractState → Bool → Type 0
BranchesTested state dst to next old new after live = BranchesSure (OutlastsTest state dst) (OutlastsTest state dst) to next old new after live

-- `BranchesSure` for the two ways from a test of a look-up's answer
abbrev pub BranchesChecked : AbstractState → Width → Condition → ℕ → Source → ℕ → ℕ → Waiting → Waiting → AbstractState → Bool → Type 0
BranchesChecked state w c dst src to next old new after live =
    (map : ℕ) → IsAnswerCheck state map w c dst src → BranchesSure (AfterTest state dst map (is_found c true)) (AfterTest state dst map (is_found c false)) to next old new after live

-- if control goes to this side, the fact lasts and holds for the abstract state with the word in the register
abbrev pub HasOnSide : Fact → AbstractState → ℕ → Option AbstractValue → Type 0
HasOnSide x state dst None = Unit {0}
HasOnSide x state dst (Some word) = IsLasting x × HasLearnt x state dst word
