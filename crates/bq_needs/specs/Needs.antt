-- What an instruction needs of the abstract state before it, by the cause that is named, and the need that the abstract state does not give.
use Rattle.std.specs.Prelude.{◌≡◌, ◌≢◌, ℕ, ℤ, pos, ◌<◌, ◌&&◌, Bool, true, false, is_none, List, ◌⊎◌, Some, None, length, slice_index_or}
use Rattle.bq_insn.specs.declared.Insn.{Insn}
use Rattle.bq_insn.specs.declared.Insn.TheVariants.{MapRef, Call}
use Rattle.bq_transfer.specs.declared.obligation.Obligation.TheVariants.{Unset, Access, PointerUse, Argument, Answer}
use Rattle.bq_verify.specs.declared.cause.Cause.{Cause}
use Rattle.bq_verify.specs.declared.cause.Cause.TheVariants.{State}
use Rattle.bq_states.specs.Certainty.{Scalar, CertaintyHoldsAt}
use Rattle.bq_states.specs.declared.abstract_state.ValueKind.TheVariants.{Number}
use Rattle.bq_states.specs.declared.abstract_state.AbstractValue.{AbstractValue}
use Rattle.bq_states.specs.declared.abstract_state.AbstractState.{AbstractState}
use Rattle.bq_policy_file.specs.declared.policy_source.PolicySource.{PolicySource}
use Rattle.bq_needs.specs.declared.arguments.Argument.{Argument as Wanted}
use Rattle.bq_needs.specs.declared.needs.Need.TheVariants as need
use Rattle.bq_needs.specs.declared.needs.Need.{Need}
use Rattle.bq_needs.specs.declared.needs.Pointer.{Pointer}
use Rattle.bq_needs.specs.declared.memory_access.MemoryAccess.{MemoryAccess}
use Rattle.bq_needs.specs.Accesses.{IsAccessShown, Lacks}
use Rattle.bq_needs.specs.Arguments.{GivesHelper, IsBad}
use Rattle.bq_needs.specs.Operands.{access_of, known_in, reads, works_on}

-- each register that the instruction reads is known to be set
abbrev pub AreReadsKnown : AbstractState → Insn → Type 0
AreReadsKnown state insn = (r : ℕ) → r < 11 → reads insn r ≡ true → known_in state r ≢ None

-- each register below this one that the instruction works on, and of which something is known, is a number
abbrev pub AreNumbersBelow : ℕ → AbstractState → Insn → Type 0
AreNumbersBelow n state insn = (r : ℕ) (k : AbstractValue) → r < n → works_on insn r ≡ true → known_in state r ≡ Some k → k.kind ≡ Number

-- each of the eleven registers that the instruction works on is a number
abbrev pub AreNumbers : AbstractState → Insn → Type 0
AreNumbers state insn = AreNumbersBelow 11 state insn

-- a load or a store is known to be good
abbrev pub IsGoodAccess : PolicySource → AbstractState → Insn → Type 0
IsGoodAccess p state insn = (a : MemoryAccess) → access_of insn ≡ Some a → (k : AbstractValue) × (known_in state a.register ≡ Some k) × IsAccessShown p state a k

-- there is a map of that number
abbrev pub IsMapNumber : PolicySource → ℤ → Type 0
IsMapNumber p index = (m : ℕ) × (index ≡ pos m) × (m < length p.form.shapes.items)

-- there is a map of that number; of a call, the arguments are what its helper wants
abbrev pub AreGoodArguments : PolicySource → AbstractState → Insn → Type 0
AreGoodArguments p state (MapRef dst index) = IsMapNumber p index
AreGoodArguments p state (Call helper) = GivesHelper p state helper
AreGoodArguments p state insn = Unit {0}

-- the abstract state gives the instruction what the cause says that it lacks
abbrev pub IsMet : PolicySource → AbstractState → Insn → Cause → Type 0
IsMet p state insn (State Unset) = AreReadsKnown state insn
IsMet p state insn (State Access) = IsGoodAccess p state insn
IsMet p state insn (State PointerUse) = AreNumbers state insn
IsMet p state insn (State Argument) = AreGoodArguments p state insn
IsMet p state insn (State Answer) = CertaintyHoldsAt Scalar state 0
IsMet p state insn other = Unit {0}

-- the instruction reads the register, and nothing is known of it
abbrev pub is_unknown : AbstractState → Insn → ℕ → Bool
is_unknown state insn r = reads insn r && is_none (known_in state r)

-- these are the registers that are read and of which nothing is known
abbrev pub AreUnknown : AbstractState → Insn → List Bool → Type 0
AreUnknown state insn registers = (r : ℕ) → r < 11 → slice_index_or registers r false ≡ is_unknown state insn r

-- the need names the registers that are read and of which nothing is known
abbrev pub IsUnknownNeed : AbstractState → Insn → Need → Type 0
IsUnknownNeed state insn named = (registers : List Bool) × (named ≡ need.Unknown registers) × AreUnknown state insn registers

-- if the instruction works on the register, and something is known of it, it is a number
abbrev pub WorksOnNumber : AbstractState → Insn → ℕ → Type 0
WorksOnNumber state insn r = (k : AbstractValue) → works_on insn r ≡ true → known_in state r ≡ Some k → k.kind ≡ Number

-- the instruction works on the register, of which that is known, and it is no number
pub record IsPointerWorkedOn (state : AbstractState) (insn : Insn) (r : ℕ) (k : AbstractValue) : Type 0 where
  pub below : r < 11
  pub is_worked_on : works_on insn r ≡ true
  pub is_known : known_in state r ≡ Some k
  pub no_number : k.kind ≢ Number

-- the register is the first of those on which the instruction works and that are no number
pub record IsFirstPointer (state : AbstractState) (insn : Insn) (r : ℕ) (k : AbstractValue) : Type 0 where
  pub pointer : IsPointerWorkedOn state insn r k
  pub least : AreNumbersBelow r state insn

-- the need names the first pointer that is worked on
abbrev pub IsPointerNeed : AbstractState → Insn → Need → Type 0
IsPointerNeed state insn named = (pointer : Pointer) × (named ≡ need.Number pointer) × IsFirstPointer state insn pointer.register pointer.known

-- an access by a register of which nothing is known, or by one of which that is known, and what the access lacks
abbrev pub IsAccessNeed : PolicySource → AbstractState → Insn → Need → Type 0
IsAccessNeed p state insn (need.Address a) = (access_of insn ≡ Some a) × (known_in state a.register ≡ None)
IsAccessNeed p state insn (need.Access a k lack) = (access_of insn ≡ Some a) × (known_in state a.register ≡ Some k) × Lacks p state a k lack
IsAccessNeed p state insn other = ⊥

-- the need names an argument that is not what the helper wants
abbrev pub IsHelperNeed : PolicySource → AbstractState → ℤ → Need → Type 0
IsHelperNeed p state helper named = (a : Wanted) × (named ≡ need.Argument helper a) × IsBad p state helper a

-- the number that is no map's, or an argument that is not what the helper wants
abbrev pub IsArgumentNeed : PolicySource → AbstractState → Insn → Need → Type 0
IsArgumentNeed p state (MapRef dst index) named = named ≡ need.Map index
IsArgumentNeed p state (Call helper) named = IsHelperNeed p state helper named
IsArgumentNeed p state insn named = ⊥

-- the need is of the cause, and says how the abstract state is
abbrev pub IsNeedOfCause : PolicySource → AbstractState → Insn → Cause → Need → Type 0
IsNeedOfCause p state insn (State Unset) named = IsUnknownNeed state insn named
IsNeedOfCause p state insn (State Access) named = IsAccessNeed p state insn named
IsNeedOfCause p state insn (State PointerUse) named = IsPointerNeed state insn named
IsNeedOfCause p state insn (State Argument) named = IsArgumentNeed p state insn named
IsNeedOfCause p state insn (State Answer) named = named ≡ need.Answer (known_in state 0)
IsNeedOfCause p state insn other named = ⊥

-- the instruction has this need, and the abstract state does not give it
abbrev pub Lacking : PolicySource → AbstractState → Insn → Cause → Need → Type 0
Lacking p state insn cause named = IsNeedOfCause p state insn cause named × ¬ (IsMet p state insn cause)

-- a need that the abstract state does not give; if the state gives what the cause says, no need is named
abbrev pub IsNeed : PolicySource → AbstractState → Insn → Cause → Need → Type 0
IsNeed p state insn cause named = Lacking p state insn cause named ⊎ ((named ≡ need.Unshown) × IsMet p state insn cause)
