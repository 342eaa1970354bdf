-- What helpers need their arguments to be.
use Rattle.std.specs.Prelude.{◌≡◌, ℕ, ℤ, pos, ◌<◌, ◌⊎◌, false, List, Option, Some, None, codes, slice_get}
use Rattle.bq_bpf.specs.declared.board.TheConstants.{COUNTERS}
use Rattle.bq_bpf.specs.declared.shape.MapShape.{MapShape}
use Rattle.bq_bpf.specs.Helpers.{number_of_helper}
use Rattle.bq_bpf.specs.declared.helper.Helper.TheVariants.{Lookup, Update, AddCounter, ReadCounter}
use Rattle.bq_states.specs.Certainty.{Exact, Pointer, Scalar, CertaintyHoldsAt}
use Rattle.bq_states.specs.declared.abstract_state.ValueKind.TheVariants.{Number, Map}
use Rattle.bq_states.specs.declared.abstract_state.AbstractValue.{AbstractValue}
use Rattle.bq_states.specs.declared.abstract_state.AbstractState.{AbstractState}
use Rattle.bq_policy_file.specs.declared.policy_source.PolicySource.{PolicySource}
use Rattle.bq_needs.specs.declared.arguments.Argument.TheVariants as argument
use Rattle.bq_needs.specs.declared.arguments.Argument.{Argument}
use Rattle.bq_needs.specs.Accesses.{IsAccessShown}
use Rattle.bq_needs.specs.Operands.{known_in}

-- the helper has that argument
abbrev pub Wants : ℤ → Argument → Type 0
Wants helper argument.Map = (helper ≡ number_of_helper Lookup) ⊎ (helper ≡ number_of_helper Update)
Wants helper argument.Entry = (helper ≡ number_of_helper Lookup) ⊎ (helper ≡ number_of_helper Update)
Wants helper argument.Value = helper ≡ number_of_helper Update
Wants helper argument.Zero = helper ≡ number_of_helper Update
Wants helper argument.Counter = (helper ≡ number_of_helper AddCounter) ⊎ (helper ≡ number_of_helper ReadCounter)
Wants helper argument.Amount = helper ≡ number_of_helper AddCounter

-- the register points to this many bytes that may be read
abbrev pub PointsTo : PolicySource → AbstractState → ℕ → ℕ → Type 0
PointsTo p state r bytes = (k : AbstractValue) × (known_in state r ≡ Some k) × IsAccessShown p state (record { writes = false; bytes = bytes; register = r; off = pos 0 }) k

-- register 1 is the reference of a map, and register 3 points to as many as a value of it has
abbrev pub PointsToValue : PolicySource → AbstractState → Type 0
PointsToValue p state =
    (m : ℕ) × (shape : MapShape) × CertaintyHoldsAt (Pointer (Map m) 0) state 1 × (slice_get p.form.shapes.items m ≡ Some shape) × PointsTo p state 3 shape.value_size

-- a number of a counter
abbrev pub IsCounter : Option AbstractValue → Type 0
IsCounter None = ⊥
IsCounter (Some k) = (k.kind ≡ Number) × (k.offset.hi < COUNTERS)

-- the abstract state shows the argument to be what the helper needs
abbrev pub IsArgumentShown : PolicySource → AbstractState → Argument → Type 0
IsArgumentShown p state argument.Map = (m : ℕ) × CertaintyHoldsAt (Pointer (Map m) 0) state 1
IsArgumentShown p state argument.Entry = PointsTo p state 2 4
IsArgumentShown p state argument.Value = PointsToValue p state
IsArgumentShown p state argument.Zero = CertaintyHoldsAt (Exact 0) state 4
IsArgumentShown p state argument.Counter = IsCounter (known_in state 1)
IsArgumentShown p state argument.Amount = CertaintyHoldsAt Scalar state 2

-- the state gives each argument that the helper wants
abbrev pub GivesHelper : PolicySource → AbstractState → ℤ → Type 0
GivesHelper p state helper = (a : Argument) → Wants helper a → IsArgumentShown p state a

-- the state does not give this argument of the helper
pub record IsBad (p : PolicySource) (state : AbstractState) (helper : ℤ) (a : Argument) : Type 0 where
  pub wanted : Wants helper a
  pub not_given : ¬ (IsArgumentShown p state a)

-- the register of an argument
abbrev pub argument_register : Argument → ℕ
argument_register argument.Map = 1
argument_register argument.Entry = 2
argument_register argument.Value = 3
argument_register argument.Zero = 4
argument_register argument.Counter = 1
argument_register argument.Amount = 2

-- what the helper wants as this argument
abbrev pub wanted_text : Argument → List ℕ
wanted_text argument.Map = codes "a map in r1, by ldmap"
wanted_text argument.Entry = codes "4 written bytes at r2, the entry's number"
wanted_text argument.Value = codes "as many written bytes at r3 as a value has"
wanted_text argument.Zero = codes "0 in r4"
wanted_text argument.Counter = codes "a counter's number in r1, 0 to 63"
wanted_text argument.Amount = codes "a number in r2, the amount"
