-- If each argument that a helper wants is shown, the helper is given all that it wants.
use Rattle.std.proofs.Common.{ℤ}
use Rattle.bq_states.specs.declared.abstract_state.AbstractState.{AbstractState}
use Rattle.bq_policy_file.specs.declared.policy_source.PolicySource.{PolicySource}
use Rattle.bq_needs.specs.declared.arguments.Argument.TheVariants as argument
use Rattle.bq_needs.specs.Arguments.{GivesHelper, IsArgumentShown, Wants}

-- where each that the helper has is given, all are
pub all_given : (p : PolicySource) (state : AbstractState) (helper : ℤ)
    → (Wants helper argument.Map → IsArgumentShown p state argument.Map) → (Wants helper argument.Entry → IsArgumentShown p state argument.Entry)
    → (Wants helper argument.Value → IsArgumentShown p state argument.Value) → (Wants helper argument.Zero → IsArgumentShown p state argument.Zero)
    → (Wants helper argument.Counter → IsArgumentShown p state argument.Counter) → (Wants helper argument.Amount → IsArgumentShown p state argument.Amount)
    → GivesHelper p state helper
all_given p state helper map entry value null counter amount argument.Map = map
all_given p state helper map entry value null counter amount argument.Entry = entry
all_given p state helper map entry value null counter amount argument.Value = value
all_given p state helper map entry value null counter amount argument.Zero = null
all_given p state helper map entry value null counter amount argument.Counter = counter
all_given p state helper map entry value null counter amount argument.Amount = amount
