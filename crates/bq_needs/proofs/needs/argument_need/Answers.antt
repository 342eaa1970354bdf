use Rattle.std.proofs.Common.{◌≡◌, rules, SFits, to_z-of_z, ℤ, Option, Some, None}
use Rattle.std.specs.Prelude.{MatchOption}
use Rattle.std.specs.Int.{w32}
use Rattle.bq_insn.specs.declared.Insn.TheVariants.{Call}
use Rattle.bq_states.specs.declared.abstract_state.AbstractState.{AbstractState}
use Rattle.bq_policy_file.specs.declared.policy_source.PolicySource.{PolicySource}
use Rattle.bq_transfer.specs.declared.obligation.Obligation.TheVariants as obligation
use Rattle.bq_verify.specs.declared.cause.Cause.TheVariants.{State}
use Rattle.bq_needs.specs.Arguments.{GivesHelper, IsBad}
use Rattle.bq_needs.specs.Needs.{AreGoodArguments, Lacking}
use Rattle.bq_needs.specs.declared.arguments.Argument.{Argument}
use Rattle.bq_needs.specs.declared.needs.Need.TheVariants as need
use Rattle.bq_needs.specs.declared.needs.Need.{Need}
use Rattle.bq_needs.proofs.needs.argument_need.Goals as goal

-- an argument that is bad is what the call lacks
of_call : (p : PolicySource) (state : AbstractState) (helper : ℤ) (named : Option Need)
    → MatchOption named (GivesHelper p state helper) (λ n. (a : Argument) × (n ≡ need.Argument helper a) × IsBad p state helper a)
    → MatchOption named (AreGoodArguments p state (Call helper)) (Lacking p state (Call helper) (State obligation.Argument))
of_call p state helper None gives = gives
of_call p state helper (Some n) (a, is, bad) = ((a, is, bad), λ gives. bad.not_given (gives a bad.wanted))

pub returns-in-Call : goal.returns-in-Call
returns-in-Call c =
    let fits : SFits w32 c.in-Call.helper = search rules in
    rw c.in-Call.is
    (of_call c.args.policy.now c.args.state.now c.in-Call.helper c.call_need.result (simp (to_z-of_z fits) at c.call_need.ensures))
