-- What a verdict says of the program, and what follows of its place.
use Rattle.std.proofs.Common.{◌≡◌, ℕ, Bool, List, [], Option, Result, Ok, Err, IfOk, arith, subst, sym}
use Rattle.std.specs.Prelude.{Contains}
use Rattle.std.proofs.lemmas.Bool.{false≢true}
use Rattle.bq_insn.specs.declared.Insn.{Insn}
use Rattle.bq_insn.specs.Slots.{spread}
use Rattle.bq_verify.specs.Edges.{IsStart}
use Rattle.bq_verify.specs.Faults.{HasFault, IsFaultless}
use Rattle.bq_verify.specs.declared.graph_cause.GraphCause.{GraphCause}
use Rattle.bq_verify.specs.declared.graph_cause.GraphCause.TheVariants.{Jump, NoExit, Unreached, Helper, Frame, Counters}
use Rattle.bq_verify.specs.Refusals.{IsVerdictOn, unproven_where_it_stops}
use Rattle.bq_verify.specs.Subjects.{Subject}
use Rattle.bq_verify.specs.declared.cause.Cause.{Cause}
use Rattle.bq_verify.specs.declared.cause.Cause.TheVariants as cause
use Rattle.bq_verify.specs.declared.refused.Refused.TheVariants as refused
use Rattle.bq_policy_file.specs.declared.policy_source.PolicySource.{PolicySource}
use Rattle.bq_policy_file.specs.Subjects.{subject_in}
use Rattle.bq_verify.specs.KnownAt.{ContainsRuns}
use Rattle.bq_states.specs.declared.abstract_state.AbstractState.{AbstractState}
use Rattle.bq_needs.specs.Needs.{IsNeed}
use Rattle.bq_needs.specs.declared.needs.Need.{Need}
use Rattle.bq_explain.specs.Explained.{AreAsked, AreMade, IsFinding, IsOfState, IsOfVerifier, IsPlaceOfSlot, IsRefusalOf}
use Rattle.bq_explain.specs.declared.program_point.ProgramPoint.{ProgramPoint}
use Rattle.bq_explain.specs.declared.refusal.Finding.TheVariants as finding
use Rattle.bq_explain.specs.declared.refusal.ExplainedRefusal.{ExplainedRefusal}
use Rattle.bq_explain.specs.declared.trail.RegisterMaker.{RegisterMaker}
use Rattle.bq_explain.specs.Verdicts.{IsVerdict}
use Rattle.bq_explain.specs.declared.limits.Limits.{Limits}
use Rattle.bq_explain.specs.declared.verdict.Verdict.{Verdict}
use Rattle.bq_explain.specs.declared.verdict.Verdict.TheVariants.{Accepted, OverSteps, Forbidden, OtherHook, Beyond, Refused}

-- a refusal is the verifier's
pub of_verifier : (p : PolicySource) (l : Limits) (verdict : Verdict) → IsVerdict p l verdict → IsOfVerifier p verdict
of_verifier p l (Accepted budget) is = tt
of_verifier p l (OverSteps budget most) is = tt
of_verifier p l (Forbidden helper) is = tt
of_verifier p l OtherHook is = tt
of_verifier p l (Beyond over) is = tt
of_verifier p l (Refused slot named) is = is

-- an instruction with a fault begins at its slot
fault_here : (slots : List (Option Insn)) (named : GraphCause) (slot : ℕ) → HasFault slots named slot → IsStart slots slot
fault_here slots Jump slot fault = record { insn = fault.insn; here = fault.here }
fault_here slots NoExit slot fault = record { insn = fault.insn; here = fault.here }
fault_here slots Unreached slot fault = fault.start
fault_here slots Frame slot fault = record { insn = fault.insn; here = fault.here }
fault_here slots Helper slot fault = record { insn = _; here = fault.here }
fault_here slots Counters slot fault = record { insn = fault.insn; here = fault.here }

-- an instruction that is refused begins at its slot
pub refused_here : (p : Subject) (slot : ℕ) (named : Cause) → IsVerdictOn p (refused.At slot named) → IsStart p.slots slot
refused_here p slot (cause.Graph named) is = fault_here p.slots named slot is.1.0
refused_here p slot (cause.State obligation) is =
    let unproven = unproven_where_it_stops p slot obligation is.1 in
    record { insn = unproven.insn; here = unproven.here }

-- where it is refused for what is not shown of the states, the control graph has no fault
pub refused_faultless : (p : Subject) (slot : ℕ) (named : Cause)
    → IsVerdictOn p (refused.At slot named) → IsOfState named → IsFaultless p.slots
refused_faultless p slot (cause.Graph named) is of = absurd of
refused_faultless p slot (cause.State obligation) is of = is.0

-- for a cause of the states what is known, and a need that it does not give, are what is found
pub finds_state : (p : PolicySource) (slot : ℕ) (insn : Insn) (named : Cause) (need : Need) (known : AbstractState) → IsOfState named
    → ContainsRuns (subject_in p) slot known → IsNeed p known insn named need → IsFinding p slot insn named (finding.State need known)
finds_state p slot insn (cause.Graph named) need known of contains is = absurd of
finds_state p slot insn (cause.State obligation) need known of contains is = (contains, is)

-- where nothing was made, all that was made is on the trail
nothing_made : (slots : List (Option Insn)) (slot : ℕ) (made : List RegisterMaker) → made ≡ [] → AreMade slots slot [] made
nothing_made slots slot made none one there =
    absurd (let less = (subst (λ (l : List RegisterMaker). Contains l one) none there).1 in let no : ⊥ = omega arith in no)

-- a refusal for a fault of the control graph
pub refusal_of_graph : {E : Type 0} (p : PolicySource) (slot : ℕ) (named : GraphCause) (place : ProgramPoint) (r : Result ExplainedRefusal E)
    → IsPlaceOfSlot (spread p.insns.items) slot place → IfOk r (λ refusal. refusal.place ≡ place)
    → IfOk r (λ refusal. refusal.cause ≡ cause.Graph named)
    → IfOk r (λ refusal. (p : PolicySource) (slot : ℕ) → IsFinding p slot place.insn (cause.Graph named) refusal.finding)
    → IfOk r (λ refusal. refusal.trail.makers.items ≡ [])
    → IfOk r (IsRefusalOf p slot (cause.Graph named))
refusal_of_graph p slot named place (Err e) at same is finds none = tt
refusal_of_graph p slot named place (Ok refusal) at same is finds none = record {
  place = subst (λ (q : ProgramPoint). IsPlaceOfSlot (spread p.insns.items) slot q) (sym same) at;
  cause_is = is;
  finds = subst (λ (q : ProgramPoint). IsFinding p slot q.insn (cause.Graph named) refusal.finding) (sym same) (finds p slot);
  asked = [];
  are_asked = λ r of. absurd (false≢true of);
  made = nothing_made (spread p.insns.items) slot refusal.trail.makers.items none;
}

-- a refusal for what is not shown of the states
pub refusal_of_state : {E : Type 0} (p : PolicySource) (slot : ℕ) (named : Cause) (slots : List (Option Insn))
    → slots ≡ spread p.insns.items → (place : ProgramPoint) (r : Result ExplainedRefusal E) → IsPlaceOfSlot (spread p.insns.items) slot place
    → IfOk r (λ refusal. refusal.place ≡ place) → IfOk r (λ refusal. refusal.cause ≡ named)
    → IfOk r (λ refusal. IsFinding p place.slot place.insn named refusal.finding)
    → IfOk r (λ refusal. (asked : List Bool) × AreAsked refusal.finding asked × AreMade slots place.slot asked refusal.trail.makers.items)
    → IfOk r (IsRefusalOf p slot named)
refusal_of_state p slot named slots laid place (Err e) at same is finds made = tt
refusal_of_state p slot named slots laid place (Ok refusal) at same is finds made = record {
  place = subst (λ (q : ProgramPoint). IsPlaceOfSlot (spread p.insns.items) slot q) (sym same) at;
  cause_is = is;
  finds =
      subst (λ (q : ProgramPoint). IsFinding p slot q.insn named refusal.finding) (sym same)
      (subst (λ (n : ℕ). IsFinding p n place.insn named refusal.finding) at.slot_is finds);
  asked = made.0;
  are_asked = made.1;
  made =
      subst (λ (n : ℕ). AreMade (spread p.insns.items) n made.0 refusal.trail.makers.items) at.slot_is
      (subst (λ (s : List (Option Insn)). AreMade s place.slot made.0 refusal.trail.makers.items) laid made.2);
}
