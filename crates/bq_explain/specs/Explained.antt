-- What an explanation says of a policy, and how it is said.
use Rattle.std.specs.Prelude.{◌≡◌, ℕ, ◌==◌, List, ◌++◌, Bool, true, false, Option, Some, Contains, codes, slice_index_or}
use Rattle.bq_insn.specs.declared.Insn.{Insn}
use Rattle.bq_insn.specs.Slots.{spread}
use Rattle.bq_bpf.specs.Memory.{Setting, State}
use Rattle.bq_bpf.specs.Steps.{instruction_at}
use Rattle.bq_policy_file.specs.Subjects.{subject_in}
use Rattle.bq_verify.specs.declared.graph_cause.GraphCause.{GraphCause}
use Rattle.bq_verify.specs.declared.graph_cause.GraphCause.TheVariants.{Jump, NoExit, Unreached, Helper, Frame, Counters}
use Rattle.bq_verify.specs.declared.cause.Cause.{Cause}
use Rattle.bq_verify.specs.declared.cause.Cause.TheVariants as cause
use Rattle.bq_verify.specs.KnownAt.{ContainsRuns, IsNotReached}
use Rattle.bq_verify.specs.Straight.{IsStraightBefore}
use Rattle.bq_states.specs.AbstractStates.{Contains as Allows}
use Rattle.bq_states.specs.declared.abstract_state.AbstractState.{AbstractState}
use Rattle.bq_policy_file.specs.declared.policy_source.PolicySource.{PolicySource}
use Rattle.bq_needs.specs.Arguments.{argument_register}
use Rattle.bq_needs.specs.Needs.{IsNeed}
use Rattle.bq_needs.specs.Words.{DescribesNeed}
use Rattle.bq_needs.specs.declared.needs.Need.{Need}
use Rattle.bq_needs.specs.declared.needs.Need.TheVariants as need
use Rattle.bq_explain.specs.Makers.{IsOnTrail}
use Rattle.bq_explain.specs.DescribedStates.{DescribesState}
use Rattle.bq_explain.specs.Texts.{IsStateText}
use Rattle.bq_explain.specs.TrailTexts.{DescribesTrail, place_line}
use Rattle.bq_explain.specs.Verdicts.{IsRefusedPolicy, IsVerdict}
use Rattle.bq_explain.specs.declared.explanation.Detail.{Detail}
use Rattle.bq_explain.specs.declared.explanation.Detail.TheVariants as detail
use Rattle.bq_explain.specs.declared.explanation.Explanation.{Explanation}
use Rattle.bq_explain.specs.declared.graph_fault.GraphFault.{GraphFault}
use Rattle.bq_explain.specs.declared.graph_fault.GraphFault.TheVariants as fault
use Rattle.bq_explain.specs.declared.limits.Limits.{Limits}
use Rattle.bq_explain.specs.declared.makers.Maker.{Maker}
use Rattle.bq_explain.specs.declared.program_point.ProgramPoint.{ProgramPoint}
use Rattle.bq_explain.specs.declared.refusal.Finding.{Finding}
use Rattle.bq_explain.specs.declared.refusal.Finding.TheVariants as finding
use Rattle.bq_explain.specs.declared.refusal.ExplainedRefusal.{ExplainedRefusal}
use Rattle.bq_explain.specs.declared.trail.RegisterMaker.{RegisterMaker}
use Rattle.bq_explain.specs.declared.verdict.Verdict.{Verdict}
use Rattle.bq_explain.specs.declared.verdict.Verdict.TheVariants.{Accepted, Refused}

-- the place is that of the instruction at the slot
pub record IsPlaceOfSlot (slots : List (Option Insn)) (slot : ℕ) (place : ProgramPoint) : Type 0 where
  pub slot_is : place.slot ≡ slot
  pub here : instruction_at slots slot ≡ Some place.insn

-- the cause that a fault has
abbrev pub graph_cause_of : GraphFault → GraphCause
graph_cause_of (fault.JumpsOut to) = Jump
graph_cause_of (fault.JumpsBack to) = Jump
graph_cause_of (fault.JumpsInside to) = Jump
graph_cause_of fault.RunsOut = NoExit
graph_cause_of fault.Unreached = Unreached
graph_cause_of (fault.Helper helper) = Helper
graph_cause_of fault.Frame = Frame
graph_cause_of fault.Calls = Counters

-- the cause is of the states
abbrev pub IsOfState : Cause → Type 0
IsOfState (cause.State obligation) = Unit {0}
IsOfState (cause.Graph named) = ⊥

-- What is found at a refused instruction: a fault of the control graph, with that cause; or a need that the state known before
-- the instruction does not meet, and that state holds in every run that comes there; or that nothing is known. The last is
-- found only if no run comes there, provided that each instruction before finds what it needs.
abbrev pub IsFinding : PolicySource → ℕ → Insn → Cause → Finding → Type 0
IsFinding p slot insn (cause.Graph named) (finding.Graph wrong) = graph_cause_of wrong ≡ named
IsFinding p slot insn (cause.State obligation) (finding.State need known) =
    ContainsRuns (subject_in p) slot known × IsNeed p known insn (cause.State obligation) need
IsFinding p slot insn (cause.State obligation) finding.Unknown =
    IsStraightBefore (subject_in p) slot → IsNotReached (subject_in p) slot
IsFinding p slot insn _ other = ⊥

-- the need speaks of the register
abbrev pub speaks_of : Need → ℕ → Bool
speaks_of (need.Unknown registers) r = slice_index_or registers r false
speaks_of (need.Address access) r = access.register == r
speaks_of (need.Access access pointer lack) r = access.register == r
speaks_of (need.Number pointer) r = pointer.register == r
speaks_of (need.Argument helper argument) r = argument_register argument == r
speaks_of (need.Answer known) r = 0 == r
speaks_of (need.Map index) r = false
speaks_of need.Unshown r = false

-- what is found is a need that speaks of the register
abbrev pub is_found_of : Finding → ℕ → Bool
is_found_of (finding.State need known) r = speaks_of need r
is_found_of _ r = false

-- what is found speaks of each of these registers
abbrev pub AreAsked : Finding → List Bool → Type 0
AreAsked found asked = (r : ℕ) → slice_index_or asked r false ≡ true → is_found_of found r ≡ true

-- each of them is on the trail of these registers at the slot
abbrev pub AreMade : List (Option Insn) → ℕ → List Bool → List RegisterMaker → Type 0
AreMade slots slot asked made =
    (one : RegisterMaker) → Contains made one → IsOnTrail slots slot asked one.register one.place.slot × (instruction_at slots one.place.slot ≡ Some one.place.insn)

-- what was made is of this maker: its register, its slot and the instruction there
pub record IsMadeBy (slots : List (Option Insn)) (maker : Maker) (made : RegisterMaker) : Type 0 where
  pub register_is : made.register ≡ maker.register
  pub slot_is : made.place.slot ≡ maker.slot
  pub insn_is : instruction_at slots made.place.slot ≡ Some made.place.insn

-- each of them tells of one of the makers
abbrev pub AreOf : List (Option Insn) → List Maker → List RegisterMaker → Type 0
AreOf slots makers made = (one : RegisterMaker) → Contains made one → (maker : Maker) × Contains makers maker × IsMadeBy slots maker one

-- the instruction at the slot, what is found there, and instructions on the trail of registers of which that speaks
pub record IsRefusalOf (p : PolicySource) (slot : ℕ) (named : Cause) (refusal : ExplainedRefusal) : Type 0 where
  pub place : IsPlaceOfSlot (spread p.insns.items) slot refusal.place
  pub cause_is : refusal.cause ≡ named
  pub finds : IsFinding p slot refusal.place.insn named refusal.finding
  pub asked : List Bool
  pub are_asked : AreAsked refusal.finding asked
  pub made : AreMade (spread p.insns.items) slot asked refusal.trail.makers.items

-- what explains a verdict
abbrev pub IsDetail : PolicySource → Verdict → Detail → Type 0
IsDetail p (Accepted budget) (detail.Accepted summary) = Unit {0}
IsDetail p (Accepted budget) other = ⊥
IsDetail p (Refused slot named) (detail.Refused refusal) = IsRefusalOf p slot named refusal
IsDetail p (Refused slot named) other = ⊥
IsDetail p limited (detail.Limited place) = Unit {0}
IsDetail p limited other = ⊥

-- if the verdict is a refusal, it is the verifier's
abbrev pub IsOfVerifier : PolicySource → Verdict → Type 0
IsOfVerifier p (Refused slot named) = IsRefusedPolicy p slot named
IsOfVerifier p other = Unit {0}

-- the verdict is that of the verifier and the limits, and the rest explains it
pub record Explains (p : PolicySource) (l : Limits) (e : Explanation) : Type 0 where
  pub is_verdict : IsVerdict p l e.verdict
  pub is_detail : IsDetail p e.verdict e.detail

-- a line tells the need, and behind it lines tell what is known: in each state of a program of these maps that this allows they are so
pub record DescribesNeedAndState (p : PolicySource) (insn : Insn) (need : Need) (known : AbstractState) (text : List ℕ) : Type 0 where
  pub described : List ℕ
  pub describes_need : DescribesNeed p known insn need described
  pub lines : List ℕ
  pub are_state : IsStateText p.form.shapes.items known lines
  pub hold : (f : Setting) (s : State) → f.shapes ≡ p.form.shapes.items → Allows f known s → DescribesState f s lines
  pub text_is : text ≡ codes "\n  " ++ (described ++ (codes "\n" ++ lines))

-- the text says what is found at an instruction
abbrev pub DescribesFinding : PolicySource → Insn → Finding → List ℕ → Type 0
DescribesFinding p insn (finding.State need known) text = DescribesNeedAndState p insn need known text
DescribesFinding p insn other text = Unit {0}

-- the line of the instruction that is refused, then what is found there, then where the registers come from, then advice
pub record DescribesRefusal (p : PolicySource) (refusal : ExplainedRefusal) (text : List ℕ) : Type 0 where
  pub before : List ℕ
  pub found : List ℕ
  pub describes_finding : DescribesFinding p refusal.place.insn refusal.finding found
  pub after : List ℕ
  pub describes_trail : DescribesTrail p.form.shapes.items refusal.trail after
  pub text_is : text ≡ before ++ (place_line refusal.place ++ (found ++ after))

-- for a refusal the text says what is found and where the registers come from
abbrev pub DescribesDetail : PolicySource → Detail → List ℕ → Type 0
DescribesDetail p (detail.Refused refusal) text = DescribesRefusal p refusal text
DescribesDetail p other text = Unit {0}
