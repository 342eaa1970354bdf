-- What is answered to a policy under limits, and how it is said.
use Rattle.std.specs.Prelude.{◌≡◌, ℕ, ℤ, ◌<◌, ◌≤◌, Bool, true, false, List, ◌++◌, Option, Some, None, option_map, codes, All, Contains, slice_get, take}
use Rattle.std.specs.Fmt.{decimal, signed_decimal}
use Rattle.bq_insn.specs.declared.Insn.{Insn}
use Rattle.bq_insn.specs.declared.Insn.TheVariants.{Call}
use Rattle.bq_insn.specs.Slots.{spread}
use Rattle.bq_verify.specs.Faults.{IsFaultless}
use Rattle.bq_verify.specs.Paths.{IsGreatest, PathOut}
use Rattle.bq_verify.specs.Accepted.{IsAccepted}
use Rattle.bq_load.specs.declared.fault.LoadFault.TheVariants as load
use Rattle.bq_load.specs.Naming.{load_fault_text}
use Rattle.bq_hooks.specs.Hooks.{hook_word}
use Rattle.bq_verify.specs.Refusals.{IsVerdictOn}
use Rattle.bq_verify.specs.Subjects.{context_size_of}
use Rattle.bq_policy_file.specs.Subjects.{subject_in}
use Rattle.bq_verify.specs.Straight.{IsStraightProgram}
use Rattle.bq_hooks.specs.declared.hook.Hook.{Hook}
use Rattle.bq_verify.specs.declared.cause.Cause.{Cause}
use Rattle.bq_verify.specs.declared.refused.Refused.TheVariants as refused
use Rattle.bq_words.specs.Refused.{refused_line}
use Rattle.bq_policy_file.specs.Check.{accepted_line}
use Rattle.bq_policy_file.specs.declared.policy_source.PolicySource.{PolicySource}
use Rattle.bq_explain.specs.Measures.{measure_of, measure_word}
use Rattle.bq_explain.specs.declared.limits.Limits.{Limits}
use Rattle.bq_explain.specs.declared.limits.ExceededLimit.{ExceededLimit}
use Rattle.bq_explain.specs.declared.measure.Measure.{Measure}
use Rattle.bq_explain.specs.declared.measure.Measure.TheVariants.{Maps, MapBytes, Counters}
use Rattle.bq_explain.specs.declared.verdict.Verdict.{Verdict}
use Rattle.bq_explain.specs.declared.verdict.Verdict.TheVariants.{Accepted, OverSteps, Forbidden, OtherHook, Beyond, Refused}

-- the program's control graph has no fault, and the verifier accepts the program with that budget, which is the longest path
pub record IsAcceptedPolicy (p : PolicySource) (budget : ℕ) : Type 0 where
  pub faultless : IsFaultless (spread p.insns.items)
  pub accepted : IsAccepted (spread p.insns.items) p.form.shapes.items (context_size_of p.form) budget
  pub longest : IsGreatest (PathOut (spread p.insns.items) 0) budget

-- the verifier refuses the policy's program at that slot for that cause; so the program is not straight
pub record IsRefusedPolicy (p : PolicySource) (slot : ℕ) (cause : Cause) : Type 0 where
  pub refusal : IsVerdictOn (subject_in p) (refused.At slot cause)
  pub not_straight : ¬ (IsStraightProgram (subject_in p))

-- without a limit each budget is within it
abbrev pub IsWithinLimit : ℕ → Option ℕ → Type 0
IsWithinLimit budget None = Unit {0}
IsWithinLimit budget (Some most) = budget ≤ most

-- the helpers that may be called; without a list all of them
abbrev pub helpers_allowed : Limits → Option (List ℤ)
helpers_allowed l = option_map (λ helpers. helpers.items) l.helpers

-- the instruction calls no helper beside those
abbrev pub CallsNoOther : Option (List ℤ) → Insn → Type 0
CallsNoOther (Some helpers) (Call helper) = Contains helpers helper
CallsNoOther helpers insn = Unit {0}

-- the instruction calls that helper, which is not one of those
pub record IsBeside (helpers : List ℤ) (insn : Insn) (helper : ℤ) : Type 0 where
  pub calls : insn ≡ Call helper
  pub beside : ¬ (Contains helpers helper)

-- the first of the instructions that calls a helper which may not be called calls this one
pub record IsCalledAgainst (helpers : Option (List ℤ)) (insns : List Insn) (helper : ℤ) : Type 0 where
  pub place : ℕ
  pub called : slice_get insns place ≡ Some (Call helper)
  pub first : All (CallsNoOther helpers) (take place insns)
  pub against : ¬ (CallsNoOther helpers (Call helper))

-- without a list of hooks each is allowed
abbrev pub IsAmong : Option (List Hook) → Hook → Type 0
IsAmong None hook = Unit {0}
IsAmong (Some hooks) hook = Contains hooks hook

-- a policy may be for that hook
abbrev pub AllowsHook : Limits → Hook → Type 0
AllowsHook l hook = IsAmong (option_map (λ hooks. hooks.items) l.hooks) hook

-- the most that is allowed of that measure
abbrev pub most_of : Limits → Measure → Option ℕ
most_of l Maps = l.maps
most_of l MapBytes = l.map_bytes
most_of l Counters = l.counters

-- the policy is within the limits of its maps, their bytes and its calls of counters
pub record KeepsMeasures (p : PolicySource) (l : Limits) : Type 0 where
  pub maps : IsWithinLimit (measure_of p Maps) l.maps
  pub map_bytes : IsWithinLimit (measure_of p MapBytes) l.map_bytes
  pub counters : IsWithinLimit (measure_of p Counters) l.counters

-- the policy uses more of a measure than is allowed
pub record IsExceeded (p : PolicySource) (l : Limits) (over : ExceededLimit) : Type 0 where
  pub most : most_of l over.measure ≡ Some over.most
  pub used : over.used ≡ measure_of p over.measure
  pub more : over.most < over.used

-- the policy is within the limits of the measures that are asked before that one
abbrev pub KeepsBefore : PolicySource → Limits → Measure → Type 0
KeepsBefore p l Maps = Unit {0}
KeepsBefore p l MapBytes = IsWithinLimit (measure_of p Maps) l.maps
KeepsBefore p l Counters = IsWithinLimit (measure_of p Maps) l.maps × IsWithinLimit (measure_of p MapBytes) l.map_bytes

-- the policy uses more of this measure than is allowed, and of no measure before it
pub record IsFirstExceeded (p : PolicySource) (l : Limits) (over : ExceededLimit) : Type 0 where
  pub is_exceeded : IsExceeded p l over
  pub before : KeepsBefore p l over.measure

-- the verifier accepts the policy with that budget, and it is within the limits of steps and helpers
pub record IsAcceptedWithin (p : PolicySource) (l : Limits) (budget : ℕ) : Type 0 where
  pub accepted : IsAcceptedPolicy p budget
  pub steps : IsWithinLimit budget l.steps
  pub helpers : All (CallsNoOther (helpers_allowed l)) p.insns.items

-- the policy is within all limits
pub record KeepsLimits (p : PolicySource) (l : Limits) (budget : ℕ) : Type 0 where
  pub steps : IsWithinLimit budget l.steps
  pub helpers : All (CallsNoOther (helpers_allowed l)) p.insns.items
  pub hook : AllowsHook l p.form.hook
  pub measures : KeepsMeasures p l

-- the verifier's refusal; or, of a program that the verifier accepts, the first limit that it exceeds; or that it is accepted
-- and exceeds none
abbrev pub IsVerdict : PolicySource → Limits → Verdict → Type 0
IsVerdict p l (Accepted budget) = IsAcceptedPolicy p budget × KeepsLimits p l budget
IsVerdict p l (OverSteps budget most) = IsAcceptedPolicy p budget × (l.steps ≡ Some most) × (most < budget)
IsVerdict p l (Forbidden helper) = (budget : ℕ) × IsAcceptedPolicy p budget × IsWithinLimit budget l.steps × IsCalledAgainst (helpers_allowed l) p.insns.items helper
IsVerdict p l OtherHook = (budget : ℕ) × IsAcceptedWithin p l budget × (¬ (AllowsHook l p.form.hook))
IsVerdict p l (Beyond over) = (budget : ℕ) × IsAcceptedWithin p l budget × AllowsHook l p.form.hook × IsFirstExceeded p l over
IsVerdict p l (Refused slot cause) = IsRefusedPolicy p slot cause

-- a verdict accepts the policy
abbrev pub is_accepted : Verdict → Bool
is_accepted (Accepted budget) = true
is_accepted other = false

-- the line on a limit that a policy is beyond
abbrev pub exceeded_line : ExceededLimit → List ℕ
exceeded_line over = refused_line (codes "limit " ++ (measure_word over.measure ++ (codes " " ++ (decimal over.used ++ (codes " of " ++ decimal over.most)))))

-- the line that tells a verdict
abbrev pub verdict_line : Hook → Verdict → List ℕ
verdict_line hook (Accepted budget) = accepted_line hook budget
verdict_line hook (OverSteps budget most) = refused_line (codes "limit steps " ++ (decimal budget ++ (codes " of " ++ decimal most)))
verdict_line hook (Forbidden helper) = refused_line (codes "limit helper " ++ signed_decimal helper)
verdict_line hook OtherHook = refused_line (codes "limit hook " ++ hook_word hook)
verdict_line hook (Beyond over) = exceeded_line over
verdict_line hook (Refused slot cause) = refused_line (load_fault_text (load.Refused slot cause))
