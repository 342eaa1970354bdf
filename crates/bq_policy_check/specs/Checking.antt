-- What `check` answers to a file.
use Rattle.std.specs.Prelude.{◌≡◌, ◌≢◌, ℕ, Bool, true, false, List, ◌⊎◌, String, string_bytes}
use Rattle.std.specs.declared.alloc.Global.{Global}
use Rattle.bq_explain.specs.declared.limits.Limits.{Limits}
use Rattle.bq_explain.specs.declared.verdict.Verdict.{Verdict}
use Rattle.bq_explain.specs.Verdicts.{IsVerdict, is_accepted, verdict_line}
use Rattle.bq_policy_file.specs.declared.fault.PolicyFault.{PolicyFault}
use Rattle.bq_policy_file.specs.declared.fault.PolicyFault.TheVariants as fault
use Rattle.bq_policy_file.specs.declared.head.Head.{Head}
use Rattle.bq_policy_file.specs.declared.policy_source.PolicySource.{PolicySource}
use Rattle.bq_policy_file.specs.Files.{IsPolicy, IsPolicyFault}
use Rattle.bq_policy_check.specs.declared.answered.Answered.{Answered}
use Rattle.bq_policy_check.specs.declared.answered.Answered.TheVariants.{Done, Refused}
use Rattle.bq_policy_check.specs.declared.words.CheckWords.{CheckWords}
use Rattle.bq_policy_check.specs.Limiting.{HasLimits}
use Rattle.bq_policy_check.specs.Refusing.{policy_fault_line}
use Rattle.bq_policy_check.specs.Given.{IsWordsFault, GivesHead}
use Rattle.bq_policy_check.specs.Showing.{ShowsFault, ShowsVerdict}

-- neither explained nor as JSON the answer is only this line
abbrev pub IsPlainLine : CheckWords → List ℕ → List ℕ → Type 0
IsPlainLine w line text = w.is_explained ≡ false → w.is_json ≡ false → text ≡ line

-- as JSON the answer shows this
abbrev pub IsShownAsJson : CheckWords → (List ℕ → Type 0) → List ℕ → Type 0
IsShownAsJson w Shows text = w.is_json ≡ true → Shows text

-- the answer with this text, done or refused
abbrev pub answered : Bool → String Global → Answered
answered true text = Done text
answered false text = Refused text

-- the answer reports the verdict: done if the verdict accepts the policy, refused otherwise; its line is that of the verdict
pub record ReportsVerdict (w : CheckWords) (p : PolicySource) (l : Limits) (answer : Answered) : Type 0 where
  pub verdict : Verdict
  pub is_verdict : IsVerdict p l verdict
  pub text : String Global
  pub is : answer ≡ answered (is_accepted verdict) text
  pub reported : IsPlainLine w (verdict_line p.form.hook verdict) (string_bytes text)
  pub shown : IsShownAsJson w (ShowsVerdict p verdict) (string_bytes text)

-- the file is no policy, for this fault, by the line that names it
pub record ReportsFault (w : CheckWords) (bytes : List ℕ) (h : Head) (answer : Answered) : Type 0 where
  pub named : PolicyFault
  pub is_fault : IsPolicyFault bytes h named
  pub other : named ≢ fault.OutOfMemory
  pub text : String Global
  pub is : answer ≡ Refused text
  pub reported : IsPlainLine w (policy_fault_line named) (string_bytes text)
  pub shown : IsShownAsJson w (ShowsFault named) (string_bytes text)

-- the file is this policy, and its verdict is reported
pub record ReportsPolicy (w : CheckWords) (bytes : List ℕ) (h : Head) (l : Limits) (answer : Answered) : Type 0 where
  pub policy : PolicySource
  pub is_policy : IsPolicy bytes h policy
  pub reports : ReportsVerdict w policy l answer

-- the answer of a check of a file under a head and limits: its fault, or its verdict
abbrev pub ChecksFile : CheckWords → List ℕ → Head → Limits → Answered → Type 0
ChecksFile w bytes h l answer = ReportsFault w bytes h answer ⊎ ReportsPolicy w bytes h l answer

-- the answer of a check under the head and the limits that the words say
pub record ChecksAsked (w : CheckWords) (bytes : List ℕ) (answer : Answered) : Type 0 where
  pub head : Head
  pub gives : GivesHead w.policy head
  pub limits : Limits
  pub has : HasLimits w.limits limits
  pub checks : ChecksFile w bytes head limits answer

-- the words say this head, and these limits
pub record GivesTerms (w : CheckWords) (terms : Head × Limits) : Type 0 where
  pub head : GivesHead w.policy terms.0
  pub limits : HasLimits w.limits terms.1

-- words that say none are refused, and no others
abbrev pub ChecksTo : CheckWords → List ℕ → Answered → Type 0
ChecksTo w bytes answer = IsWordsFault (GivesTerms w) answer ⊎ ChecksAsked w bytes answer
