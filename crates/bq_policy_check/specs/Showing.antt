-- What an answer of `check` says as JSON.
use Rattle.std.specs.Prelude.{◌≡◌, ◌==◌, ℕ, Bool, false, List, [], ◌∷◌, ◌++◌, Some, codes}
use Rattle.std.specs.Fmt.{decimal}
use Rattle.std.specs.List.{AllByRecursion, before_first}
use Rattle.serde_json.specs.Data.{Data, null, boolean, number, string, unsigned, Members, put}
use Rattle.serde_json.specs.Find.{get, of_integer}
use Rattle.serde_json.specs.Written.{IsInOrder}
use Rattle.bq_hooks.specs.Hooks.{hook_word, version_number}
use Rattle.bq_insn.specs.Appending.{StartsWith}
use Rattle.bq_verify.specs.Causes.{cause_number}
use Rattle.bq_verify.specs.declared.cause.Cause.{Cause}
use Rattle.bq_explain.specs.Beginnings.{accepted_beginning}
use Rattle.bq_explain.specs.Measures.{measure_word}
use Rattle.bq_explain.specs.Verdicts.{is_accepted, verdict_line}
use Rattle.bq_explain.specs.declared.verdict.Verdict.{Verdict}
use Rattle.bq_explain.specs.declared.verdict.Verdict.TheVariants.{Accepted, OverSteps, Forbidden, OtherHook, Beyond, Refused}
use Rattle.bq_policy_file.specs.Naming.{policy_fault_text}
use Rattle.bq_policy_file.specs.declared.fault.PolicyFault.{PolicyFault}
use Rattle.bq_policy_file.specs.declared.fault.PolicyFault.TheVariants.{Assembly, Head, Image, Program}
use Rattle.bq_policy_file.specs.declared.policy_source.PolicySource.{PolicySource}
use Rattle.bq_policy_check.specs.Refusing.{policy_fault_line}

-- the value as JSON, on a line of its own
abbrev pub IsLineOf : Data → List ℕ → Type 0
IsLineOf d text = (line : List ℕ) × IsInOrder line d × (text ≡ line ++ codes "\n")

-- the object has each of these members
abbrev pub HasMembers : List (List ℕ × Data) → Data → Type 0
HasMembers named d = AllByRecursion (λ member. get member.0 d ≡ Some member.1) named

-- an object with these members, and maybe more, on a line of its own
abbrev pub IsJson : List (List ℕ × Data) → List ℕ → Type 0
IsJson named text = (d : Data) × HasMembers named d × IsLineOf d text

-- these put among members, one after another
abbrev pub put_all : List (List ℕ × Data) → Members → Members
put_all [] members = members
put_all (first ∷ rest) members = put_all rest (put first.0 first.1 members)

-- the text before the end of its first line
abbrev pub first_line : List ℕ → List ℕ
first_line text = before_first (λ b. b == 10) text

-- hook, version and budget of a policy that is accepted
abbrev pub of_accepted : PolicySource → ℕ → List (List ℕ × Data)
of_accepted p budget =
    (codes "hook", string (hook_word p.form.hook)) ∷ (codes "version", number (unsigned (version_number p.form.version)))
    ∷ (codes "budget", number (unsigned budget)) ∷ []

-- the limit that a policy is beyond
abbrev pub of_limit : List ℕ → List (List ℕ × Data)
of_limit cause = (codes "stage", string (codes "limit")) ∷ (codes "cause", string cause) ∷ []

-- the cause for which the verifier refuses a policy, and the slot
abbrev pub refusal_fields : ℕ → Cause → List (List ℕ × Data)
refusal_fields slot cause =
    (codes "stage", string (codes "verifier")) ∷ (codes "code", string (codes "V" ++ decimal (cause_number cause))) ∷ (codes "slot", number (unsigned slot)) ∷ []

-- the parts of a verdict
abbrev pub of_verdict : PolicySource → Verdict → List (List ℕ × Data)
of_verdict p (Accepted budget) = of_accepted p budget
of_verdict p (OverSteps budget most) = of_limit (codes "steps") ++ (codes "budget", number (unsigned budget)) ∷ (codes "limit", number (unsigned most)) ∷ []
of_verdict p (Forbidden helper) = of_limit (codes "helper") ++ (codes "helper", number (of_integer helper)) ∷ []
of_verdict p OtherHook = of_limit (codes "hook")
of_verdict p (Beyond over) = of_limit (measure_word over.measure) ++ (codes "used", number (unsigned over.used)) ∷ (codes "limit", number (unsigned over.most)) ∷ []
of_verdict p (Refused slot cause) = refusal_fields slot cause

-- whether the policy may run, and the line that says so or why not
abbrev pub answer_members : Bool → Data → List (List ℕ × Data)
answer_members accepted line = (codes "accepted", boolean accepted) ∷ (codes "answer", line) ∷ []

-- the first line on a verdict: of a refusal it is the line of plain `check`
abbrev pub IsFirstLine : PolicySource → Verdict → List ℕ → Type 0
IsFirstLine p (Accepted budget) line = (text : List ℕ) × StartsWith (accepted_beginning p budget) text × (line ≡ first_line text)
IsFirstLine p refusal line = line ≡ first_line (verdict_line p.form.hook refusal)

-- as JSON a verdict has its first line, and a member for each of its parts
abbrev pub ShowsVerdict : PolicySource → Verdict → List ℕ → Type 0
ShowsVerdict p verdict text = (line : List ℕ) × IsFirstLine p verdict line × IsJson (answer_members (is_accepted verdict) (string line) ++ of_verdict p verdict) text

-- the slot that a fault of a file names
abbrev pub slot_of : PolicyFault → Data
slot_of (Program slot cause) = number (unsigned slot)
slot_of other = null

-- which part of the program refuses a file for that fault
abbrev pub stage_of : PolicyFault → List ℕ
stage_of (Head line cause) = codes "head"
stage_of (Assembly line cause) = codes "assembler"
stage_of (Image fault) = codes "image"
stage_of (Program slot cause) = codes "decoder"
stage_of other = codes "file"

-- what refuses the file, the fault by its text, and its slot
abbrev pub of_fault : PolicyFault → List (List ℕ × Data)
of_fault named = (codes "stage", string (stage_of named)) ∷ (codes "code", string (policy_fault_text named)) ∷ (codes "slot", slot_of named) ∷ []

-- as JSON a fault of a file has its first line, and a member for each of its parts
abbrev pub ShowsFault : PolicyFault → List ℕ → Type 0
ShowsFault named text =
    IsJson (answer_members false (string (first_line (policy_fault_line named))) ++ of_fault named) text

-- no answer comes to the file
abbrev pub ShowsNone : List ℕ → Type 0
ShowsNone text = IsJson (answer_members false null) text
