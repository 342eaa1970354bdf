-- The line that refuses a file.
use Rattle.std.specs.Prelude.{◌≡◌, ◌≢◌, ℕ, List, ◌++◌, String, string_bytes}
use Rattle.std.specs.declared.alloc.Global.{Global}
use Rattle.bq_policy_file.specs.Naming.{policy_fault_text}
use Rattle.bq_words.specs.Refused.{refused_line}
use Rattle.bq_policy_file.specs.declared.fault.PolicyFault.{PolicyFault}
use Rattle.bq_policy_file.specs.declared.fault.PolicyFault.TheVariants as fault
use Rattle.bq_policy_file.specs.declared.head.Head.{Head}
use Rattle.bq_policy_file.specs.Files.{IsPolicyFault}
use Rattle.bq_policy_check.specs.declared.answered.Answered.{Answered}
use Rattle.bq_policy_check.specs.declared.answered.Answered.TheVariants.{Refused}

-- the line by the fault's text
abbrev pub policy_fault_line : PolicyFault → List ℕ
policy_fault_line named = refused_line (policy_fault_text named)

-- the text begins with the line that names the fault
abbrev pub RefusesPolicy : PolicyFault → List ℕ → Type 0
RefusesPolicy named text = (reason : List ℕ) × (text ≡ policy_fault_line named ++ reason)

-- the file is no policy, for this fault, and the text names it
pub record IsRefusedFile (bytes : List ℕ) (h : Head) (answer : Answered) : Type 0 where
  pub named : PolicyFault
  pub is_fault : IsPolicyFault bytes h named
  pub other : named ≢ fault.OutOfMemory
  pub text : String Global
  pub is : answer ≡ Refused text
  pub refuses : RefusesPolicy named (string_bytes text)
