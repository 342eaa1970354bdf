-- What `dis` answers to a policy's file.
use Rattle.std.specs.Prelude.{◌≡◌, ℕ, List, ◌⊎◌, String, string_bytes}
use Rattle.std.specs.declared.alloc.Global.{Global}
use Rattle.bq_policy_file.specs.declared.head.Head.{Head}
use Rattle.bq_policy_file.specs.declared.policy_source.PolicySource.{PolicySource}
use Rattle.bq_policy_file.specs.Files.{IsPolicy}
use Rattle.bq_policy_file.specs.Listed.{IsListed}
use Rattle.bq_policy_file.specs.ReadBack.{IsFileOf}
use Rattle.bq_policy_check.specs.declared.answered.Answered.{Answered}
use Rattle.bq_policy_check.specs.declared.answered.Answered.TheVariants.{Done}
use Rattle.bq_policy_check.specs.declared.words.DisWords.{DisWords}
use Rattle.bq_policy_check.specs.Refusing.{IsRefusedFile}
use Rattle.bq_policy_check.specs.Given.{IsWordsFault, GivesHead}

-- the file is this policy, and its listing is written, which is read as that policy again and as no other
pub record IsListing (w : DisWords) (bytes : List ℕ) (h : Head) (answer : Answered) : Type 0 where
  pub policy : PolicySource
  pub is_policy : IsPolicy bytes h policy
  pub text : String Global
  pub is : answer ≡ Done text
  pub listed : IsListed policy w.has_slots (string_bytes text)
  pub file : IsFileOf policy (string_bytes text)

-- the answer for a file under a head: its fault, or its listing
abbrev pub ListsFile : DisWords → List ℕ → Head → Answered → Type 0
ListsFile w bytes h answer = IsRefusedFile bytes h answer ⊎ IsListing w bytes h answer

-- the answer for a file under the head that the words say; only words that say none are refused
abbrev pub ListsTo : DisWords → List ℕ → Answered → Type 0
ListsTo w bytes answer = IsWordsFault (GivesHead w.policy) answer ⊎ ((h : Head) × GivesHead w.policy h × ListsFile w bytes h answer)
