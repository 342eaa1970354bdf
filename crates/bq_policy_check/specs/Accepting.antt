-- The image of a policy that `check` accepts.
use Rattle.std.specs.Prelude.{◌≡◌, ◌≢◌, ℕ, true, false, List, ◌⊎◌, MatchOption, Option}
use Rattle.std.specs.declared.alloc.Global.{Global}
use Rattle.std.specs.declared.vec.Vec.{Vec}
use Rattle.bq_explain.specs.declared.limits.Limits.{Limits}
use Rattle.bq_explain.specs.declared.verdict.Verdict.{Verdict}
use Rattle.bq_explain.specs.Verdicts.{IsVerdict, is_accepted}
use Rattle.bq_insn.specs.Spelling.{spelling}
use Rattle.bq_load.specs.Layout.{IsImage}
use Rattle.bq_policy_file.specs.declared.fault.PolicyFault.{PolicyFault}
use Rattle.bq_policy_file.specs.declared.fault.PolicyFault.TheVariants.{OutOfMemory}
use Rattle.bq_policy_file.specs.declared.head.Head.{Head}
use Rattle.bq_policy_file.specs.declared.policy_source.PolicySource.{PolicySource}
use Rattle.bq_policy_file.specs.Files.{IsPolicy, IsPolicyFault}
use Rattle.bq_policy_check.specs.Checking.{GivesTerms}
use Rattle.bq_policy_check.specs.declared.words.CheckWords.{CheckWords}

-- the file is this policy, which the verifier and the limits accept, and the bytes are its image
pub record IsImageUnder (bytes : List ℕ) (h : Head) (l : Limits) (image : List ℕ) : Type 0 where
  pub policy : PolicySource
  pub is_policy : IsPolicy bytes h policy
  pub verdict : Verdict
  pub is_verdict : IsVerdict policy l verdict
  pub accepted : is_accepted verdict ≡ true
  pub spells : IsImage image policy.form.version policy.form.hook policy.form.shapes.items (spelling policy.insns.items)

-- the file is a policy that is not accepted
pub record IsNotAccepted (bytes : List ℕ) (h : Head) (l : Limits) : Type 0 where
  pub policy : PolicySource
  pub is_policy : IsPolicy bytes h policy
  pub verdict : Verdict
  pub is_verdict : IsVerdict policy l verdict
  pub refused : is_accepted verdict ≡ false

-- the file is no policy, or one that is not accepted
abbrev pub HasNoImage : List ℕ → Head → Limits → Type 0
HasNoImage bytes h l = ((named : PolicyFault) × IsPolicyFault bytes h named × (named ≢ OutOfMemory)) ⊎ IsNotAccepted bytes h l

-- what is found: the image by that head and those limits, or nothing if there is no such image
abbrev pub IsFoundUnder : List ℕ → Head → Limits → Option (Vec ℕ Global) → Type 0
IsFoundUnder bytes h l found = MatchOption found (HasNoImage bytes h l) (λ image. IsImageUnder bytes h l image.items)

-- the image by the head and the limits that the words say
pub record IsImageAsAsked (w : CheckWords) (bytes image : List ℕ) : Type 0 where
  pub terms : Head × Limits
  pub gives : GivesTerms w terms
  pub is : IsImageUnder bytes terms.0 terms.1 image

-- the words say no head or no limits, or the file has no image by those that they say
abbrev pub IsNoImage : CheckWords → List ℕ → Type 0
IsNoImage w bytes = ((terms : Head × Limits) → ¬ GivesTerms w terms) ⊎ ((terms : Head × Limits) × GivesTerms w terms × HasNoImage bytes terms.0 terms.1)
