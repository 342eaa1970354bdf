-- The image of a policy by the head and the limits that words say.
use Rattle.std.proofs.Common.{ℕ, List, Option, Some, None, inr}
use Rattle.std.specs.Prelude.{MatchOption}
use Rattle.std.specs.declared.alloc.Global.{Global}
use Rattle.std.specs.declared.vec.Vec.{Vec}
use Rattle.bq_explain.specs.declared.limits.Limits.{Limits}
use Rattle.bq_policy_file.specs.declared.head.Head.{Head}
use Rattle.bq_policy_check.specs.Accepting.{IsImageAsAsked, IsFoundUnder, IsNoImage}
use Rattle.bq_policy_check.specs.Checking.{GivesTerms}
use Rattle.bq_policy_check.specs.declared.words.CheckWords.{CheckWords}

-- what is found by them is found by the words
pub by_terms : (w : CheckWords) (bytes : List ℕ) (terms : Head × Limits) (found : Option (Vec ℕ Global)) → GivesTerms w terms
    → IsFoundUnder bytes terms.0 terms.1 found
    → MatchOption found (IsNoImage w bytes) (λ image. IsImageAsAsked w bytes image.items)
by_terms w bytes terms None gives none = inr (terms, gives, none)
by_terms w bytes terms (Some image) gives is = record { terms = terms; gives = gives; is = is }
