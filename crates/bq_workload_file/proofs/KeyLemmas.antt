-- Words that are lent, and keys that are reported.
use Rattle.std.proofs.Common.{◌≡◌, ℕ, List, [], ◌∷◌, Bor, Option, None, Some, Result, Err, map, option_and_then, option_map, refl, ap, ◌∙◌}
use Rattle.std.specs.Prelude.{◌||◌}
use Rattle.std.specs.List.{list_any}
use Rattle.std.specs.Result.{result_err}
use Rattle.std.specs.Str.{bytes_eq}
use Rattle.bq_workload_file.specs.declared.blame.Trouble.{Trouble}
use Rattle.bq_workload_file.specs.declared.workload_cause.WorkloadCause.{WorkloadCause}
use Rattle.bq_workload_file.specs.Keys.{is_one_of, unknown_key, unknown_there}

-- words that are lent are words
pub is_one_of-lent : (words : List (Bor (List ℕ))) (key : List ℕ)
    → list_any (λ word. bytes_eq word.now key) words ≡ is_one_of (map (λ word. word.now) words) key
is_one_of-lent [] key = refl
is_one_of-lent (word ∷ words) key = ap (λ b. bytes_eq word.now key || b) (is_one_of-lent words key)

-- what goes on as it was reported tells the same key
pub unknown_there-same : {T : Type 0} (r : Result T Trouble) (t u : Trouble)
    → r ≡ Err t → t ≡ u → option_and_then unknown_there (result_err r) ≡ unknown_there u
unknown_there-same {T} r t u is same =
    ap (λ (x : Result T Trouble). option_and_then unknown_there (result_err x)) is ∙ ap unknown_there same

-- where the first unknown key is reported, it is the one that is reported
pub unknown_key-found : (o : Option WorkloadCause) (found : Option (List ℕ)) (key : List ℕ)
    → option_map unknown_key o ≡ option_map (λ k. Some k) found → found ≡ Some key
    → option_and_then unknown_key o ≡ Some key
unknown_key-found o found key h f = cases o (h ∙ ap (λ (x : Option (List ℕ)). option_map (λ (k : List ℕ). Some k) x) f)
  where
    cases : (o : Option WorkloadCause) → option_map unknown_key o ≡ Some (Some key) → option_and_then unknown_key o ≡ Some key
    cases None e = cc
    cases (Some why) e = cc
