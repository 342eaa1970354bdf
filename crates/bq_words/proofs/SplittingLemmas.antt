-- Words cut at their commas.
use Rattle.std.proofs.Common.{◌≡◌, ℕ, ◌<◌, ◌≤◌, ◌+◌, Bool, true, false, not, cond, List, [], ◌∷◌, length, take, drop, Some, None, nat_lt, refl, ap, subst, arith}
use Rattle.std.proofs.lemmas.Bool.Decides.{nat_tests}
use Rattle.std.proofs.lemmas.List.Splits.{slice_split_first}
use Rattle.std.specs.List.{position, position_or_len, slice_split, onto_first}
use Rattle.bq_words.specs.ProcessorSets.{is_comma}

-- where there is no comma, the word is the one part
split_none : (xs : List ℕ) → length xs ≤ position_or_len is_comma xs → slice_split is_comma xs ≡ xs ∷ []
split_none [] h = refl
split_none (x ∷ xs) h = by (is_comma x) (split_none xs) h
  where
    by : (b : Bool) → (length xs ≤ position_or_len is_comma xs → slice_split is_comma xs ≡ xs ∷ [])
        → length (x ∷ xs) ≤ cond (not b) (1 + position_or_len is_comma xs) 0
        → cond b ([] ∷ slice_split is_comma xs) (onto_first x (slice_split is_comma xs)) ≡ (x ∷ xs) ∷ []
    by true ih k = absurd (omega arith)
    by false ih k = ap (onto_first x) (ih (omega arith))

-- a word without a comma is its only part
pub split_nowhere : (xs : List ℕ) → None ≡ position is_comma xs → slice_split is_comma xs ≡ xs ∷ []
split_nowhere xs e = split_none xs (long (nat_lt (position_or_len is_comma xs) (length xs)) refl e)
  where
    long : (b : Bool) → nat_lt (position_or_len is_comma xs) (length xs) ≡ b
        → None ≡ cond b (Some (position_or_len is_comma xs)) None
        → length xs ≤ position_or_len is_comma xs
    long true t e = cc
    long false t e = grind (arith, nat_tests)

-- the first part ends at the first comma
pub split_here : (xs : List ℕ) (i : ℕ) → Some i ≡ position is_comma xs
    → slice_split is_comma xs ≡ take i xs ∷ slice_split is_comma (drop (i + 1) xs)
split_here xs i e = by (nat_lt (position_or_len is_comma xs) (length xs)) refl e
  where
    by : (b : Bool) → nat_lt (position_or_len is_comma xs) (length xs) ≡ b
        → Some i ≡ cond b (Some (position_or_len is_comma xs)) None
        → slice_split is_comma xs ≡ take i xs ∷ slice_split is_comma (drop (i + 1) xs)
    by true t e =
        let same : position_or_len is_comma xs ≡ i = cc in
        let below : position_or_len is_comma xs < length xs = grind (arith, nat_tests) in
        subst (λ n. slice_split is_comma xs ≡ take n xs ∷ slice_split is_comma (drop (n + 1) xs)) same
        (slice_split_first is_comma xs 0 below)
    by false t e = cc
