-- The task of least v is at most the mean of all, so at least one task is at most the mean.
use Rattle.std.proofs.Common.{◌≡◌, ◌≢◌, ℕ, ◌*◌, ◌≤◌, ◌<◌, Bool, true, false, cond, List, [], ◌∷◌, filter, refl, nat_le, arith, zero, suc, length, slice_index_or, ap, ◌∙◌}
use Rattle.std.specs.Prelude.{Contains}
use Rattle.std.proofs.Math.Nat.{mul-le-mul_left}
use Rattle.std.proofs.lemmas.Bool.Decides.{nat_tests}
use Rattle.bq_disc.specs.Tasks.{Task}
use Rattle.bq_disc.specs.Orders.{Contains-first, Contains-later}
use Rattle.bq_disc.specs.Totals.{total_weight, weighted_sum, is_at_most_mean, NoneBelow}

-- a v that is least is at most the weighted average
least_under_average : (m : ℕ) (xs : List Task) → NoneBelow m xs → total_weight xs * m ≤ weighted_sum xs
least_under_average m [] h = omega arith
least_under_average m (t ∷ xs) h =
    let here = mul-le-mul_left t.weight h.0 in
    omega (arith, here, least_under_average m xs h.1)

-- the member of least v is at most the mean
pub least_at_most_mean : (xs : List Task) (t : Task) → NoneBelow t.v xs → is_at_most_mean (total_weight xs) (weighted_sum xs) t ≡ true
least_at_most_mean xs t h = let le = least_under_average t.v xs h in grind (arith, nat_tests)

-- if no task's v is below n, none is below a lesser m
weaker : (m n : ℕ) (xs : List Task) → m ≤ n → NoneBelow n xs → NoneBelow m xs
weaker m n [] l h = tt
weaker m n (t ∷ xs) l h = (omega (arith, h.0), weaker m n xs l h.1)

-- some task of the list has the least v
abbrev HasLeast : List Task → Type 0
HasLeast xs = (t : Task) × Contains xs t × NoneBelow t.v xs

-- of the task of least v of a list and one more task, that of the lesser v has the least v of all
of_two : (x : Task) (ys : List Task) (t : Task) → Contains ys t → NoneBelow t.v ys → (b : Bool) → nat_le x.v t.v ≡ b → HasLeast (x ∷ ys)
of_two x ys t c l true e =
    let le : x.v ≤ t.v = grind (arith, nat_tests) in
    (x, Contains-first x ys, (omega arith, weaker x.v t.v ys le l))
of_two x ys t c l false e =
    let le : t.v ≤ x.v = grind (arith, nat_tests) in
    (t, Contains-later x t ys c, (le, l))

-- in a list that is not empty, some task has the least v
has_least : (x : Task) (xs : List Task) → HasLeast (x ∷ xs)
has_least x [] = (x, Contains-first x [], (omega arith, tt))
has_least x (y ∷ xs) =
    let rest = has_least y xs in
    of_two x (y ∷ xs) rest.0 rest.1 rest.2 (nat_le x.v rest.0.v) refl

-- if a task is kept, or some of the rest are, the list of those kept is not empty
kept_by_test : (b : Bool) (x : Task) (ys : List Task) → (b ≡ false → ys ≢ []) → cond b (x ∷ ys) ys ≢ []
kept_by_test true x ys h = λ e. cc
kept_by_test false x ys h = h refl

-- if a task of the list passes the test, the list of those that pass is not empty
kept_by_filter : (p : Task → Bool) (xs : List Task) (t : Task) (k : ℕ)
    → k < length xs → slice_index_or xs k t ≡ t → p t ≡ true → filter p xs ≢ []
kept_by_filter p [] t k l e pt = λ f. absurd (omega (arith, l))
kept_by_filter p (x ∷ xs) t zero l e pt = kept_by_test (p x) x (filter p xs) (λ f. let g : p x ≡ true = ap p e ∙ pt in cc)
kept_by_filter p (x ∷ xs) t (suc k) l e pt = kept_by_test (p x) x (filter p xs) (λ f. kept_by_filter p xs t k (omega (arith, l)) e pt)

-- of some tasks one at least is at most their mean
pub someone_at_most_mean : (xs : List Task) → xs ≢ [] → filter (is_at_most_mean (total_weight xs) (weighted_sum xs)) xs ≢ []
someone_at_most_mean [] h = h
someone_at_most_mean (x ∷ xs) h =
    let l = has_least x xs in
    kept_by_filter (is_at_most_mean (total_weight (x ∷ xs)) (weighted_sum (x ∷ xs))) (x ∷ xs) l.0 l.1.0 l.1.1
    l.1.2 (least_at_most_mean (x ∷ xs) l.0 l.2)
