-- What the form says of a choice is so: which task is eligible, that the lower id wins, and whether a pull takes a task.
use Rattle.std.proofs.Common.{◌≡◌, ℕ, ◌+◌, ◌*◌, ◌/◌, ◌≤◌, ◌<◌, Bool, true, false, cond, List, [], ◌∷◌, length, filter, Some, None, refl, nat_le, arith}
use Rattle.std.specs.Prelude.{Contains, IfSome, is_some, find, ◌==◌, if◌then◌else◌}
use Rattle.std.proofs.lemmas.Bool.Decides.{nat_tests}
use Rattle.std.proofs.lemmas.List.{length-reverse}
use Rattle.std.proofs.lemmas.Nat.{le-div, div-add-mod'}
use Rattle.std.proofs.Math.Nat.{mul-le-mul_left}
use Rattle.bq_words.specs.declared.discipline_name.DisciplineName.TheVariants.{Cfs, Eevdf}
use Rattle.bq_disc.specs.Tasks.{Task, first_by, runs_before}
use Rattle.bq_disc.specs.Dues.{due_before}
use Rattle.bq_disc.specs.Queues.{can_use}
use Rattle.bq_disc.specs.Orders.{Contains-first, Contains-later}
use Rattle.bq_disc.specs.Pulls.{pulled_before, movable}
use Rattle.bq_disc.specs.Totals.{total_weight, weighted_sum, is_at_most_mean}
use Rattle.bq_disc.proofs.SetLemmas.{IfSome-weaker}
use Rattle.bq_cfs.specs.Cfs.{cfs}
use Rattle.bq_cfs.proofs.LeastLemmas.{choice_is_least}
use Rattle.bq_eevdf.specs.Eevdf.{eevdf, is_eligible}
use Rattle.bq_eevdf.proofs.EarliestLemmas.{choice_is_earliest}
use Rattle.bq_why.specs.Laws.{EligibleUpToTheMean, LowerIdWins, NamesThePull, is_taken}
use Rattle.bq_why.specs.Rivals.{is_tied, tied_with}
use Rattle.bq_why.specs.declared.pull_facts.OwnPull.TheVariants.{TooFew, NoneMayGo, Greatest}

-- a product is at most a sum exactly where a factor is at most the quotient
quotient_tests : (w v s : ℕ) → 0 < w → nat_le (w * v) s ≡ nat_le v (s / w)
quotient_tests w v s l =
    let whole = div-add-mod' s w in
    let up : w * v ≤ s → v ≤ s / w = λ h. le-div v s w l (omega (arith, h)) in
    let down : v ≤ s / w → w * v ≤ s = λ h. (let k = mul-le-mul_left w h in omega (arith, k, whole)) in
    grind (arith, nat_tests, up, down)

-- a task is eligible exactly where its v is at most the mean
pub eligible_up_to_the_mean : EligibleUpToTheMean
eligible_up_to_the_mean [] t mean l e = cc
eligible_up_to_the_mean (x ∷ xs) t mean l e =
    let q = quotient_tests (total_weight (x ∷ xs)) t.v (weighted_sum (x ∷ xs)) l in
    cc

-- what is found with one more task in front is that one, if it meets the test, or what is found of the others
found_by_test : (b : Bool) (p : Task → Bool) (x : Task) (xs : List Task)
    → p x ≡ b → IfSome (find p xs) (λ u. Contains xs u × (p u ≡ true))
    → IfSome (cond b (Some x) (find p xs)) (λ u. Contains (x ∷ xs) u × (p u ≡ true))
found_by_test true p x xs e h = (Contains-first x xs, e)
found_by_test false p x xs e h =
    IfSome-weaker (find p xs) (λ u. Contains xs u × (p u ≡ true)) (λ u. Contains (x ∷ xs) u × (p u ≡ true))
    (λ u k. (Contains-later x u xs k.0, k.1)) h

-- what a search finds is one of the tasks, and meets the test
find_found : (p : Task → Bool) (xs : List Task) → IfSome (find p xs) (λ u. Contains xs u × (p u ≡ true))
find_found p [] = tt
find_found p (x ∷ xs) = found_by_test (p x) p x xs refl (find_found p xs)

-- of two tasks that only the id tells apart, the one that does not go first has the greater id, under either discipline:
lower_under_cfs : (w s : ℕ) (t u : Task) → is_tied Cfs w s t u ≡ true → runs_before u t ≡ false → t.id < u.id
lower_under_cfs w s t u h k = grind (arith, nat_tests)

lower_under_eevdf : (w s : ℕ) (t u : Task) → is_tied Eevdf w s t u ≡ true → due_before u t ≡ false → t.id < u.id
lower_under_eevdf w s t u h k = grind (arith, nat_tests)

-- under EEVDF a task that only the id tells apart from another is eligible
tied_is_eligible : (w s : ℕ) (t u : Task) → is_tied Eevdf w s t u ≡ true → is_at_most_mean w s u ≡ true
tied_is_eligible w s t u h = grind (arith, nat_tests)

-- the choice has a lower id than a task that only the id tells apart from it
pub lower_id_wins : LowerIdWins
lower_id_wins Cfs xs =
    let w = total_weight xs in
    let s = weighted_sum xs in
    IfSome-weaker (cfs.choice xs) (λ t. Contains xs t × ((u : Task) → Contains xs u → runs_before u t ≡ false))
    (λ t. IfSome (tied_with Cfs t xs) (λ u. t.id < u.id))
    (λ t h. IfSome-weaker (find (is_tied Cfs w s t) xs) (λ u. Contains xs u × (is_tied Cfs w s t u ≡ true)) (λ u. t.id < u.id)
    (λ u k. lower_under_cfs w s t u k.1 (h.1 u k.0)) (find_found (is_tied Cfs w s t) xs)) (choice_is_least xs)
lower_id_wins Eevdf xs =
    let w = total_weight xs in
    let s = weighted_sum xs in
    IfSome-weaker (eevdf.choice xs)
    (λ t. Contains xs t × (is_eligible xs t ≡ true) × ((u : Task) → Contains xs u → is_eligible xs u ≡ true → due_before u t ≡ false))
    (λ t. IfSome (tied_with Eevdf t xs) (λ u. t.id < u.id))
    (λ t h. IfSome-weaker (find (is_tied Eevdf w s t) xs) (λ u. Contains xs u × (is_tied Eevdf w s t u ≡ true)) (λ u. t.id < u.id)
    (λ u k. lower_under_eevdf w s t u k.1 (h.2 u k.0 (tied_is_eligible w s t u k.1))) (find_found (is_tied Eevdf w s t) xs))
    (choice_is_earliest xs)

-- a task is taken where the sizes allow it and one may go
taken_where_some : (b : Bool) (xs : List Task) (n : ℕ) → n ≡ length xs
    → is_taken (if b then (if n == 0 then NoneMayGo else Greatest) else TooFew) ≡ is_some (if b then first_by pulled_before xs else None)
taken_where_some false xs n e = refl
taken_where_some true [] n e = rw e refl
taken_where_some true (x ∷ xs) n e = let some : (n == 0) ≡ false = grind (arith, nat_tests) in rw some refl

-- the discipline takes a task exactly where that is said
pub names_the_pull : NamesThePull
names_the_pull puller size other queue =
    taken_where_some (nat_le (size + 2) other) (movable puller queue) _ (length-reverse (filter (can_use puller) queue))
