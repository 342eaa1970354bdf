-- The movable tasks that are shown are found again by their ids.
use Rattle.std.proofs.Common.{◌≡◌, ℕ, zero, suc, ◌<◌, Bool, true, false, cond, List, [], ◌∷◌, ◌++◌, Some, refl, sym, subst, take, filter, reverse, length, min, arith}
use Rattle.std.proofs.lemmas.List.{reverse-append, length-take, length-map}
use Rattle.std.specs.Prelude.{Contains, slice_get, option_and_then}
use Rattle.std.specs.List.{AllByRecursion}
use Rattle.bq_disc.specs.Tasks.{Task, find_task}
use Rattle.bq_disc.specs.Queues.{HasDistinctIds, can_use}
use Rattle.bq_disc.specs.Movable.{movable_to, ids}
use Rattle.bq_disc.specs.Orders.{Contains-first, Contains-later}
use Rattle.bq_disc.proofs.SetLemmas.{find_task-Contains}

-- each of some tasks is the one of its id in a queue
abbrev AreFound : List Task → List Task → Type 0
AreFound queue xs = AllByRecursion (λ (t : Task). find_task t.id queue ≡ Some t) xs

-- tasks of a queue with distinct ids are found there
found_if : (queue xs : List Task) → HasDistinctIds queue → ((t : Task) → Contains xs t → Contains queue t) → AreFound queue xs
found_if queue [] d h = tt
found_if queue (x ∷ xs) d h =
    let here = h x (Contains-first x xs) in
    (find_task-Contains queue x here.0 d here.1 here.2, found_if queue xs d (λ t k. h t (Contains-later x t xs k)))

-- lists of found tasks stay so when joined, filtered, and reversed:
both_found : (queue xs ys : List Task) → AreFound queue xs → AreFound queue ys → AreFound queue (xs ++ ys)
both_found queue [] ys h k = k
both_found queue (x ∷ xs) ys h k = (h.0, both_found queue xs ys h.1 k)

kept_by_test : (b : Bool) (queue : List Task) (x : Task) (xs : List Task)
    → find_task x.id queue ≡ Some x → AreFound queue xs → AreFound queue (cond b (x ∷ xs) xs)
kept_by_test true queue x xs h k = (h, k)
kept_by_test false queue x xs h k = k

filter_found : (queue : List Task) (p : Task → Bool) (xs : List Task) → AreFound queue xs → AreFound queue (filter p xs)
filter_found queue p [] h = tt
filter_found queue p (x ∷ xs) h = kept_by_test (p x) queue x (filter p xs) h.0 (filter_found queue p xs h.1)

reverse_found : (queue xs : List Task) → AreFound queue xs → AreFound queue (reverse xs)
reverse_found queue [] h = tt
reverse_found queue (x ∷ xs) h =
    subst (AreFound queue) (sym (reverse-append (x ∷ []) xs))
    (both_found queue (reverse xs) (x ∷ []) (reverse_found queue xs h.1) (h.0, tt))

-- the movable tasks are found
pub movable_found : (processor : ℕ) (queue : List Task) → HasDistinctIds queue → AreFound queue (movable_to processor queue)
movable_found processor queue d =
    reverse_found queue (filter (can_use processor) queue)
    (filter_found queue (can_use processor) queue (found_if queue queue d (λ t h. h)))

-- each movable task that is shown is found
pub shown_at : (queue xs : List Task) (n k : ℕ) → AreFound queue xs → k < n
    → option_and_then (λ id. find_task id queue) (slice_get (take n (ids xs)) k) ≡ slice_get xs k
shown_at queue xs zero k h l = absurd (omega arith)
shown_at queue [] (suc n) k h l = refl
shown_at queue (x ∷ xs) (suc n) zero h l = h.0
shown_at queue (x ∷ xs) (suc n) (suc k) h l = shown_at queue xs n k h.1 (omega arith)

-- as many ids are shown as there are tasks, but eight at most
pub length-shown : (xs : List Task) → length (take 8 (ids xs)) ≡ min (length xs) 8
length-shown xs = omega (arith, length-take 8 (ids xs), length-map xs (λ (t : Task). t.id))
