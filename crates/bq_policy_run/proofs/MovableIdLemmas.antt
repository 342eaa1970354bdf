-- The ids of the tasks of a queue that may go to a processor.
use Rattle.std.proofs.Common.{◌≡◌, ℕ, ◌<◌, ◌^◌, List, [], ◌∷◌, ◌++◌, Bool, true, false, cond, filter, reverse, Some, None, refl, sym, ap, ◌∙◌, subst, eqb}
use Rattle.std.specs.Prelude.{◌==◌, ◌||◌}
use Rattle.std.specs.List.{AllByRecursion, list_any}
use Rattle.std.specs.Option.{option_map_or}
use Rattle.std.proofs.lemmas.Bool.{eqb-true}
use Rattle.std.proofs.lemmas.List.{reverse-append, map-append}
use Rattle.std.proofs.lemmas.List.Folds.{list_any-append}
use Rattle.bq_disc.specs.Tasks.{Task, find_task}
use Rattle.bq_disc.specs.Queues.{HasDistinctIds, HasSmallIds, can_use}
use Rattle.bq_disc.specs.Movable.{movable_to, ids, is_movable_to}

-- the order of two tests does not matter, and a second test that fails changes nothing, by cases:
or_comm : (a b : Bool) → (a || b) ≡ (b || a)
or_comm true true = refl
or_comm true false = refl
or_comm false true = refl
or_comm false false = refl

or_false : (a : Bool) → (a || false) ≡ a
or_false true = refl
or_false false = refl

-- whether a task's id is the one that an answer names
abbrev names : ℕ → ℕ → Bool
names r0 id = id == r0

-- in whatever order
any_reverse : (r0 : ℕ) (xs : List Task) → list_any (names r0) (ids (reverse xs)) ≡ list_any (names r0) (ids xs)
any_reverse r0 [] = refl
any_reverse r0 (x ∷ xs) =
    ap (λ l. list_any (names r0) (ids l)) (reverse-append (x ∷ []) xs)
    ∙ ap (list_any (names r0)) (map-append (λ (t : Task). t.id) (reverse xs) (x ∷ []))
    ∙ list_any-append (names r0) (ids (reverse xs)) (x.id ∷ [])
    ∙ (λ i. any_reverse r0 xs i || or_false (names r0 x.id) i)
    ∙ or_comm (list_any (names r0) (ids xs)) (names r0 x.id)

-- an id is that of a task that may go, exactly if the task of that id may
any_kept : (processor r0 : ℕ) (queue : List Task) → HasDistinctIds queue
    → list_any (names r0) (ids (filter (can_use processor) queue)) ≡ is_movable_to processor r0 queue
any_kept processor r0 [] d = refl
any_kept processor r0 (x ∷ xs) d = go (eqb x.id r0) (can_use processor x) refl refl (any_kept processor r0 xs d.1)
  where
    go : (b c : Bool) → eqb x.id r0 ≡ b → can_use processor x ≡ c
        → list_any (names r0) (ids (filter (can_use processor) xs)) ≡ is_movable_to processor r0 xs
        → list_any (names r0) (ids (cond c (x ∷ filter (can_use processor) xs) (filter (can_use processor) xs)))
        ≡ option_map_or (can_use processor) (cond b (Some x) (find_task r0 xs)) false
    go true true e k rest = rw (e, k) refl
    go true false e k rest =
        let none : find_task r0 xs ≡ None = subst (λ n. find_task n xs ≡ None) (eqb-true x.id r0 e) d.0 in
        rest ∙ ap (λ o. option_map_or (can_use processor) o false) none ∙ sym k
    go false true e k rest = rw e rest
    go false false e k rest = rest

-- an id is among those of the tasks that may go to a processor exactly when the task of that id may go there
pub any_movable : (processor r0 : ℕ) (queue : List Task) → HasDistinctIds queue
    → list_any (names r0) (ids (movable_to processor queue)) ≡ is_movable_to processor r0 queue
any_movable processor r0 queue d = any_reverse r0 (filter (can_use processor) queue) ∙ any_kept processor r0 queue d

-- the ids of the tasks fit 16 bits
abbrev pub AreSmall : List Task → Type 0
AreSmall xs = AllByRecursion (λ (t : Task). t.id < 2 ^ 16) xs

-- the ids still fit 16 bits where tasks are left out, joined or turned round, by cases:
small_filter : (p : Task → Bool) (xs : List Task) → HasSmallIds xs → AreSmall (filter p xs)
small_filter p [] h = tt
small_filter p (x ∷ xs) h = go (p x) (small_filter p xs h.1)
  where
    go : (b : Bool) → AreSmall (filter p xs) → AreSmall (cond b (x ∷ filter p xs) (filter p xs))
    go true k = (h.0, k)
    go false k = k

both_small : (xs ys : List Task) → AreSmall xs → AreSmall ys → AreSmall (xs ++ ys)
both_small [] ys h k = k
both_small (x ∷ xs) ys h k = (h.0, both_small xs ys h.1 k)

small_reverse : (xs : List Task) → AreSmall xs → AreSmall (reverse xs)
small_reverse [] h = tt
small_reverse (x ∷ xs) h =
    subst AreSmall (sym (reverse-append (x ∷ []) xs)) (both_small (reverse xs) (x ∷ []) (small_reverse xs h.1) (h.0, tt))

-- the ids of the movable tasks fit 16 bits too
pub movable_small : (processor : ℕ) (queue : List Task) → HasSmallIds queue → AreSmall (movable_to processor queue)
movable_small processor queue h = small_reverse (filter (can_use processor) queue) (small_filter (can_use processor) queue h)
