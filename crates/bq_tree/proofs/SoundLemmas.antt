-- The table of times knows the v of each task, so what is found or taken at (v, id) is the task of that id.
use Rattle.std.proofs.Common.{◌≡◌, ℕ, ◌<◌, Bool, true, false, cond, eqb, List, [], ◌∷◌, ◌++◌, Option, Some, None, IfSome, refl, ap, sym, ◌∙◌, slice_index, arith}
use Rattle.std.proofs.lemmas.Bool.Decides.{nat_tests}
use Rattle.bq_disc.specs.Tasks.{Task, has_id, find_task, without, inserted, runs_before}
use Rattle.bq_disc.specs.Queues.{HasDistinctIds}
use Rattle.bq_disc.proofs.QueueLemmas.{without-absent, find_task-none}
use Rattle.bq_tree.specs.Taking.{is_task_at, IsAbsent, TakesOut, FindsTask}
use Rattle.bq_tree.specs.Sound.{Knows}

-- a table that has the v of some tasks and of one more has them all once that one is in its place
pub Knows-inserted : (times : List ℕ) (t : Task) (xs : List Task)
    → (t.id < 1024 → slice_index times t.id ≡ t.v) → Knows times xs → Knows times (inserted t xs)
Knows-inserted times t [] h k = (h, tt)
Knows-inserted times t (x ∷ xs) h k =
    elim (runs_before t x) as (λ b. Knows times (cond b (t ∷ x ∷ xs) (x ∷ inserted t xs))) [
      | true ↦ (h, k)
      | false ↦ (k.0, Knows-inserted times t xs h k.1)
    ]

-- a table that has the v of some tasks has those of all but one of them
pub Knows-drop : (times : List ℕ) (xs : List Task) (t : Task) (ys : List Task) → Knows times (xs ++ t ∷ ys) → Knows times (xs ++ ys)
Knows-drop times [] t ys k = k.1
Knows-drop times (x ∷ xs) t ys k = (k.0, Knows-drop times xs t ys k.1)

-- where the table changes at an id that no task has, it still has the others
pub Knows-other : (old new : List ℕ) (id : ℕ) (xs : List Task)
    → ((k : ℕ) → eqb k id ≡ false → slice_index new k ≡ slice_index old k) → find_task id xs ≡ None → Knows old xs
    → Knows new xs
Knows-other old new id [] same n k = tt
Knows-other old new id (x ∷ xs) same n k =
    let s = find_task-none id x xs n in
    ((λ l. same x.id s.0 ∙ k.0 l), Knows-other old new id xs same s.1 k.1)

-- a task found by its id has the v that the table has, whether it is the first or a later one
time_by_test : (b : Bool) (times : List ℕ) (id : ℕ) (x : Task) (o : Option Task)
    → has_id id x ≡ b → id < 1024 → (x.id < 1024 → slice_index times x.id ≡ x.v) → IfSome o (λ t. t.v ≡ slice_index times id)
    → IfSome (cond b (Some x) o) (λ t. t.v ≡ slice_index times id)
time_by_test true times id x o e l k rest =
    let same : x.id ≡ id = grind (arith, nat_tests) in
    let known = k (omega arith) in
    sym known ∙ ap (λ i. slice_index times i) same
time_by_test false times id x o e l k rest = rest

-- the table has the v of the task of that id
pub time_known : (times : List ℕ) (id : ℕ) (xs : List Task) → id < 1024 → Knows times xs
    → IfSome (find_task id xs) (λ t. t.v ≡ slice_index times id)
time_known times id [] l k = tt
time_known times id (x ∷ xs) l k = time_by_test (has_id id x) times id x (find_task id xs) refl l k.0 (time_known times id xs l k.1)

-- a task found in the rest is found in the whole, because the first one's id is another
id_by_test : (b : Bool) (x t : Task) (rest without_rest : List Task) (o : Option Task)
    → has_id t.id x ≡ b → (o ≡ Some t) → find_task x.id rest ≡ None → (b ≡ true → find_task x.id rest ≡ find_task t.id rest)
    → find_task t.id rest ≡ o
    → cond b (Some x) o ≡ Some t
id_by_test true x t rest wr o e h n same f = let g = same refl in cc
id_by_test false x t rest wr o e h n same f = h

-- a task that passes the test for another's id has the same id, and each task passes it for its own
same_id : (x t : Task) → has_id t.id x ≡ true → x.id ≡ t.id
same_id x t e = grind (arith, nat_tests)

itself : (t : Task) → has_id t.id t ≡ true
itself t = grind (arith, nat_tests)

-- in a list with distinct ids a task that stands there is the one of its id
pub find_task-amid : (xs : List Task) (t : Task) (ys : List Task) → HasDistinctIds (xs ++ t ∷ ys) → find_task t.id (xs ++ t ∷ ys) ≡ Some t
find_task-amid [] t ys d = let e = itself t in rw e refl
find_task-amid (x ∷ xs) t ys d =
    let rest = find_task-amid xs t ys d.1 in
    id_by_test (has_id t.id x) x t (xs ++ t ∷ ys) [] (find_task t.id (xs ++ t ∷ ys)) refl rest d.0
    (λ b. ap (λ i. find_task i (xs ++ t ∷ ys)) (same_id x t b)) refl

-- to take out a task of the rest leaves the first one, whose id is another
out_by_test : (b : Bool) (x t : Task) (rest less : List Task)
    → has_id t.id x ≡ b → find_task x.id rest ≡ None → find_task t.id rest ≡ Some t
    → cond b rest (x ∷ less) ≡ x ∷ less
out_by_test true x t rest less e n s = let same = ap (λ i. find_task i rest) (same_id x t e) in cc
out_by_test false x t rest less e n s = refl

-- in a list with distinct ids, the tasks without the id of one are those in front of it and those behind it
pub without-amid : (xs : List Task) (t : Task) (ys : List Task) → HasDistinctIds (xs ++ t ∷ ys) → without t.id (xs ++ t ∷ ys) ≡ xs ++ ys
without-amid [] t ys d = let e = itself t in rw e refl
without-amid (x ∷ xs) t ys d =
    out_by_test (has_id t.id x) x t (xs ++ t ∷ ys) (without t.id (xs ++ t ∷ ys)) refl d.0 (find_task-amid xs t ys d.1)
    ∙ ap (λ l. x ∷ l) (without-amid xs t ys d.1)

-- if no task is at (v, id) and one of that id would have v, none has that id, whether the first or a later one
absent_by_test : (b : Bool) (v id : ℕ) (x : Task) (o : Option Task)
    → has_id id x ≡ b → is_task_at v id x ≡ false → IfSome (cond b (Some x) o) (λ t. t.v ≡ v)
    → (IfSome o (λ t. t.v ≡ v) → o ≡ None)
    → cond b (Some x) o ≡ None
absent_by_test true v id x o e a h rest =
    let same : x.id ≡ id = grind (arith, nat_tests) in
    absurd (grind (arith, nat_tests))
absent_by_test false v id x o e a h rest = rest h

-- no task is at (v, id), where v is that of the task of that id, if there is one: so no task is there
pub none_of_id : (v id : ℕ) (xs : List Task) → IsAbsent v id xs → IfSome (find_task id xs) (λ t. t.v ≡ v) → find_task id xs ≡ None
none_of_id v id [] a h = refl
none_of_id v id (x ∷ xs) a h = absent_by_test (has_id id x) v id x (find_task id xs) refl a.0 h (none_of_id v id xs a.1)

-- what is taken at (v, id) is the task of that id
pub Takes-id : (v id : ℕ) (all : List Task) (o : Option Task) (rest : List Task)
    → HasDistinctIds all → IfSome (find_task id all) (λ t. t.v ≡ v) → TakesOut v id all o rest
    → (o ≡ find_task id all) × (rest ≡ without id all)
Takes-id v id all None rest d h t =
    let none = none_of_id v id all t.0 h in
    (sym none, t.1 ∙ sym (without-absent id all none))
Takes-id v id all (Some x) rest d h t =
    let apart = rw t.4 at d in
    let a = ap (λ i. find_task i all) t.3 in
    let b = ap (λ i. without i all) t.3 in (
      sym (sym a ∙ ap (λ l. find_task x.id l) t.4 ∙ find_task-amid t.0 x t.1 apart),
      t.5 ∙ sym (without-amid t.0 x t.1 apart) ∙ sym (ap (λ l. without x.id l) t.4) ∙ b,
    )

-- what is found at (v, id) is the task of that id
pub Finds-id : (v id : ℕ) (all : List Task) (o : Option Task)
    → HasDistinctIds all → IfSome (find_task id all) (λ t. t.v ≡ v) → FindsTask v id all o → o ≡ find_task id all
Finds-id v id all None d h t = sym (none_of_id v id all t h)
Finds-id v id all (Some x) d h t =
    let apart = rw t.4 at d in
    sym (sym (ap (λ i. find_task i all) t.3) ∙ ap (λ l. find_task x.id l) t.4 ∙ find_task-amid t.0 x t.1 apart)
