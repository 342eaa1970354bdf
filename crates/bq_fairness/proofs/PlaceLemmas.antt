-- Where tasks change places, each id stands for the task that it stood for.
use Rattle.std.proofs.Common.{◌≡◌, ℕ, Bool, true, false, cond, eqb, List, [], ◌∷◌, Option, Some, None, refl, ap, sym, ◌∙◌, eqb-true, eq-eqb}
use Rattle.bq_disc.specs.Tasks.{Task, find_task, without, inserted, present, runs_before}
use Rattle.bq_disc.specs.Queues.{HasDistinctIds}
use Rattle.bq_disc.specs.OneProcessor.{Running, present_at, run_id, exchanged}
use Rattle.bq_disc.proofs.QueueLemmas.{find_task-none, find_task-inserted_other, find_task-without, without-absent, find_task-without_same, HasDistinctIds-without}
use Rattle.bq_disc.proofs.SetLemmas.{find_task-id}
use Rattle.bq_cfs.proofs.MoveLemmas.{distinct-exchanged}
use Rattle.bq_cfs.proofs.SpreadStayLemmas.{idle_processor, busy_processor}

-- the first task is the one of its id
pub find_task-own : (t : Task) (xs : List Task) → find_task t.id (t ∷ xs) ≡ Some t
find_task-own t xs = rw (eq-eqb t.id t.id refl) refl

-- a task that enters is found by its id, and by each id what the first would be, whether it is sought or not
find_task-inserted_same : (t : Task) (xs : List Task) → find_task t.id xs ≡ None → find_task t.id (inserted t xs) ≡ Some t
find_task-inserted_same t [] n = find_task-own t []
find_task-inserted_same t (x ∷ xs) n =
    let s = find_task-none t.id x xs n in
    elim (runs_before t x) as (λ b. find_task t.id (cond b (t ∷ x ∷ xs) (x ∷ inserted t xs)) ≡ Some t) [
      | true ↦ find_task-own t (x ∷ xs)
      | false ↦ rw s.0 (find_task-inserted_same t xs s.1)
    ]

placed_by_test : (i : ℕ) (t : Task) (xs : List Task) (b : Bool)
    → eqb t.id i ≡ b → find_task t.id xs ≡ None → find_task i (inserted t xs) ≡ cond b (Some t) (find_task i xs)
placed_by_test i t xs true e n = ap (λ k. find_task k (inserted t xs)) (sym (eqb-true t.id i e)) ∙ find_task-inserted_same t xs n
placed_by_test i t xs false e n = find_task-inserted_other i t xs e

-- a task that enters is found as the first would be
pub find_task-inserted : (i : ℕ) (t : Task) (xs : List Task) → find_task t.id xs ≡ None → find_task i (inserted t xs) ≡ find_task i (t ∷ xs)
find_task-inserted i t xs n = placed_by_test i t xs (eqb t.id i) refl n

-- what another id stands for stays, whether the first task is the one taken out, the one sought or neither
other_by_test : (i j : ℕ) (b c : Bool) (x : Task) (xs ys : List Task)
    → eqb x.id i ≡ b → eqb x.id j ≡ c → eqb i j ≡ false → find_task j ys ≡ find_task j xs
    → find_task j (cond b xs (x ∷ ys)) ≡ cond c (Some x) (find_task j xs)
other_by_test i j true true x xs ys e g ne rest = let same = eq-eqb i j (sym (eqb-true x.id i e) ∙ eqb-true x.id j g) in cc
other_by_test i j true false x xs ys e g ne rest = refl
other_by_test i j false c x xs ys e g ne rest = rw g (ap (λ o. cond c (Some x) o) rest)

-- the others stay where one is taken out
pub find_task-without_other : (i j : ℕ) (xs : List Task) → eqb i j ≡ false → find_task j (without i xs) ≡ find_task j xs
find_task-without_other i j [] ne = refl
find_task-without_other i j (x ∷ xs) ne =
    other_by_test i j (eqb x.id i) (eqb x.id j) x xs (without i xs) refl refl ne (find_task-without_other i j xs ne)

-- a task that is put first is found as before, whether it is sought or not
first_by_test : (i j : ℕ) (q : List Task) (m : Task) (b : Bool)
    → eqb i j ≡ b → find_task i q ≡ Some m → cond b (Some m) (find_task j (without i q)) ≡ find_task j q
first_by_test i j q m true e f = sym (ap (λ k. find_task k q) (sym (eqb-true i j e)) ∙ f)
first_by_test i j q m false e f = find_task-without_other i j q e

-- a task that is taken out and put first is found as before
find_task-first : (i j : ℕ) (q : List Task) (m : Task) → find_task i q ≡ Some m → find_task j (m ∷ without i q) ≡ find_task j q
find_task-first i j q m f =
    ap (λ k. cond (eqb k j) (Some m) (find_task j (without i q))) (find_task-id i q m f) ∙ first_by_test i j q m (eqb i j) refl f

-- Nothing runs, and a task of the queue starts

-- where a task of the queue starts, if there is one, each id stands for the same task, and ids stay distinct
started_by : (i j : ℕ) (q : List Task) (o : Option Task) → find_task i q ≡ o → find_task j (present o (without i q)) ≡ find_task j q
started_by i j q None e = ap (find_task j) (without-absent i q e)
started_by i j q (Some m) e = find_task-first i j q m e

distinct_by : (i : ℕ) (q : List Task) (o : Option Task) → find_task i q ≡ o → HasDistinctIds q → HasDistinctIds (present o (without i q))
distinct_by i q None e d = HasDistinctIds-without i q d
distinct_by i q (Some m) e d =
    (ap (λ k. find_task k (without i q)) (find_task-id i q m e) ∙ find_task-without_same i q d, HasDistinctIds-without i q d)

-- each id stands for the same task once a task of the queue has started
pub same_started : (q : List Task) (mark last : ℕ) (i : Option ℕ) (j : ℕ)
    → find_task j (present_at (run_id (idle_processor q mark last) i)) ≡ find_task j q
same_started q mark last None j = refl
same_started q mark last (Some i) j = started_by i j q (find_task i q) refl

-- ids stay distinct when a task of the queue starts
pub distinct_started : (q : List Task) (mark last : ℕ) (i : Option ℕ)
    → HasDistinctIds q → HasDistinctIds (present_at (run_id (idle_processor q mark last) i))
distinct_started q mark last None d = d
distinct_started q mark last (Some i) d = distinct_by i q (find_task i q) refl d

-- when a task of the queue starts, the clock stands as it did
pub last_started : (q : List Task) (mark last : ℕ) (i : Option ℕ) → (run_id (idle_processor q mark last) i).last ≡ last
last_started q mark last None = refl
last_started q mark last (Some i) = refl

-- The current task and one of the queue change places

-- of two that are sought first, where not both are the one that is sought, either may stand first
pub either_order : (b c : Bool) (m u : Task) (o : Option Task)
    → (b ≡ true → c ≡ true → ⊥) → cond b (Some m) (cond c (Some u) o) ≡ cond c (Some u) (cond b (Some m) o)
either_order true true m u o apart = absurd (apart refl refl)
either_order true false m u o apart = refl
either_order false c m u o apart = refl

-- where a task and one of the queue change places, each id stands for the same task
changed_places : (j : ℕ) (u m : Task) (q : List Task) → find_task m.id q ≡ Some m → find_task u.id q ≡ None
    → find_task j (m ∷ inserted u (without m.id q)) ≡ find_task j (u ∷ q)
changed_places j u m q f n =
    let rest = without m.id q in
    let apart : eqb m.id j ≡ true → eqb u.id j ≡ true → ⊥ =
    λ a b. let same = eqb-true m.id j a ∙ sym (eqb-true u.id j b) in let there = ap (λ k. find_task k q) same in cc
    in
    ap (λ o. cond (eqb m.id j) (Some m) o) (find_task-inserted j u rest (find_task-without u.id m.id q n))
    ∙ either_order (eqb m.id j) (eqb u.id j) m u (find_task j rest) apart
    ∙ ap (λ o. cond (eqb u.id j) (Some u) o) (find_task-first m.id j q m f)

-- a task that is found by some id is found by its own
own_id : (i : ℕ) (q : List Task) (m : Task) → find_task i q ≡ Some m → find_task m.id q ≡ Some m
own_id i q m e = ap (λ k. find_task k q) (find_task-id i q m e) ∙ e

-- each id stands for the same task once the current one and one of the queue have changed places
pub same_exchanged : (q : List Task) (mark last i j : ℕ) (u : Task) (o : Option Task)
    → find_task i q ≡ o → find_task u.id q ≡ None
    → find_task j (present_at (exchanged (busy_processor q mark u last) u o)) ≡ find_task j (u ∷ q)
same_exchanged q mark last i j u None e n = refl
same_exchanged q mark last i j u (Some m) e n = changed_places j u m q (own_id i q m e) n

-- ids stay distinct when the current task and one of the queue change places
pub distinct_exchanged : (q : List Task) (mark last i : ℕ) (u : Task) (o : Option Task)
    → find_task i q ≡ o → HasDistinctIds (u ∷ q)
    → HasDistinctIds (present_at (exchanged (busy_processor q mark u last) u o))
distinct_exchanged q mark last i u None e d = d
distinct_exchanged q mark last i u (Some m) e d = distinct-exchanged u m q (own_id i q m e) d

-- when the current task and one of the queue change places, the clock stands as it did
pub last_exchanged : (q : List Task) (mark last : ℕ) (u : Task) (o : Option Task)
    → (exchanged (busy_processor q mark u last) u o).last ≡ last
last_exchanged q mark last u None = refl
last_exchanged q mark last u (Some m) = refl

-- the task that runs is the one of its id
pub current_present : (q : List Task) (mark : ℕ) (o : Option Task) (last : ℕ) (m : Task)
    → (let p : Running = record { queue = q; mark = mark; current = o; last = last } in o ≡ Some m → find_task m.id (present_at p) ≡ Some m)
current_present q mark None last m e = cc
current_present q mark (Some c) last m e = let same : c ≡ m = cc in ap (λ (x : Task). find_task x.id (c ∷ q)) (sym same) ∙ find_task-own c q ∙ e
