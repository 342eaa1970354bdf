-- Sums over some tasks of a number that only each task's id and mask decide: what they keep while tasks come, go and run.
use Rattle.std.proofs.Common.{◌≡◌, ℕ, ◌+◌, ◌-◌, Bool, true, false, cond, eqb, List, [], ◌∷◌, ◌++◌, Option, Some, None, refl, sym, ap, ◌∙◌, arith}
use Rattle.std.specs.Option.{option_map}
use Rattle.bq_disc.specs.Tasks.{Task, find_task, without, inserted, present, runs_before, id_of}
use Rattle.bq_disc.specs.Discipline.{Discipline, charged, woken, next_of}
use Rattle.bq_disc.specs.OneProcessor.{Running, present_at, reading, charge, run_id, choice_started, exchanged, switched, decided, entered, enter_all}
use Rattle.bq_disc.proofs.QueueLemmas.{without-absent}
use Rattle.bq_disc.proofs.SetLemmas.{find_task-id}

-- what one task counts in a tally
abbrev pub worth : (ℕ → ℕ → ℕ) → Task → ℕ
worth g t = g t.id t.mask

-- what some tasks count together
abbrev pub tally : (ℕ → ℕ → ℕ) → List Task → ℕ
tally g [] = 0
tally g (x ∷ xs) = worth g x + tally g xs

-- two lists count together what each counts
pub tally-append : (g : ℕ → ℕ → ℕ) (xs ys : List Task) → tally g (xs ++ ys) ≡ tally g xs + tally g ys
tally-append g [] ys = omega arith
tally-append g (x ∷ xs) ys = omega (arith, tally-append g xs ys)

-- a task that comes adds one to its count
pub tally-inserted : (g : ℕ → ℕ → ℕ) (t : Task) (xs : List Task) → tally g (inserted t xs) ≡ worth g t + tally g xs
tally-inserted g t [] = refl
tally-inserted g t (x ∷ xs) =
    elim (runs_before t x) as (λ b. tally g (cond b (t ∷ x ∷ xs) (x ∷ inserted t xs)) ≡ worth g t + tally g (x ∷ xs)) [
      | true ↦ refl
      | false ↦ omega (arith, tally-inserted g t xs)
    ]

-- a task that is taken counts beside the rest, whether it is the first or a later one
without_by_test : (b : Bool) (g : ℕ → ℕ → ℕ) (x t : Task) (xs ys : List Task) (o : Option Task)
    → cond b (Some x) o ≡ Some t → (o ≡ Some t → tally g xs ≡ worth g t + tally g ys)
    → tally g (x ∷ xs) ≡ worth g t + tally g (cond b xs (x ∷ ys))
without_by_test true g x t xs ys o h rest =
    let same : x ≡ t = cc in
    rw same refl
without_by_test false g x t xs ys o h rest = omega (arith, rest h)

-- a task that is taken was counted one time more
pub tally-without : (g : ℕ → ℕ → ℕ) (j : ℕ) (xs : List Task) (t : Task)
    → find_task j xs ≡ Some t → tally g xs ≡ worth g t + tally g (without j xs)
tally-without g j [] t h = cc
tally-without g j (x ∷ xs) t h = without_by_test (eqb x.id j) g x t xs (without j xs) (find_task j xs) h (tally-without g j xs t)

-- woken tasks that enter are those that they were
pub tally-entered : (g : ℕ → ℕ → ℕ) (d : Discipline) (mark : ℕ) (queue tasks : List Task)
    → tally g (entered d mark queue tasks) ≡ tally g queue + tally g tasks
tally-entered g d mark queue [] = omega arith
tally-entered g d mark queue (t ∷ tasks) =
    omega (arith, tally-entered g d mark (inserted (woken d mark t) queue) tasks, tally-inserted g (woken d mark t) queue)

-- a queue in place of another changes the sum by their difference
pub tally-present : (g : ℕ → ℕ → ℕ) (o : Option Task) (xs ys : List Task)
    → tally g (present o ys) + tally g xs ≡ tally g (present o xs) + tally g ys
tally-present g None xs ys = omega arith
tally-present g (Some t) xs ys = omega arith

-- a task that has run is the one that it was
pub tally-charge : (g : ℕ → ℕ → ℕ) (d : Discipline) (p : Running) (now : ℕ) → tally g (present_at (charge d p now)) ≡ tally g (present_at p)
tally-charge g d p now =
    let f : Task → Task = λ t. charged d t (reading p.last now - p.last) in
    let same : (o : Option Task) → tally g (present (option_map f o) p.queue) ≡ tally g (present o p.queue) =
    elim [ None ↦ refl | Some t ↦ refl ] in
    same p.current

-- tasks that enter a processor are tallied beside those that were there
pub tally-enter_all : (g : ℕ → ℕ → ℕ) (d : Discipline) (p : Running) (tasks : List Task)
    → tally g (present_at (enter_all d p tasks)) ≡ tally g (present_at p) + tally g tasks
tally-enter_all g d p tasks =
    omega (arith, tally-present g p.current p.queue (entered d p.mark p.queue tasks), tally-entered g d p.mark p.queue tasks)

-- a task that leaves the queue to run, if it is there, leaves the sum
tally_of_taken : (g : ℕ → ℕ → ℕ) (i : ℕ) (queue : List Task) (o : Option Task)
    → find_task i queue ≡ o → tally g (present o (without i queue)) ≡ tally g queue
tally_of_taken g i queue None h = ap (λ xs. tally g xs) (without-absent i queue h)
tally_of_taken g i queue (Some t) h = sym (tally-without g i queue t h)

-- a task that begins to run leaves the queue for it
pub tally-run_id : (g : ℕ → ℕ → ℕ) (p : Running) (o : Option ℕ)
    → p.current ≡ None → tally g (present_at (run_id p o)) ≡ tally g (present_at p)
tally-run_id g p None e = refl
tally-run_id g p (Some i) e = tally_of_taken g i p.queue (find_task i p.queue) refl ∙ sym (ap (λ o. tally g (present o p.queue)) e)

-- the queue's choice that begins to run too
pub tally-start : (g : ℕ → ℕ → ℕ) (d : Discipline) (p : Running)
    → p.current ≡ None → tally g (present_at (choice_started d p)) ≡ tally g (present_at p)
tally-start g d p e = tally-run_id g p (id_of (d.choice p.queue)) e

-- two tasks that change places both stay
pub tally-exchanged : (g : ℕ → ℕ → ℕ) (j : ℕ) (p : Running) (old : Task) (o : Option Task)
    → p.current ≡ Some old → find_task j p.queue ≡ o
    → tally g (present_at (exchanged p old o)) ≡ tally g (present_at p)
tally-exchanged g j p old None e h = refl
tally-exchanged g j p old (Some new) e h =
    let placed : tally g (inserted old (without new.id p.queue)) ≡ worth g old + tally g (without j p.queue) =
    rw (find_task-id j p.queue new h) (tally-inserted g old (without j p.queue)) in
    let was : tally g (present_at p) ≡ worth g old + tally g p.queue = rw e refl in
    omega (arith, placed, was, tally-without g j p.queue new h)

-- a switch to the next task leaves each tally
pub tally-switched : (g : ℕ → ℕ → ℕ) (d : Discipline) (p : Running) (o : Option Task)
    → p.current ≡ o → tally g (present_at (switched d p o)) ≡ tally g (present_at p)
tally-switched g d p None e = refl
tally-switched g d p (Some t) e = tally-exchanged g (next_of d t p.queue) p t (find_task (next_of d t p.queue) p.queue) e refl

-- a decision leaves each tally, however it is made
pub tally-decided : (g : ℕ → ℕ → ℕ) (d : Discipline) (p : Running) (o : Option Task) (gives_way : Bool)
    → p.current ≡ o → tally g (present_at (decided d p o gives_way)) ≡ tally g (present_at p)
tally-decided g d p None b e = tally-start g d p e
tally-decided g d p (Some t) true e = tally-switched g d p (Some t) e
tally-decided g d p (Some t) false e = refl
