-- EEVDF: the task that runs after a decision is the choice of all that are present: eligible, and due first of those.
use Rattle.std.proofs.Common.{◌≡◌, ℕ, Bool, true, false, cond, eqb, not, List, ◌∷◌, Option, Some, None, refl, ap, sym, ◌∙◌, eqb-true, eq-eqb}
use Rattle.std.specs.Prelude.{IfSome, IsSome, Contains, unwrap_or, if◌then◌else◌, ◌==◌}
use Rattle.bq_disc.specs.Tasks.{Task, find_task, id_of}
use Rattle.bq_disc.specs.Dues.{due_before}
use Rattle.bq_disc.specs.Queues.{HasDistinctIds}
use Rattle.bq_disc.specs.Discipline.{next_of}
use Rattle.bq_disc.specs.Orders.{first_by-member}
use Rattle.bq_disc.specs.OneProcessor.{Running, present_at, decided, own_preempt, exchanged, run_id}
use Rattle.bq_disc.proofs.SetLemmas.{find_task-Contains, first_by-least, due_before-IsOrder}
use Rattle.bq_disc.proofs.SameSumLemmas.{Contains-filter}
use Rattle.bq_cfs.proofs.SpreadStayLemmas.{idle_processor, busy_processor}
use Rattle.bq_eevdf.specs.Eevdf.{eevdf, earliest, eligible, is_eligible, is_other}
use Rattle.bq_eevdf.specs.Lawful.{eevdf_lawful}
use Rattle.bq_fairness.proofs.PlaceLemmas.{find_task-own}
use Rattle.bq_fairness.proofs.ListLemmas.{of_some}

-- a task is one of some, by its id, and eligible among them
abbrev pub IsChosen : List Task → Task → Type 0
IsChosen xs m = (find_task m.id xs ≡ Some m) × (is_eligible xs m ≡ true)

-- with distinct ids, an eligible task of a list is the one of its id, and eligible
chosen_by : (xs : List Task) (o : Option Task) → IfSome o (Contains (eligible xs)) → HasDistinctIds xs → IfSome o (IsChosen xs)
chosen_by xs None h d = tt
chosen_by xs (Some m) h d =
    let c = Contains-filter (is_eligible xs) xs m h in
    (find_task-Contains xs m c.0.0 d c.0.1 c.0.2, c.1)

-- the earliest is so
earliest_is_chosen : (xs : List Task) → HasDistinctIds xs → IfSome (earliest xs) (IsChosen xs)
earliest_is_chosen xs d = chosen_by xs (earliest xs) (first_by-member due_before (eligible xs)) d

-- of the tasks of a list that are eligible, this one is due first
abbrev pub IsEarliestOf : List Task → Task → Type 0
IsEarliestOf xs t = earliest xs ≡ Some t

-- Nothing runs, and the choice starts

-- where nothing ran, the earliest of the queue runs
started_by : (q : List Task) (mark last : ℕ) (o : Option Task)
    → earliest q ≡ o → IfSome o (IsChosen q)
    → IfSome (run_id (idle_processor q mark last) (id_of o)).current (IsEarliestOf q)
started_by q mark last None f h = tt
started_by q mark last (Some m) f h = rw h.0 f

-- The current task keeps running, or gives way

-- a task other than the current one, by the test of ids, is the next
next_by_test : (m : Task) (b : Bool) (k : ℕ) → b ≡ false → cond b k m.id ≡ m.id
next_by_test m false k e = refl
next_by_test m true k e = cc

-- the id of the next task, given the choice among all that are present
abbrev next_from : List Task → Task → Option Task → ℕ
next_from q u o = let chosen = unwrap_or (id_of o) u.id in if chosen == u.id then unwrap_or (id_of (earliest q)) u.id else chosen

-- if the earliest of all is not the current task, it is the next one
next_is_chosen : (q : List Task) (u m : Task) → earliest (u ∷ q) ≡ Some m → eqb m.id u.id ≡ false → next_of eevdf u q ≡ m.id
next_is_chosen q u m f e =
    ap (λ o. next_from q u o) f ∙ next_by_test m (eqb m.id u.id) (unwrap_or (id_of (earliest q)) u.id) e

-- a chosen task that is not the current one is in the queue
later_by_test : (q : List Task) (u m : Task) (b : Bool) → eqb u.id m.id ≡ b → eqb m.id u.id ≡ false
    → cond b (Some u) (find_task m.id q) ≡ Some m
    → find_task m.id q ≡ Some m
later_by_test q u m true g e h = let same = eq-eqb m.id u.id (sym (eqb-true u.id m.id g)) in cc
later_by_test q u m false g e h = h

-- the task that runs, if one does, is the earliest of these
abbrev RunsEarliestOf : List Task → Running → Type 0
RunsEarliestOf xs p = IfSome p.current (IsEarliestOf xs)

-- where the earliest and the current task change places, the earliest runs
exchanged_earliest : (q : List Task) (mark last next : ℕ) (u m : Task)
    → next ≡ m.id → find_task m.id q ≡ Some m → IsEarliestOf (u ∷ q) m
    → RunsEarliestOf (u ∷ q) (exchanged (busy_processor q mark u last) u (find_task next q))
exchanged_earliest q mark last next u m e f h = rw (e, f) h

-- of the earliest, by whether it is the current task
decided_by_test : (q : List Task) (mark last : ℕ) (u m : Task) (b : Bool)
    → eqb m.id u.id ≡ b → earliest (u ∷ q) ≡ Some m → IsChosen (u ∷ q) m
    → RunsEarliestOf (u ∷ q) (decided eevdf (busy_processor q mark u last) (Some u) (not b))
decided_by_test q mark last u m true e f h =
    let same = eqb-true m.id u.id e in
    let here : u ≡ m = let one = find_task-own u q in let two = ap (λ k. find_task k (u ∷ q)) same in let three = h.0 in cc in
    f ∙ ap (λ (x : Task). Some x) (sym here)
decided_by_test q mark last u m false e f h =
    exchanged_earliest q mark last (next_of eevdf u q) u m (next_is_chosen q u m f e) (later_by_test q u m (eqb u.id m.id) refl e h.0) f

-- after a decision the earliest of all runs, by cases: a task ran, any processor given by its parts
decided_by : (q : List Task) (mark last : ℕ) (u : Task) (o : Option Task)
    → earliest (u ∷ q) ≡ o → IfSome o (IsChosen (u ∷ q)) → IsSome o
    → RunsEarliestOf (u ∷ q) (decided eevdf (busy_processor q mark u last) (Some u) (is_other o u))
decided_by q mark last u None f h s = cc
decided_by q mark last u (Some m) f h s = decided_by_test q mark last u m (eqb m.id u.id) refl f h

decided_earliest : (q : List Task) (mark : ℕ) (o : Option Task) (last : ℕ)
    → (let p : Running = record { queue = q; mark = mark; current = o; last = last } in
    HasDistinctIds (present_at p) → RunsEarliestOf (present_at p) (decided eevdf p o (own_preempt eevdf q o)))
decided_earliest q mark None last d = started_by q mark last (earliest q) refl (earliest_is_chosen q d)
decided_earliest q mark (Some u) last d =
    decided_by q mark last u (earliest (u ∷ q)) refl (earliest_is_chosen (u ∷ q) d) (eevdf_lawful.exists (u ∷ q) (λ e. cc))

-- the task that runs after a decision is the earliest of those that were present before it
pub runs_earliest : (p : Running) → HasDistinctIds (present_at p)
    → IfSome (decided eevdf p p.current (own_preempt eevdf p.queue p.current)).current (IsEarliestOf (present_at p))
runs_earliest p d = decided_earliest p.queue p.mark p.current p.last d

-- the earliest eligible task of a list is eligible
pub earliest_is_eligible : (xs : List Task) (m : Task) → HasDistinctIds xs → IsEarliestOf xs m → is_eligible xs m ≡ true
earliest_is_eligible xs m d e = (of_some (IsChosen xs) (earliest xs) m (earliest_is_chosen xs d) e).1

-- no eligible task is due before the earliest
pub none_is_due_before : (xs : List Task) (m : Task) → IsEarliestOf xs m → (t : Task) → Contains (eligible xs) t → due_before t m ≡ false
none_is_due_before xs m e =
    of_some (λ x. (t : Task) → Contains (eligible xs) t → due_before t x ≡ false) (earliest xs) m
    (first_by-least due_before due_before-IsOrder (eligible xs)) e

-- the earliest is the task of its id
pub chosen_present : (xs : List Task) (m : Task) → HasDistinctIds xs → IsEarliestOf xs m → find_task m.id xs ≡ Some m
chosen_present xs m d e = (of_some (IsChosen xs) (earliest xs) m (earliest_is_chosen xs d) e).0
