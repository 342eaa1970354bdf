-- An event whose preemption is decided by the discipline keeps a processor within its bound.
use Rattle.std.proofs.Common.{◌≡◌, ℕ, ◌+◌, ◌-◌, ◌^◌, ◌<◌, ◌≤◌, Bool, true, false, cond, eqb, List, [], ◌∷◌, Option, Some, None, refl, arith, nat_lt}
use Rattle.std.specs.Prelude.{All, IfSome}
use Rattle.std.specs.Option.{option_map_or}
use Rattle.std.specs.List.{AllByRecursion}
use Rattle.std.proofs.lemmas.List.Elements.{All-from_recursion}
use Rattle.std.proofs.lemmas.Bool.Decides.{nat_tests}
use Rattle.bq_weights.specs.VirtualTime.{IsWeight, vdelta_of}
use Rattle.bq_disc.specs.Tasks.{Task, find_task, without, present, runs_before, former}
use Rattle.bq_disc.specs.Queues.{HasDistinctIds}
use Rattle.bq_disc.specs.Discipline.{charged, next_of}
use Rattle.bq_disc.specs.Orders.{first_by-member}
use Rattle.bq_disc.specs.Totals.{NoneBelow}
use Rattle.bq_disc.specs.OneProcessor.{Running, present_at, charge, choice_started, run_id, switched, exchanged, decided, own_preempt, rise}
use Rattle.bq_disc.proofs.SetLemmas.{find_task-Contains}
use Rattle.bq_cfs.specs.Cfs.{cfs, least}
use Rattle.bq_cfs.specs.Spread.{bound, AreTasksSound, IsSpreadWithin, SpreadEvent, Tick, Block, event_time, processor_passed, StaysWithin, HistoryStaysWithin}
use Rattle.bq_cfs.proofs.BoundLemmas.{weaker_of_each, IsNear, at_most_bound, none_below_least}
use Rattle.bq_cfs.proofs.MoveLemmas.{each-without, each-inserted, each-find_task, distinct-started, distinct-exchanged}
use Rattle.bq_cfs.proofs.LevelLemmas.{IsLevel, IsLevel-charged, within_bound_is_level}

-- What an event leaves

-- the task that runs is at most 1,000,000 beyond each
abbrev RunsNear : Option Task → List Task → Type 0
RunsNear o q = IfSome o (λ m. AllByRecursion (λ t. m.v ≤ t.v + 1000000) (present o q))

-- the task that runs is within the bound
current_within : (V : ℕ) (o : Option Task) (q : List Task) → RunsNear o q → IfSome o (λ t. t.v ≤ bound V (present o q))
current_within V None q h = tt
current_within V (Some m) q h =
    at_most_bound V m.v m q (All-from_recursion (IsNear V m.v) (m ∷ q)
    (weaker_of_each (λ (t : Task). m.v ≤ t.v + 1000000) (IsNear V m.v) (λ t k. omega arith) (m ∷ q) h))

-- each task is within the bound and the time that d takes
each_within : (V d n : ℕ) (xs : List Task) → AllByRecursion (IsLevel V d n) xs → All (λ t. t.v ≤ bound V xs + vdelta_of d 15) xs
each_within V d n [] h = All-from_recursion (λ (t : Task). t.v ≤ bound V [] + vdelta_of d 15) [] tt
each_within V d n (x ∷ xs) h =
    let near = All-from_recursion (IsNear V n) (x ∷ xs) (weaker_of_each (IsLevel V d n) (IsNear V n) (λ t l. l.near) (x ∷ xs) h) in
    let le = at_most_bound V n x xs near in
    let reaches : Task → Type 0 = λ t. t.v ≤ bound V (x ∷ xs) + vdelta_of d 15 in
    All-from_recursion reaches (x ∷ xs) (weaker_of_each (IsLevel V d n) reaches (λ t l. let reach = l.reach in omega arith) (x ∷ xs) h)

-- the processor keeps what the law promises
abbrev Stays : ℕ → ℕ → Running → Type 0
Stays V d p = AreTasksSound p × IsSpreadWithin V d p

-- it does so where what was known of each task holds of those that are left, and the task that runs is near them
stays : (V d n : ℕ) (p : Running) → HasDistinctIds (present_at p) → AllByRecursion (IsLevel V d n) (present_at p)
    → RunsNear p.current p.queue
    → Stays V d p
stays V d n p distinct h runs =
    let xs = present_at p in (
      record {
        distinct = distinct;
        weights =
            All-from_recursion (λ (t : Task). IsWeight t.weight) xs
            (weaker_of_each (IsLevel V d n) (λ (t : Task). IsWeight t.weight) (λ t l. l.weight) xs h);
        ends =
            All-from_recursion (λ (t : Task). t.v ≤ 2 ^ 62) xs
            (weaker_of_each (IsLevel V d n) (λ (t : Task). t.v ≤ 2 ^ 62) (λ t l. l.ends) xs h);
      },
      record { current = current_within V p.current p.queue runs; each = each_within V d n xs h },
    )

-- Nothing runs, and the queue's choice starts

-- with distinct ids, the least task is the one of its id
pub least_is_found : (x : Task) (xs : List Task) → HasDistinctIds (x ∷ xs)
    → (let m = former runs_before x (least xs) in find_task m.id (x ∷ xs) ≡ Some m)
least_is_found x xs d =
    let m = former runs_before x (least xs) in
    let c = first_by-member runs_before (x ∷ xs) in
    find_task-Contains (x ∷ xs) m c.0 d c.1 c.2

-- a processor with this queue where nothing runs
abbrev pub idle_processor : List Task → ℕ → ℕ → Running
idle_processor q mark last = record { queue = q; mark = mark; current = None; last = last }

-- a task of the queue starts where none ran, and the processor keeps what the law promises, by cases: least v, choice
started_stays : (V d n mark last : ℕ) (q : List Task) (m : Task)
    → find_task m.id q ≡ Some m → HasDistinctIds q → AllByRecursion (IsLevel V d n) q → NoneBelow m.v q
    → Stays V d (run_id (idle_processor q mark last) (Some m.id))
started_stays V d n mark last q m found distinct h none =
    rw found (stays V d n (record { queue = without m.id q; mark = mark; current = Some m; last = last })
    (distinct-started m q distinct) (rw found at (each-find_task (IsLevel V d n) m.id q h), each-without (IsLevel V d n) m.id q h) (
      omega arith,
      each-without (λ (t : Task). m.v ≤ t.v + 1000000) m.id q
          (weaker_of_each (λ (t : Task). m.v ≤ t.v) (λ (t : Task). m.v ≤ t.v + 1000000) (λ t k. omega arith) q none),
    ))

start_stays : (V d n mark last : ℕ) (q : List Task) → HasDistinctIds q → AllByRecursion (IsLevel V d n) q
    → Stays V d (choice_started cfs (idle_processor q mark last))
start_stays V d n mark last [] distinct h = stays V d n (idle_processor [] mark last) tt tt tt
start_stays V d n mark last (x ∷ xs) distinct h =
    started_stays V d n mark last (x ∷ xs) (former runs_before x (least xs)) (least_is_found x xs distinct) distinct h
    (none_below_least x xs)

-- The current task keeps running, or gives way

-- a processor with this queue where this task runs
abbrev pub busy_processor : List Task → ℕ → Task → ℕ → Running
busy_processor q mark u last = record { queue = q; mark = mark; current = Some u; last = last }

-- a task that is at most 1,000,000 beyond the least is so beyond each
pub near_each : (n : ℕ) (q : List Task) → option_map_or (λ (t : Task). nat_lt (t.v + 1000000) n) (least q) false ≡ false
    → AllByRecursion (λ t. n ≤ t.v + 1000000) q
near_each n [] e = tt
near_each n (x ∷ xs) e =
    let m = former runs_before x (least xs) in
    let le : n ≤ m.v + 1000000 = grind (arith, nat_tests) in
    weaker_of_each (λ (t : Task). m.v ≤ t.v) (λ (t : Task). n ≤ t.v + 1000000) (λ t k. omega arith) (x ∷ xs) (none_below_least x xs)

-- the processor keeps it too if the current task runs on by the discipline
kept_stays : (V d n mark last : ℕ) (q : List Task) (u : Task)
    → HasDistinctIds (u ∷ q) → AllByRecursion (IsLevel V d n) (u ∷ q) → own_preempt cfs q (Some u) ≡ false
    → Stays V d (busy_processor q mark u last)
kept_stays V d n mark last q u distinct h e = stays V d n (busy_processor q mark u last) distinct h (omega arith, near_each u.v q e)

-- if the queue's task comes before the current one, it is next whatever the test of the ids says
next_by_test : (a u : Task) (b c : Bool) → b ≡ true → cond c a.id (cond b a u).id ≡ a.id
next_by_test a u true true e = refl
next_by_test a u true false e = refl
next_by_test a u false c e = cc

-- where the current task gives way, the next is the least of the queue
pub next_is_least : (u x : Task) (xs : List Task) → (let m = former runs_before x (least xs) in m.v < u.v → next_of cfs u (x ∷ xs) ≡ m.id)
next_is_least u x xs lt =
    let m = former runs_before x (least xs) in
    let before : runs_before m u ≡ true = grind (arith, nat_tests) in
    next_by_test m u (runs_before m u) (eqb (cond (runs_before m u) m u).id u.id) before

-- the processor keeps it if the current task and the queue's task of least v change places
exchanged_stays : (V d n mark last next : ℕ) (q : List Task) (u m : Task)
    → next ≡ m.id → find_task m.id q ≡ Some m → HasDistinctIds (u ∷ q) → AllByRecursion (IsLevel V d n) (u ∷ q)
    → NoneBelow m.v q → m.v ≤ u.v
    → Stays V d (exchanged (busy_processor q mark u last) u (find_task next q))
exchanged_stays V d n mark last next q u m chosen found distinct h none le =
    let near : Task → Type 0 = λ t. m.v ≤ t.v + 1000000 in
    rw (chosen, found) (stays V d n (exchanged (busy_processor q mark u last) u (Some m))
    (distinct-exchanged u m q found distinct) (
      rw found at (each-find_task (IsLevel V d n) m.id q h.1),
      each-inserted (IsLevel V d n) u (without m.id q) h.0 (each-without (IsLevel V d n) m.id q h.1),
    ) (
      omega arith,
      each-inserted near u (without m.id q) (omega arith)
          (each-without near m.id q (weaker_of_each (λ (t : Task). m.v ≤ t.v) near (λ t k. omega arith) q none)),
    ))

-- it keeps it if the current task gives way by the discipline, and so whatever the discipline decides
switched_stays : (V d n mark last : ℕ) (q : List Task) (u : Task)
    → HasDistinctIds (u ∷ q) → AllByRecursion (IsLevel V d n) (u ∷ q) → own_preempt cfs q (Some u) ≡ true
    → Stays V d (switched cfs (busy_processor q mark u last) (Some u))
switched_stays V d n mark last [] u distinct h e = cc
switched_stays V d n mark last (x ∷ xs) u distinct h e =
    let m = former runs_before x (least xs) in
    let lt : m.v + 1000000 < u.v = grind (arith, nat_tests) in
    let found = least_is_found x xs distinct.1 in
    exchanged_stays V d n mark last (next_of cfs u (x ∷ xs)) (x ∷ xs) u m (next_is_least u x xs (omega arith)) found
    distinct h (none_below_least x xs) (omega arith)

decided_stays : (V d n mark last : ℕ) (q : List Task) (u : Task) (b : Bool)
    → own_preempt cfs q (Some u) ≡ b → HasDistinctIds (u ∷ q) → AllByRecursion (IsLevel V d n) (u ∷ q)
    → Stays V d (decided cfs (busy_processor q mark u last) (Some u) b)
decided_stays V d n mark last q u true e distinct h = switched_stays V d n mark last q u distinct h e
decided_stays V d n mark last q u false e distinct h = kept_stays V d n mark last q u distinct h e

-- Events

-- an event keeps a processor, given by its parts, within its bound
event_stays : (V d : ℕ) (q : List Task) (mark : ℕ) (o : Option Task) (last : ℕ) (e : SpreadEvent)
    → (let p : Running = record { queue = q; mark = mark; current = o; last = last } in
    AreTasksSound p → IsSpreadWithin V d p → rise p (event_time e) ≤ d → Stays V d (processor_passed p e))
event_stays V d q mark None last (Tick now) s w le =
    let p = idle_processor q mark last in
    let c = charge cfs p now in
    start_stays V d (bound V q) c.mark c.last q s.distinct (within_bound_is_level V d p s w)
event_stays V d q mark None last (Block now) s w le = (s, w)
event_stays V d q mark (Some t) last (Tick now) s w le =
    let p = busy_processor q mark t last in
    let c = charge cfs p now in
    let n = bound V (t ∷ q) in
    let h = within_bound_is_level V d p s w in
    let u = charged cfs t (c.last - last) in
    let charged_level = IsLevel-charged V d n (c.last - last) t h.0 w.current le in
    decided_stays V d n c.mark c.last q u (own_preempt cfs q (Some u)) refl s.distinct (charged_level, h.1)
event_stays V d q mark (Some t) last (Block now) s w le =
    let p = busy_processor q mark t last in
    let c = charge cfs p now in
    start_stays V d (bound V (t ∷ q)) c.mark c.last q s.distinct.1 (within_bound_is_level V d p s w).1

-- an event keeps a processor within its bound
pub stays_within : StaysWithin
stays_within V d p e = event_stays V d p.queue p.mark p.current p.last e

-- any number of events keep a processor within its bound
pub history_stays_within : HistoryStaysWithin
history_stays_within V d p [] s w rises = (s, w)
history_stays_within V d p (e ∷ es) s w rises =
    let after = stays_within V d p e s w rises.0 in
    history_stays_within V d (processor_passed p e) es after.0 after.1 rises.1
