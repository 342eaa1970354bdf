-- A settled choice is permitted: a policy's by the test that it passed, and the discipline's own by what it is.
use Rattle.std.proofs.Common.{◌≡◌, ℕ, ◌+◌, ◌<◌, ◌≤◌, Bool, true, false, cond, List, [], ◌∷◌, filter, Option, Some, None, refl, sym, subst, ap, ◌∙◌, arith, ltb-true}
use Rattle.std.specs.Prelude.{◌||◌, ◌==◌, ◌^◌, nat_lt, nat_le, is_some, IfSome}
use Rattle.std.proofs.lemmas.Bool.Decides.{nat_tests}
use Rattle.std.specs.Option.{option_map, option_map_or}
use Rattle.std.proofs.lemmas.Bool.{and_parts, or_right}
use Rattle.bq_disc.specs.Tasks.{Task, has_id, find_task, first_by, former, id_of}
use Rattle.bq_disc.specs.Queues.{can_use}
use Rattle.bq_disc.specs.Pulls.{movable, pulled_before}
use Rattle.bq_disc.specs.Movable.{is_movable_to}
use Rattle.bq_hooks.specs.declared.hook.Version.{Version}
use Rattle.bq_verify.specs.Accepted.{Accepted}
use Rattle.bq_installed.specs.Installed.{InstalledFacts}
use Rattle.bq_hooks.specs.Contexts.{nobody, or_nobody}
use Rattle.bq_disc.specs.Masks.{allows}
use Rattle.bq_hooks.specs.Permitted.{may_place, may_pull, task_numbered}
use Rattle.bq_hooks.specs.Settled.{settled as chosen}
use Rattle.bq_hooks.proofs.PermittedLemmas.{settled_is_permitted}
use Rattle.bq_parts.specs.Processors.{Processor, count_of_id, size_of, HasEachOnce}
use Rattle.bq_parts.specs.Choices.{PolicySemantics, SettledChoice, SettlesBy, Settles, SettlesPull, own_pull, unasked}
use Rattle.bq_parts.proofs.CountLemmas.{one}

-- an answer is the choice where it is permitted, and else the own choice is
pub answer_is_permitted : (permitted : ℕ → Bool) (r0 own : ℕ)
    → permitted own ≡ true → permitted (chosen permitted (Some r0) own).choice ≡ true
answer_is_permitted permitted r0 own o = settled_is_permitted permitted (Some r0) own o

-- if the own choice is permitted, what is settled is, with a policy or without one
settles_by : (s : PolicySemantics) (policy : Option Accepted) (context : Version → List ℕ) (installed : InstalledFacts)
    (now processor : ℕ) (permitted : ℕ → Bool) (own : ℕ) (settled : SettledChoice)
    → permitted own ≡ true → SettlesBy s policy context installed now processor permitted own settled
    → permitted settled.choice ≡ true
settles_by s None context installed now processor permitted own settled o h = ap (λ (x : SettledChoice). permitted x.choice) h ∙ o
settles_by s (Some policy) context installed now processor permitted own settled o h =
    ap permitted h.choice ∙ answer_is_permitted permitted h.r0 own o

-- where the own choice is permitted, what is settled is
pub settled_permitted : (s : PolicySemantics) (context : Version → List ℕ) (installed : InstalledFacts) (now processor : ℕ)
    (permitted : ℕ → Bool) (own : ℕ) (settled : SettledChoice)
    → permitted own ≡ true → Settles s context installed now processor permitted own settled
    → permitted settled.choice ≡ true
settled_permitted s context installed now processor permitted own settled o h =
    settles_by s installed.policy context installed now processor permitted own settled o h

-- a place that is permitted is a processor of the machine that the mask allows
pub may_place_fits : (count : ℕ) (t : Task) (p : ℕ) → may_place count t p ≡ true → (p < count) × (allows t.mask p ≡ true)
may_place_fits count t p h = let b = and_parts (nat_lt p count) (allows t.mask p) h in (ltb-true p count b.0, b.1)

-- a task is found at the head of a list by its own id
itself : (t : Task) (o : Option Task) → is_some (cond (has_id t.id t) (Some t) o) ≡ true
itself t o = let same : has_id t.id t ≡ true = grind (arith, nat_tests) in rw same refl

-- one that is found in the rest of a list is found in the list
later : (id : ℕ) (x : Task) (xs : List Task) → is_some (find_task id xs) ≡ true → is_some (find_task id (x ∷ xs)) ≡ true
later id x xs h = elim (has_id id x) as (λ b. is_some (cond b (Some x) (find_task id xs)) ≡ true) [ true ↦ refl | false ↦ h ]

-- of a task and one found in the rest, the former is found in the whole
former_there : (before : Task → Task → Bool) (x : Task) (o : Option Task) (xs : List Task)
    → ((y : Task) → o ≡ Some y → is_some (find_task y.id xs) ≡ true)
    → is_some (find_task (former before x o).id (x ∷ xs)) ≡ true
former_there before x None xs h = itself x (find_task x.id xs)
former_there before x (Some y) xs h =
    elim (before y x)
    as (λ b. is_some (find_task (cond b y x).id (x ∷ xs)) ≡ true) [ true ↦ later y.id x xs (h y refl) | false ↦ itself x (find_task x.id xs) ]

-- the first of some tasks stands among them
first_there : (before : Task → Task → Bool) (xs : List Task) (m : Task) → first_by before xs ≡ Some m → is_some (find_task m.id xs) ≡ true
first_there before [] m h = cc
first_there before (x ∷ xs) m h =
    let is : former before x (first_by before xs) ≡ m = cc in
    subst (λ (y : Task). is_some (find_task y.id (x ∷ xs)) ≡ true) is (former_there before x (first_by before xs) xs (first_there before xs))

-- one that is found counts at least 1, whether it is the first or a later one
counted_by_test : (b : Bool) (x : Task) (n : ℕ) (o : Option Task)
    → is_some (cond b (Some x) o) ≡ true → (is_some o ≡ true → 1 ≤ n) → 1 ≤ cond b 1 0 + n
counted_by_test true x n o h rest = omega arith
counted_by_test false x n o h rest = omega (arith, rest h)

-- one that is found is counted
counted : (id : ℕ) (xs : List Task) → is_some (find_task id xs) ≡ true → 1 ≤ count_of_id id xs
counted id [] h = cc
counted id (x ∷ xs) h = counted_by_test (has_id id x) x (count_of_id id xs) (find_task id xs) h (counted id xs)

-- a filter leaves no more
count_of-filter : (id : ℕ) (p : Task → Bool) (xs : List Task) → count_of_id id (filter p xs) ≤ count_of_id id xs
count_of-filter id p [] = omega arith
count_of-filter id p (x ∷ xs) =
    elim (p x) as (λ b. count_of_id id (cond b (x ∷ filter p xs) (filter p xs)) ≤ count_of_id id (x ∷ xs)) [
      | true ↦ omega (arith, count_of-filter id p xs)
      | false ↦ omega (arith, count_of-filter id p xs)
    ]

-- a task found among the movable ones may use the processor, by whether the first one has its id and may use it
movable_by_tests : (a b : Bool) (processor id : ℕ) (x t : Task) (xs : List Task)
    → has_id id x ≡ a → can_use processor x ≡ b → HasEachOnce (x ∷ xs)
    → is_some (find_task id (cond b (x ∷ movable processor xs) (movable processor xs))) ≡ true
    → cond a (Some x) (find_task id xs) ≡ Some t
    → (is_some (find_task id (movable processor xs)) ≡ true → find_task id xs ≡ Some t → can_use processor t ≡ true)
    → can_use processor t ≡ true
movable_by_tests true true processor id x t xs e f once h k rest = let is : x ≡ t = cc in subst (λ y. can_use processor y ≡ true) is f
movable_by_tests true false processor id x t xs e f once h k rest =
    let here : one id x ≡ 1 = ap (λ b. cond b 1 0) e in
    absurd (omega (arith, once id, here, counted id (movable processor xs) h, count_of-filter id (can_use processor) xs))
movable_by_tests false true processor id x t xs e f once h k rest =
    let there : is_some (find_task id (movable processor xs)) ≡ true =
    sym (ap (λ b. is_some (cond b (Some x) (find_task id (movable processor xs)))) e) ∙ h in
    rest there k
movable_by_tests false false processor id x t xs e f once h k rest = rest h k

-- where ids stand once, the task of an id that may move may use the processor
pub movable_can_use : (processor id : ℕ) (queue : List Task) (t : Task)
    → HasEachOnce queue → is_some (find_task id (movable processor queue)) ≡ true → find_task id queue ≡ Some t
    → can_use processor t ≡ true
movable_can_use processor id [] t once h k = cc
movable_can_use processor id (x ∷ xs) t once h k =
    movable_by_tests (has_id id x) (can_use processor x) processor id x t xs refl refl once h k
    (movable_can_use processor id xs t (λ i. omega (arith, once i)))

-- an id that is not found counts 0, with the first task and in the rest
found_by_test : (b : Bool) (id : ℕ) (x : Task) (xs : List Task)
    → cond b (Some x) (find_task id xs) ≡ None → (find_task id xs ≡ None → count_of_id id xs ≡ 0)
    → cond b 1 0 + count_of_id id xs ≡ 0
found_by_test true id x xs h rest = cc
found_by_test false id x xs h rest = omega (arith, rest h)

-- an id that is not found stands nowhere
found : (id : ℕ) (xs : List Task) → find_task id xs ≡ None → count_of_id id xs ≡ 0
found id [] h = refl
found id (x ∷ xs) h = found_by_test (has_id id x) id x xs h (found id xs)

-- the task of an id found among the movable ones, if the queue has one, may use the processor
movable_by_case : (processor id : ℕ) (queue : List Task) (o : Option Task)
    → HasEachOnce queue → is_some (find_task id (movable processor queue)) ≡ true → find_task id queue ≡ o
    → option_map_or (can_use processor) o false ≡ true
movable_by_case processor id queue None once h e =
    absurd (omega (arith, found id queue e, counted id (movable processor queue) h, count_of-filter id (can_use processor) queue))
movable_by_case processor id queue (Some t) once h e = movable_can_use processor id queue t once h e

-- where ids stand once, a task that is found among the movable ones may be named
named : (processor id : ℕ) (queue : List Task) → HasEachOnce queue → is_some (find_task id (movable processor queue)) ≡ true
    → is_movable_to processor id queue ≡ true
named processor id queue once h = movable_by_case processor id queue (find_task id queue) once h refl

-- the first movable task to be pulled, or none, may be pulled, whether the sizes allow a pull or not
own_pull_by_case : (processor : ℕ) (queue : List Task) (o : Option Task)
    → HasEachOnce queue → first_by pulled_before (movable processor queue) ≡ o
    → may_pull processor queue (or_nobody (id_of o)) ≡ true
own_pull_by_case processor queue None once e = refl
own_pull_by_case processor queue (Some m) once e =
    ap (λ b. m.id == nobody || b) (named processor m.id queue once (first_there pulled_before (movable processor queue) m e))
    ∙ or_right (m.id == nobody) true refl

own_pull_by_test : (b : Bool) (processor : ℕ) (queue : List Task)
    → HasEachOnce queue
    → may_pull processor queue (or_nobody (id_of (cond b (first_by pulled_before (movable processor queue)) None))) ≡ true
own_pull_by_test true processor queue once = own_pull_by_case processor queue (first_by pulled_before (movable processor queue)) once refl
own_pull_by_test false processor queue once = refl

-- the own choice of a task to pull is permitted
pub own_pull_permitted : (processor : ℕ) (p from : Processor)
    → HasEachOnce from.running.queue
    → may_pull processor from.running.queue (or_nobody (own_pull processor p from)) ≡ true
own_pull_permitted processor p from once = own_pull_by_test (nat_le (size_of p + 2) (size_of from)) processor from.running.queue once

-- an id of 16 bits, or none, is what the number that stands for it means
stands_for : (o : Option ℕ) → IfSome o (λ id. id < 2 ^ 16) → o ≡ task_numbered (or_nobody o)
stands_for None small = refl
stands_for (Some id) small = grind (arith, nat_tests)

-- if the hook has no version, it has no policy
none_stands : (policy : Option Accepted) (version : Option Version)
    → version ≡ option_map (λ p. p.version) policy → version ≡ None → policy ≡ None
none_stands None version e none = refl
none_stands (Some policy) version e none = cc

-- where no policy stands at the hook, a pull is settled by the discipline's own choice
pub settles_unasked : (s : PolicySemantics) (processor from : ℕ) (p other : Processor) (version : Option Version)
    → version ≡ option_map (λ policy. policy.version) p.hooks.pull.policy → version ≡ None
    → IfSome (own_pull processor p other) (λ id. id < 2 ^ 16)
    → (choice : ℕ) × SettlesPull s processor from p other (unasked choice p.hooks.pull)
    × (own_pull processor p other ≡ task_numbered choice)
settles_unasked s processor from p other version e none small = (
  or_nobody (own_pull processor p other),
  rw (none_stands p.hooks.pull.policy version e none) refl,
  stands_for (own_pull processor p other) small,
)

-- a number that means an id is that id, and its task may move
numbered : (b : Bool) (n id : ℕ) (moves : Bool) → cond b None (Some n) ≡ Some id → (b || moves) ≡ true → (n ≡ id) × (moves ≡ true)
numbered true n id moves e h = cc
numbered false n id moves e h = (cc, h)

-- a task of that number is then one that may move
pub may_pull_names : (processor : ℕ) (queue : List Task) (n id : ℕ)
    → may_pull processor queue n ≡ true → task_numbered n ≡ Some id → is_movable_to processor id queue ≡ true
may_pull_names processor queue n id h e =
    let f = numbered (n == nobody) n id (is_movable_to processor n queue) e h in
    subst (λ i. is_movable_to processor i queue ≡ true) f.0 f.1

-- the task of an id that may move may use the processor
pub may_go : (processor id : ℕ) (queue : List Task) (t : Task)
    → is_movable_to processor id queue ≡ true → find_task id queue ≡ Some t → can_use processor t ≡ true
may_go processor id queue t h e = sym (ap (λ o. option_map_or (can_use processor) o false) e) ∙ h
