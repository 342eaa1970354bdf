-- What is read of the accounts after each of their changes: tasks' states, what runs at each processor, and how many tasks it has.
use Rattle.std.proofs.Common.{◌≡◌, ◌≢◌, ℕ, ◌+◌, ◌-◌, inl, inr, Bool, true, false, List, length, Option, Some, None, refl, sym, ap, ◌∙◌, subst}
use Rattle.std.specs.Prelude.{slice_get, slice_set, if◌then◌else◌}
use Rattle.std.specs.Option.{option_map_or}
use Rattle.std.proofs.lemmas.Bool.{cases_eq, eqb-true}
use Rattle.std.proofs.lemmas.List.{length-set}
use Rattle.bq_workload.specs.declared.progress.TaskProgress.{TaskProgress}
use Rattle.bq_workload.specs.declared.progress.TaskState.{TaskState}
use Rattle.bq_workload.specs.declared.progress.TaskState.TheVariants.{Runnable}
use Rattle.bq_workload.specs.declared.processor_state.ProcessorState.{ProcessorState}
use Rattle.bq_workload.specs.declared.periods.Periods.{Periods}
use Rattle.bq_workload.specs.Accounts.{Accounts, changed_at, accounts_charged, runner_charged, grown, idled, is_same, occupied, of_processor, of_task, shrunk, accounts_switched, taken_over}
use Rattle.bq_workload.specs.TaskProgress.{moved_to, run_for, progress_woken}
use Rattle.bq_workload.specs.Dues.{size_at}
use Rattle.bq_workload.proofs.ListLemmas.{changed_at-here, changed_at-none, changed_at-others, some_or_none}
use Rattle.bq_simulate.specs.Agreement.{runner_at, state_at}

-- what is read at a place of some list
abbrev pub read : {A B : Type 0} → (A → B) → B → List A → ℕ → B
read v d xs k = option_map_or v (slice_get xs k) d

-- what a change leaves as it is can be read as before
pub read_kept : {A B : Type 0} (f : A → A) (v : A → B) (d : B)
    → ((x : A) → v (f x) ≡ v x) → (xs : List A) (n k : ℕ) → read v d (changed_at f xs n) k ≡ read v d xs k
read_kept {A} {B} f v d same xs n k = elim (cases_eq k n) [
  | inr other ↦ ap (λ (o : Option A). option_map_or v o d) (changed_at-others f xs n k other)
  | inl here ↦ elim (some_or_none (slice_get xs n)) [
    | inl none ↦ ap (λ (ys : List A). read v d ys k) (changed_at-none f xs n none)
    | inr (x, is) ↦
        let new : slice_get (changed_at f xs n) k ≡ Some (f x) = ap (slice_get (changed_at f xs n)) here ∙ changed_at-here f xs n x is in
        let old : slice_get xs k ≡ Some x = ap (slice_get xs) here ∙ is in
        ap (λ (o : Option A). option_map_or v o d) new ∙ same x ∙ sym (ap (λ (o : Option A). option_map_or v o d) old)
  ]
]

-- what is changed at a place is read there
pub read_changed : {A B : Type 0} (f : A → A) (v : A → B) (d : B) (xs : List A) (n : ℕ) (x : A)
    → slice_get xs n ≡ Some x → read v d (changed_at f xs n) n ≡ v (f x)
read_changed {A} {B} f v d xs n x is = ap (λ (o : Option A). option_map_or v o d) (changed_at-here f xs n x is)

-- elsewhere the same is read as before
pub read_others : {A B : Type 0} (f : A → A) (v : A → B) (d : B) (xs : List A) (n k : ℕ)
    → k ≢ n → read v d (changed_at f xs n) k ≡ read v d xs k
read_others {A} {B} f v d xs n k other = ap (λ (o : Option A). option_map_or v o d) (changed_at-others f xs n k other)

-- a change keeps the length
pub changed_at-length : {A : Type 0} (f : A → A) (xs : List A) (n : ℕ) → length (changed_at f xs n) ≡ length xs
changed_at-length {A} f xs n =
    elim (slice_get xs n) as (λ (o : Option A). length (option_map_or (λ x. slice_set xs n (f x)) o xs) ≡ length xs)
    [ None ↦ refl | Some x ↦ length-set xs n (f x) ]

-- the processors are as before, except for what this one runs and how many tasks it has; the states of the tasks are as before
pub record Reads (processor : ℕ) (run : Option ℕ) (size : ℕ) (a b : Accounts) : Type 0 where
  pub many : length b.by_processor ≡ length a.by_processor
  pub states : (task : ℕ) → state_at b.by_task task ≡ state_at a.by_task task
  pub run_here : runner_at b.by_processor processor ≡ run
  pub size_here : size_at b.by_processor processor ≡ size
  pub runs : (other : ℕ) → other ≢ processor → runner_at b.by_processor other ≡ runner_at a.by_processor other
  pub sizes : (other : ℕ) → other ≢ processor → size_at b.by_processor other ≡ size_at a.by_processor other

-- accounts that change at a processor, and change there once more, have changed there
pub reads_join : (processor size more : ℕ) (run next : Option ℕ) (a b c : Accounts)
    → Reads processor run size a b → Reads processor next more b c → Reads processor next more a c
reads_join processor size more run next a b c h k = record {
  many = k.many ∙ h.many;
  states = λ task. k.states task ∙ h.states task;
  run_here = k.run_here;
  size_here = k.size_here;
  runs = λ other apart. k.runs other apart ∙ h.runs other apart;
  sizes = λ other apart. k.sizes other apart ∙ h.sizes other apart;
}

-- a processor's state has changed
pub reads_processor : (f : ProcessorState → ProcessorState) (processor : ℕ) (a : Accounts) (l : ProcessorState)
    → slice_get a.by_processor processor ≡ Some l
    → Reads processor (f l).run (f l).size a (of_processor f processor a)
reads_processor f processor a l at = record {
  many = changed_at-length f a.by_processor processor;
  states = λ task. refl;
  run_here = read_changed f (λ (x : ProcessorState). x.run) None a.by_processor processor l at;
  size_here = read_changed f (λ (x : ProcessorState). x.size) 0 a.by_processor processor l at;
  runs = λ other apart. read_others f (λ (x : ProcessorState). x.run) None a.by_processor processor other apart;
  sizes = λ other apart. read_others f (λ (x : ProcessorState). x.size) 0 a.by_processor processor other apart;
}

-- a task has come further, in the state that it was in
pub reads_task : (f : TaskProgress → TaskProgress) → ((c : TaskProgress) → (f c).task_state ≡ c.task_state)
    → (processor task size : ℕ) (run : Option ℕ) (a b : Accounts) → Reads processor run size a b
    → Reads processor run size a (of_task f task b)
reads_task f same processor task size run a b h = record {
  many = h.many;
  states = λ other.
      read_kept f (λ (c : TaskProgress). Some c.task_state) None (λ c. ap (λ (s : TaskState). Some s) (same c)) b.by_task task other
      ∙ h.states other;
  run_here = h.run_here;
  size_here = h.size_here;
  runs = h.runs;
  sizes = h.sizes;
}

-- accounts that have not changed read as they are
pub reads_same : (processor : ℕ) (a : Accounts) (l : ProcessorState)
    → slice_get a.by_processor processor ≡ Some l → Reads processor l.run l.size a a
reads_same processor a l at = record {
  many = refl;
  states = λ task. refl;
  run_here = ap (λ (o : Option ProcessorState). option_map_or (λ (x : ProcessorState). x.run) o None) at;
  size_here = ap (λ (o : Option ProcessorState). option_map_or (λ (x : ProcessorState). x.size) o 0) at;
  runs = λ other apart. refl;
  sizes = λ other apart. refl;
}

-- the time of the task that runs there is counted
reads_charged_by : (processor : ℕ) (l : ProcessorState) (now : ℕ) (a : Accounts)
    → slice_get a.by_processor processor ≡ Some l → Reads processor l.run l.size a (runner_charged l now a)
reads_charged_by processor l now a at =
    elim l.run as (λ (o : Option ℕ). Reads processor l.run l.size a (runner_charged (record l { run = o }) now a)) [
      | None ↦ reads_same processor a l at
      | Some task ↦ reads_task (run_for (now - l.since)) (λ c. refl) processor task l.size l.run a a (reads_same processor a l at)
    ]

-- to count the time of the task that runs changes no processor
charged_by-processors : (l : ProcessorState) (now : ℕ) (a : Accounts) → (runner_charged l now a).by_processor ≡ a.by_processor
charged_by-processors l now a =
    elim l.run
    as (λ (o : Option ℕ). (runner_charged (record l { run = o }) now a).by_processor ≡ a.by_processor) [ None ↦ refl | Some task ↦ refl ]

-- the time of the task that runs is counted from now on
pub reads_charged : (processor now : ℕ) (a : Accounts) (l : ProcessorState)
    → slice_get a.by_processor processor ≡ Some l → Reads processor l.run l.size a (accounts_charged processor now a)
reads_charged processor now a l at =
    let f : ProcessorState → ProcessorState = λ x. record x { since = now } in
    let b : Accounts = runner_charged l now a in
    let there : slice_get b.by_processor processor ≡ Some l =
    ap (λ (ls : List ProcessorState). slice_get ls processor) (charged_by-processors l now a) ∙ at in
    let one : Reads processor l.run l.size a (of_processor f processor b) =
    reads_join processor l.size l.size l.run l.run a b (of_processor f processor b) (reads_charged_by processor l now a at)
    (reads_processor f processor b l there) in
    subst (λ (o : Option ProcessorState).
    Reads processor l.run l.size a (option_map_or (λ (x : ProcessorState). of_processor f processor (runner_charged x now a)) o a))
    (sym at) one

-- after that the processor has its state, counted until now
pub charged_there : (processor now : ℕ) (a : Accounts) (l : ProcessorState)
    → slice_get a.by_processor processor ≡ Some l
    → slice_get (accounts_charged processor now a).by_processor processor ≡ Some (record l { since = now })
charged_there processor now a l at =
    let f : ProcessorState → ProcessorState = λ x. record x { since = now } in
    let there : slice_get (runner_charged l now a).by_processor processor ≡ Some l =
    ap (λ (ls : List ProcessorState). slice_get ls processor) (charged_by-processors l now a) ∙ at in
    ap (λ (o : Option ProcessorState).
    slice_get (option_map_or (λ (x : ProcessorState). of_processor f processor (runner_charged x now a)) o a).by_processor
    processor) at
    ∙ changed_at-here f (runner_charged l now a).by_processor processor l there

-- from now on this task runs there, or none
reads_taken_over : (processor : ℕ) (run : Option ℕ) (now : ℕ) (periods : Periods) (a : Accounts) (l : ProcessorState)
    → slice_get a.by_processor processor ≡ Some l
    → Reads processor run l.size a (taken_over processor run now periods a)
reads_taken_over processor None now periods a l at = reads_processor (idled now) processor a l at
reads_taken_over processor (Some task) now periods a l at =
    reads_task (moved_to processor periods.migration_cost) (λ c. refl) processor task l.size
    (Some task) a (of_processor (occupied periods.tick task now) processor a)
    (reads_processor (occupied periods.tick task now) processor a l at)

-- what is found the same is
pub same_run : (o p : Option ℕ) → is_same o p ≡ true → o ≡ p
same_run None None h = refl
same_run None (Some n) h = cc
same_run (Some m) None h = cc
same_run (Some m) (Some n) h = ap (λ (k : ℕ). Some k) (eqb-true m n h)

-- what runs there is read, whether the same task was to run or another took over
switched_by_test : (b : Bool) (processor : ℕ) (run : Option ℕ) (a over : Accounts) (l : ProcessorState)
    → is_same l.run run ≡ b → slice_get a.by_processor processor ≡ Some l → Reads processor run l.size a over
    → Reads processor run l.size a (if b then a else over)
switched_by_test true processor run a over l same at h =
    subst (λ (o : Option ℕ). Reads processor o l.size a a) (same_run l.run run same) (reads_same processor a l at)
switched_by_test false processor run a over l same at h = h

-- as an answer says who runs there now, that is read, and nothing else changes
pub reads_switched : (processor : ℕ) (run : Option ℕ) (now : ℕ) (periods : Periods) (a : Accounts) (l : ProcessorState)
    → slice_get a.by_processor processor ≡ Some l
    → Reads processor run l.size a (accounts_switched processor run now periods a)
reads_switched processor run now periods a l at =
    let mid : Accounts = accounts_charged processor now a in
    let over : Accounts = taken_over processor run now periods mid in
    let counted : ProcessorState = record l { since = now } in
    let whole : Reads processor run l.size a over =
    reads_join processor l.size l.size l.run run a mid over (reads_charged processor now a l at)
    (reads_taken_over processor run now periods mid counted (charged_there processor now a l at)) in
    subst (λ (o : Option ProcessorState).
    Reads processor run l.size a (option_map_or (λ (x : ProcessorState). if is_same x.run run then a else over) o a)) (sym at)
    (switched_by_test (is_same l.run run) processor run a over l refl at whole)

-- a task has gone from the queue of a processor
pub reads_shrunk : (processor : ℕ) (a : Accounts) (l : ProcessorState)
    → slice_get a.by_processor processor ≡ Some l → Reads processor l.run (l.size - 1) a (shrunk processor a)
reads_shrunk processor a l at = reads_processor (λ x. record x { size = x.size - 1 }) processor a l at

-- some tasks have entered it
pub reads_grown : (processor count : ℕ) (a : Accounts) (l : ProcessorState)
    → slice_get a.by_processor processor ≡ Some l
    → Reads processor l.run (l.size + count) a (grown processor count a)
reads_grown processor count a l at = reads_processor (λ x. record x { size = x.size + count }) processor a l at

-- a task that is woken can run, and the others are in the states that they were in
pub state_woken : (task : ℕ) (a : Accounts) (c : TaskProgress)
    → slice_get a.by_task task ≡ Some c → state_at (of_task progress_woken task a).by_task task ≡ Some Runnable
state_woken task a c there = read_changed progress_woken (λ (x : TaskProgress). Some x.task_state) None a.by_task task c there

-- the tasks other than the one that is changed are in the states that they were in
pub state_others : (f : TaskProgress → TaskProgress) (task other : ℕ) (a : Accounts)
    → other ≢ task → state_at (of_task f task a).by_task other ≡ state_at a.by_task other
state_others f task other a apart = read_others f (λ (x : TaskProgress). Some x.task_state) None a.by_task task other apart
