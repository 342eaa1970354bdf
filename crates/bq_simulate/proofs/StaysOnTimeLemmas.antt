-- What is done at an instant leaves nothing past.
use Rattle.std.proofs.Common.{◌≡◌, ◌≢◌, ℕ, ◌-◌, ◌/◌, ◌<◌, ◌≤◌, inl, inr, Bool, true, false, List, length, Option, Some, None, refl, sym, subst, ap, ◌∙◌, arith, get_or}
use Rattle.std.specs.Prelude.{◌&&◌, if◌then◌else◌, is_some, nat_le, option_map, slice_get, unwrap_or}
use Rattle.std.specs.Option.{option_map_or}
use Rattle.std.proofs.lemmas.Bool.{cases_eq}
use Rattle.std.proofs.lemmas.Option.{none-some, same_Some, slice_get-get_or, slice_get_within}
use Rattle.std.proofs.Math.Nat.{add-mul}
use Rattle.std.proofs.lemmas.Nat.{div-add-mod', mod_below}
use Rattle.bq_parts.specs.Processors.{Processor}
use Rattle.bq_parts.specs.Refusals.{is_away}
use Rattle.bq_parts.specs.World.{World, processor_at, entry_of_id}
use Rattle.bq_parts.specs.declared.lobby_entry.LobbyEntry.{LobbyEntry}
use Rattle.bq_parts.specs.declared.lobby_entry.LobbyEntry.TheVariants.{Absent, Sleeping, Away}
use Rattle.bq_parts.proofs.OnceLemmas.{count_of-held_by, held_two, standing_once}
use Rattle.bq_workload.specs.declared.progress.TaskProgress.{TaskProgress}
use Rattle.bq_workload.specs.declared.progress.TaskState.{TaskState}
use Rattle.bq_workload.specs.declared.processor_state.ProcessorState.{ProcessorState}
use Rattle.bq_workload.specs.declared.periods.Periods.{Periods}
use Rattle.bq_workload.specs.Accounts.{Accounts, beaten, changed_at, accounts_charged, runner_charged, idled, is_same, looked, occupied, of_processor, accounts_switched, taken_over}
use Rattle.bq_workload.specs.Dues.{next_multiple}
use Rattle.bq_workload.specs.TaskProgress.{fresh_task, lengthened, migrates_to, moved_to, run_for}
use Rattle.bq_workload.proofs.ListLemmas.{changed_at-here, changed_at-others, some_or_none, stood_before_change}
use Rattle.bq_workload.proofs.ProcessorAgreesLemmas.{both, charged-is, counted, since_now}
use Rattle.bq_simulate.specs.Agreement.{AgreesWith, IsOnTime, ProcessorIsOnTime, RunsOnTime, StandsAs, TaskIsOnTime, runner_at, state_at}
use Rattle.bq_simulate.specs.AgreementLaws.{RunsAlone, StaysOnTime, TasksRunAlone}
use Rattle.bq_simulate.specs.Deeds.{is_busy}
use Rattle.bq_simulate.proofs.AccountsReadLemmas.{Reads, changed_at-length, reads_charged, reads_switched}
use Rattle.bq_simulate.proofs.MeetAgreeLemmas.{current_counted, runs_away}

-- a task runs at one processor only
pub tasks_run_alone : TasksRunAlone
tasks_run_alone w a processor h other task here there = elim (cases_eq other processor) [
  | inl same ↦ same
  | inr apart ↦
      let m = h.mirrors.processors in
      let p : Processor = processor_at w processor in
      let q : Processor = processor_at w other in
      absurd (omega (
        arith,
        standing_once w task h.orderly,
        held_two task w.processors other processor apart,
        count_of-held_by task p,
        count_of-held_by task q,
        current_counted p.running.current p.running.queue task (sym (m.runs processor) ∙ here),
        current_counted q.running.current q.running.queue task (sym (m.runs other) ∙ there),
      ))
]

-- an entry that is away is that of a task
away_is_task : (o : Option TaskState) (s : LobbyEntry) → StandsAs o s → is_away s ≡ true → is_some o ≡ true
away_is_task None Absent h away = cc
away_is_task None (Sleeping t) h away = cc
away_is_task None Away h away = cc
away_is_task (Some x) s h away = refl

-- a task that runs is one of the accounts
pub runner_low : (w : World) (a : Accounts) (processor task : ℕ)
    → AgreesWith w a → runner_at a.by_processor processor ≡ Some task → task < length a.by_task
runner_low w a processor task h runs =
    let away = runs_away w processor task h.orderly (sym (h.mirrors.processors.runs processor) ∙ runs) in
    let some = away_is_task (state_at a.by_task task) (entry_of_id w task) (h.mirrors.tasks task) away in
    elim (some_or_none (slice_get a.by_task task)) [
      | inl none ↦
          absurd (let no : is_some (state_at a.by_task task) ≡ false =
          ap (λ (o : Option TaskProgress). is_some (option_map_or (λ (x : TaskProgress). Some x.task_state) o None)) none in
          cc)
      | inr (c, at) ↦ slice_get_within a.by_task task c at
    ]

-- one of some tasks, or none
pub task_there : (cs : List TaskProgress) (task : ℕ) → task < length cs → (c : TaskProgress) × (slice_get cs task ≡ Some c)
task_there cs task low = let none : TaskProgress = fresh_task 0 0 0 in (get_or cs task none, slice_get-get_or cs task none low)

-- the next multiple is not past
multiple_later : (between now : ℕ) → 1 ≤ between → now ≤ next_multiple between now
multiple_later between now some = omega (arith, add-mul (now / between) 1 between, div-add-mod' now between, mod_below now between some)

-- Tasks

-- one task's progress changes, and its next is on time
pub tasks_changed : (now : ℕ) (f : TaskProgress → TaskProgress) (cs : List TaskProgress) (n : ℕ)
    → ((c : TaskProgress) → slice_get cs n ≡ Some c → TaskIsOnTime now (f c))
    → ((k : ℕ) (c : TaskProgress) → slice_get cs k ≡ Some c → TaskIsOnTime now c)
    → (k : ℕ) (c : TaskProgress) → slice_get (changed_at f cs n) k ≡ Some c
    → TaskIsOnTime now c
tasks_changed now f cs n here h k c at = elim (cases_eq k n) [
  | inr apart ↦ h k c (sym (changed_at-others f cs n k apart) ∙ at)
  | inl same ↦
      let was = stood_before_change f cs n k c at in
      elim was.2 [
        | inl is ↦ subst (λ (x : TaskProgress). TaskIsOnTime now x) (sym is) (h k was.0 was.1)
        | inr is ↦ subst (λ (x : TaskProgress). TaskIsOnTime now x) (sym is) (here was.0 (ap (slice_get cs) (sym same) ∙ was.1))
      ]
]

-- Processors

-- a processor that has not changed, and whose task has not
pub carried : (now : ℕ) (cs ds : List TaskProgress) (l : ProcessorState)
    → ((task : ℕ) → l.run ≡ Some task → slice_get ds task ≡ slice_get cs task) → ProcessorIsOnTime now cs l
    → ProcessorIsOnTime now ds l
carried now cs ds l same p = record {
  since = p.since;
  looks = p.looks;
  runs = λ task runs.
      let r : RunsOnTime now cs l task = p.runs task runs in
      record { progress = r.progress; there = same task runs ∙ r.there; phase = r.phase; next = r.next; tick = r.tick; later = r.later };
  rests = p.rests;
}

-- one processor changes, and its next state is on time
pub processors_changed : (now : ℕ) (cs ds : List TaskProgress) (ls : List ProcessorState)
    (f : ProcessorState → ProcessorState) (n : ℕ)
    → ((k task : ℕ) (l : ProcessorState) → k ≢ n → slice_get ls k ≡ Some l → l.run ≡ Some task → slice_get ds task ≡ slice_get cs task)
    → ((l : ProcessorState) → slice_get ls n ≡ Some l → ProcessorIsOnTime now ds (f l))
    → ((k : ℕ) (l : ProcessorState) → slice_get ls k ≡ Some l → ProcessorIsOnTime now cs l)
    → (k : ℕ) (l : ProcessorState) → slice_get (changed_at f ls n) k ≡ Some l
    → ProcessorIsOnTime now ds l
processors_changed now cs ds ls f n others here h k l at = elim (cases_eq k n) [
  | inr apart ↦
      let was : slice_get ls k ≡ Some l = sym (changed_at-others f ls n k apart) ∙ at in
      carried now cs ds l (λ task runs. others k task l apart was runs) (h k l was)
  | inl same ↦
      let there : slice_get (changed_at f ls n) n ≡ Some l = ap (slice_get (changed_at f ls n)) (sym same) ∙ at in
      elim (some_or_none (slice_get ls n)) [
        | inl none ↦ let was = stood_before_change f ls n n l there in absurd (none-some was.0 (sym none ∙ was.1))
        | inr (x, is) ↦
            subst (λ (y : ProcessorState). ProcessorIsOnTime now ds y)
            (same_Some (f x) l (sym (changed_at-here f ls n x is) ∙ there)) (here x is)
      ]
]

-- what runs at a processor
pub run_of : (a : Accounts) (processor : ℕ) (l : ProcessorState)
    → slice_get a.by_processor processor ≡ Some l → runner_at a.by_processor processor ≡ l.run
run_of a processor l at = ap (λ (o : Option ProcessorState). option_map_or (λ (x : ProcessorState). x.run) o None) at

-- The time of a processor is counted

-- it is counted until now, and nothing is past
pub charged_on_time : (now processor : ℕ) (a : Accounts) (l : ProcessorState)
    → slice_get a.by_processor processor ≡ Some l → RunsAlone a processor → IsOnTime now a
    → IsOnTime now (accounts_charged processor now a)
charged_on_time now processor a l at alone h =
    let ls = a.by_processor in
    let cs = a.by_task in
    let p : ProcessorIsOnTime now cs l = h.processors processor l at in
    let ran : ℕ = now - l.since in
    let whole : IsOnTime now (both (counted l now cs) (changed_at (since_now now) ls processor)) = elim (some_or_none l.run) [
      | inl none ↦
          let same : counted l now cs ≡ cs = ap (λ (o : Option ℕ). option_map_or (λ task. changed_at (run_for ran) cs task) o cs) none in
          subst (λ (ds : List TaskProgress). IsOnTime now (both ds (changed_at (since_now now) ls processor))) (sym same)
          (record {
            tasks = h.tasks;
            processors =
                processors_changed now cs cs ls (since_now now) processor (λ k task x apart there runs. refl)
                (λ x there.
                let is : l ≡ x = same_Some l x (sym at ∙ there) in
                subst (λ (y : ProcessorState). ProcessorIsOnTime now cs (since_now now y)) is (record {
                  since = omega arith;
                  looks = p.looks;
                  runs = λ task runs. absurd (none-some task (sym none ∙ runs));
                  rests = p.rests;
                })) h.processors;
          })
      | inr (task, runs) ↦
          let same : counted l now cs ≡ changed_at (run_for ran) cs task =
          ap (λ (o : Option ℕ). option_map_or (λ k. changed_at (run_for ran) cs k) o cs) runs in
          let r : RunsOnTime now cs l task = p.runs task runs in
          let c : TaskProgress = r.progress in
          let ds : List TaskProgress = changed_at (run_for ran) cs task in
          let new : slice_get ds task ≡ Some (run_for ran c) = changed_at-here (run_for ran) cs task c r.there in
          subst (λ (es : List TaskProgress). IsOnTime now (both es (changed_at (since_now now) ls processor))) (sym same)
          (record {
            tasks =
                tasks_changed now (run_for ran) cs task
                (λ k is.
                subst (λ (y : TaskProgress). TaskIsOnTime now (run_for ran y)) (same_Some c k (sym r.there ∙ is))
                (record { phase = r.phase; timer = (h.tasks task c r.there).timer })) h.tasks;
            processors =
                processors_changed now cs ds ls (since_now now) processor
                (λ k other x apart there mine.
                changed_at-others (run_for ran) cs task other
                (λ e. apart (alone k task (run_of a processor l at ∙ runs) (run_of a k x there ∙ mine ∙ ap (λ (i : ℕ). Some i) e))))
                (λ x there.
                let is : l ≡ x = same_Some l x (sym at ∙ there) in
                subst (λ (y : ProcessorState). ProcessorIsOnTime now ds (since_now now y)) is (record {
                  since = omega arith;
                  looks = p.looks;
                  runs = λ other mine.
                      subst (λ (i : ℕ). RunsOnTime now ds (since_now now l) i) (same_Some task other (sym runs ∙ mine)) (record {
                        progress = run_for ran c;
                        there = new;
                        phase = omega (arith, r.phase);
                        next = r.next;
                        tick = r.tick;
                        later = r.later;
                      });
                  rests = p.rests;
                })) h.processors;
          })
    ] in
    subst (λ (x : Accounts). IsOnTime now x) (sym (charged-is processor now l a at)) whole

-- Another task runs

-- the next look of a processor that falls idle is not past
idle_look : (now time : ℕ) (look : Option ℕ) → option_map (λ _. now) look ≡ Some time → now ≤ time
idle_look now time None h = cc
idle_look now time (Some x) h = let same : now ≡ time = cc in omega (arith, same)

-- a task that moves to a processor still has got no more than its phase takes, if it had before
moved_phase : (processor cost : ℕ) (c : TaskProgress) → c.got ≤ c.due → (moved_to processor cost c).got ≤ (moved_to processor cost c).due
moved_phase processor cost c h =
    elim (migrates_to processor c && nat_le c.got c.due)
    as (λ b. c.got ≤ (if b then lengthened cost c.due else c.due)) [ true ↦ omega arith | false ↦ h ]

-- the next tick of a processor at which a task begins to run is not past
next_tick_later : (periods : Periods) (now : ℕ) (cs : List TaskProgress) (l : ProcessorState)
    → 1 ≤ periods.tick → ProcessorIsOnTime now cs l → now ≤ unwrap_or l.tick (next_multiple periods.tick now)
next_tick_later periods now cs l some p = elim (some_or_none l.run) [
  | inl none ↦
      subst (λ (o : Option ℕ). now ≤ unwrap_or o (next_multiple periods.tick now)) (sym (p.rests none))
      (multiple_later periods.tick now some)
  | inr (task, runs) ↦
      let r : RunsOnTime now cs l task = p.runs task runs in
      subst (λ (o : Option ℕ). now ≤ unwrap_or o (next_multiple periods.tick now)) (sym r.tick) r.later
]

-- nothing is past once another task, which ran nowhere else, runs at a processor, or none does
taken_over_on_time : (periods : Periods) (now processor : ℕ) (run : Option ℕ) (a : Accounts)
    → 1 ≤ periods.tick → ((task : ℕ) → run ≡ Some task → task < length a.by_task)
    → ((task k : ℕ) → run ≡ Some task → k ≢ processor → runner_at a.by_processor k ≢ Some task) → IsOnTime now a
    → IsOnTime now (taken_over processor run now periods a)
taken_over_on_time periods now processor None a some low apart h = record {
  tasks = h.tasks;
  processors = processors_changed now a.by_task a.by_task a.by_processor (idled now) processor (λ k task x other there runs. refl)
      (λ l there. let p : ProcessorIsOnTime now a.by_task l = h.processors processor l there in record {
        since = p.since;
        looks = λ time is. idle_look now time l.look is;
        runs = λ task runs. absurd (none-some task runs);
        rests = λ none. refl;
      })
      h.processors;
}
taken_over_on_time periods now processor (Some task) a some low apart h =
    let f : TaskProgress → TaskProgress = moved_to processor periods.migration_cost in
    let cs = a.by_task in
    let ds = changed_at f cs task in
    let t = task_there cs task (low task refl) in
    record {
      tasks =
          tasks_changed now f cs task (λ c at.
          record { phase = moved_phase processor periods.migration_cost c (h.tasks task c at).phase; timer = (h.tasks task c at).timer })
          h.tasks;
      processors =
          processors_changed now cs ds a.by_processor (occupied periods.tick task now) processor
          (λ k other x away there runs.
          changed_at-others f cs task other (λ e. apart task k refl away (run_of a k x there ∙ runs ∙ ap (λ (i : ℕ). Some i) e)))
          (λ l there.
          let p : ProcessorIsOnTime now cs l = h.processors processor l there in
          record {
            since = omega arith;
            looks = p.looks;
            runs = λ other mine.
                subst (λ (i : ℕ). RunsOnTime now ds (occupied periods.tick task now l) i) (same_Some task other mine) (record {
                  progress = f t.0;
                  there = changed_at-here f cs task t.0 t.1;
                  phase = omega (arith, moved_phase processor periods.migration_cost t.0 (h.tasks task t.0 t.1).phase);
                  next = unwrap_or l.tick (next_multiple periods.tick now);
                  tick = refl;
                  later = next_tick_later periods now cs l some p;
                });
            rests = λ none. absurd (none-some task (sym none));
          }) h.processors;
    }

-- where the time of a processor is counted there are as many tasks
pub charged_tasks : (processor now : ℕ) (a : Accounts) → length (accounts_charged processor now a).by_task ≡ length a.by_task
charged_tasks processor now a =
    let by : (l : ProcessorState) → length (runner_charged l now a).by_task ≡ length a.by_task = λ l.
    elim l.run as (λ (o : Option ℕ). length (runner_charged (record l { run = o }) now a).by_task ≡ length a.by_task)
    [ None ↦ refl | Some task ↦ changed_at-length (run_for (now - l.since)) a.by_task task ] in
    elim (slice_get a.by_processor processor) as (λ (o : Option ProcessorState).
    length
    (option_map_or (λ (l : ProcessorState). of_processor (λ x. record x { since = now }) processor (runner_charged l now a)) o a).by_task
    ≡ length a.by_task) [ None ↦ refl | Some l ↦ by l ]

-- where another task runs there are as many tasks
pub taken_over_tasks : (processor : ℕ) (run : Option ℕ) (now : ℕ) (periods : Periods) (a : Accounts)
    → length (taken_over processor run now periods a).by_task ≡ length a.by_task
taken_over_tasks processor None now periods a = refl
taken_over_tasks processor (Some task) now periods a = changed_at-length (moved_to processor periods.migration_cost) a.by_task task

-- time is kept whether the same task runs on or another takes over
switched_by_test : (b : Bool) (periods : Periods) (now processor : ℕ) (run : Option ℕ) (v : World) (a : Accounts)
    (l : ProcessorState)
    → 1 ≤ periods.tick → slice_get a.by_processor processor ≡ Some l → RunsAlone a processor
    → (let over = taken_over processor run now periods (accounts_charged processor now a) in
    AgreesWith v (if b then a else over) → Reads processor run l.size a (if b then a else over) →
    IsOnTime now a → IsOnTime now (if b then a else over))
switched_by_test true periods now processor run v a l some at alone agrees reads h = h
switched_by_test false periods now processor run v a l some at alone agrees reads h =
    let mid : Accounts = accounts_charged processor now a in
    let over : Accounts = taken_over processor run now periods mid in
    let counted_reads = reads_charged processor now a l at in
    let whole : AgreesWith v over = agrees in
    let is : Reads processor run l.size a over = reads in
    taken_over_on_time periods now processor run mid some
    (λ task runs.
    omega (arith, runner_low v over processor task whole (is.run_here ∙ runs), taken_over_tasks processor run now periods mid))
    (λ task k runs away there.
    away (tasks_run_alone v over processor whole k task (is.run_here ∙ runs) (is.runs k away ∙ sym (counted_reads.runs k away) ∙ there)))
    (charged_on_time now processor a l at alone h)

-- time is kept where another task runs, as an answer says
pub switched_kept : (periods : Periods) (now processor : ℕ) (run : Option ℕ) (v : World) (a : Accounts) (l : ProcessorState)
    → 1 ≤ periods.tick → slice_get a.by_processor processor ≡ Some l → RunsAlone a processor
    → AgreesWith v (accounts_switched processor run now periods a) → IsOnTime now a
    → IsOnTime now (accounts_switched processor run now periods a)
switched_kept periods now processor run v a l some at alone agrees h =
    let over : Accounts = taken_over processor run now periods (accounts_charged processor now a) in
    let form : Accounts = if is_same l.run run then a else over in
    let is : accounts_switched processor run now periods a ≡ form =
    ap (λ (o : Option ProcessorState). option_map_or (λ (x : ProcessorState). if is_same x.run run then a else over) o a)
    at in
    subst (λ (x : Accounts). IsOnTime now x) (sym is)
    (switched_by_test (is_same l.run run) periods now processor run v a l some at alone
    (subst (λ (x : Accounts). AgreesWith v x) is agrees)
    (subst (λ (x : Accounts). Reads processor run l.size a x) is (reads_switched processor run now periods a l at)) h)

-- a processor that runs something
busy_runs : (a : Accounts) (processor : ℕ) (l : ProcessorState)
    → slice_get a.by_processor processor ≡ Some l → is_busy a processor ≡ true → is_some l.run ≡ true
busy_runs a processor l at busy =
    sym (ap (λ (o : Option ProcessorState). option_map_or (λ (x : ProcessorState). is_some x.run) o false) at) ∙ busy

-- what is something is not nothing
some_not_none : (o : Option ℕ) → is_some o ≡ true → o ≡ None → ⊥
some_not_none None h none = cc
some_not_none (Some x) h none = cc

-- accounts stay on time as the clock of a busy processor beats
pub beaten_kept : (now processor tick : ℕ) (a : Accounts) → 1 ≤ tick → is_busy a processor ≡ true → IsOnTime now a
    → IsOnTime now (beaten processor now tick a)
beaten_kept now processor tick a some busy h =
    let f : ProcessorState → ProcessorState = λ l. record l { tick = Some (next_multiple tick now) } in
    record {
      tasks = h.tasks;
      processors =
          processors_changed now a.by_task a.by_task a.by_processor f processor (λ k task x apart there runs. refl)
          (λ l there.
          let p : ProcessorIsOnTime now a.by_task l = h.processors processor l there in
          record {
            since = p.since;
            looks = p.looks;
            runs = λ task runs.
                let r : RunsOnTime now a.by_task l task = p.runs task runs in
                record {
                  progress = r.progress;
                  there = r.there;
                  phase = r.phase;
                  next = next_multiple tick now;
                  tick = refl;
                  later = multiple_later tick now some;
                };
            rests = λ none. absurd (some_not_none l.run (busy_runs a processor l there busy) none);
          }) h.processors;
    }

-- a processor looks for a task
pub looked_kept : (now processor balance : ℕ) (a : Accounts) → 1 ≤ balance → IsOnTime now a → IsOnTime now (looked processor now balance a)
looked_kept now processor balance a some h =
    let f : ProcessorState → ProcessorState = λ l. record l { look = Some (next_multiple balance now) } in
    record {
      tasks = h.tasks;
      processors =
          processors_changed now a.by_task a.by_task a.by_processor f processor (λ k task x apart there runs. refl)
          (λ l there.
          let p : ProcessorIsOnTime now a.by_task l = h.processors processor l there in
          record {
            since = p.since;
            looks = λ time is. subst (λ n. now ≤ n) (same_Some (next_multiple balance now) time is) (multiple_later balance now some);
            runs = λ task runs.
                let r : RunsOnTime now a.by_task l task = p.runs task runs in
                record { progress = r.progress; there = r.there; phase = r.phase; next = r.next; tick = r.tick; later = r.later };
            rests = p.rests;
          }) h.processors;
    }

-- nothing is past after what is done at an instant
pub stays_on_time : StaysOnTime
stays_on_time = record { switched_on_time = switched_kept; beaten_on_time = beaten_kept; looked_on_time = looked_kept }
