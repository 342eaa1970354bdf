-- Whatever is done, each task stands at an action of its kind.
use Rattle.std.proofs.Common.{◌≡◌, ℕ, suc, ◌+◌, ◌-◌, ◌^◌, ◌<◌, ◌≤◌, inl, inr, Bool, true, false, List, [], ◌∷◌, ◌++◌, length, length-append, Option, Some, None, refl, sym, subst, ap, ◌∙◌, arith}
use Rattle.std.specs.Prelude.{if◌then◌else◌, min, nat_le, nat_lt, option_and_then, slice_get}
use Rattle.std.specs.Option.{option_map_or}
use Rattle.std.proofs.lemmas.Bool.{cases_eq, leb-false, ltb-true}
use Rattle.std.proofs.lemmas.Option.{none-some, same_Some}
use Rattle.bq_parts.specs.declared.event.Event.{Event}
use Rattle.bq_parts.specs.declared.event.Event.TheVariants.{Admit, BeginWake, Block, Drain, Draw, EndWake, Install, Pull, Retire, Tick}
use Rattle.bq_parts.specs.declared.reply.Reply.{Reply}
use Rattle.bq_workload.specs.declared.action.Action.{Action}
use Rattle.bq_workload.specs.declared.action.Action.TheVariants.{Run, Sleep, Wait, Wake}
use Rattle.bq_workload.specs.declared.action.Length.{Length}
use Rattle.bq_workload.specs.declared.progress.TaskProgress.{TaskProgress}
use Rattle.bq_workload.specs.declared.processor_state.ProcessorState.{ProcessorState}
use Rattle.bq_workload.specs.declared.periods.Periods.{Periods}
use Rattle.bq_workload.specs.declared.workload.TaskKind.{TaskKind}
use Rattle.bq_workload.specs.declared.workload.Workload.{Workload}
use Rattle.bq_workload.specs.Accounts.{Accounts, changed_at, accounts_charged, runner_charged, grown, idled, is_same, occupied, of_processor, of_task, accounts_passed, shrunk, accounts_switched, taken_over}
use Rattle.bq_workload.specs.Kinds.{kind_count}
use Rattle.bq_workload.specs.Soundness.{first_flaw}
use Rattle.bq_workload.specs.TaskProgress.{fresh_task, moved_to, run_for, progress_woken}
use Rattle.bq_workload.proofs.ListLemmas.{appended, appended_others, changed_at-here, changed_at-none, changed_at-others, some_or_none}
use Rattle.bq_simulate.specs.Actions.{IsTaskOfKind, acted, action_at, action_count, advanced_in, asked_by, next_action, kind_start, woken_one_in}
use Rattle.bq_simulate.specs.Deeds.{Acts, Beats, Book, Happens, Joins, Looks, Misses, Reaches, Rings, after_act, after_answer, after_beat, after_event, after_look, drawn_with, task_added, length_taken}
use Rattle.bq_simulate.specs.Drives.{count_entered, runs_now, task_pulled}
use Rattle.bq_simulate.specs.Kept.{StandAtActions, StandsAtAction}
use Rattle.bq_simulate.specs.KeptLaws.{StandingIsKept}
use Rattle.bq_simulate.specs.Simulations.{periods_of}
use Rattle.bq_simulate.proofs.AccountsReadLemmas.{changed_at-length}
use Rattle.bq_simulate.proofs.SoundWorkloadLemmas.{sound_count, sound_kind}

-- What a change of the accounts keeps

-- a task stands at the same action of the same kind
pub record SamePlace (c e : TaskProgress) : Type 0 where
  pub kind : e.kind ≡ c.kind
  pub action : e.action ≡ c.action
  pub woken : e.woken ≡ c.woken
  pub loops : e.loops ≡ c.loops

-- what holds of accounts whatever changes at a processor, and wherever a task stands as before
pub record IsOfPlaces (P : Accounts → Type 0) : Type 0 where
  pub processors : (f : ProcessorState → ProcessorState) (processor : ℕ) (a : Accounts) → P a → P (of_processor f processor a)
  pub tasks : (f : TaskProgress → TaskProgress) → ((c : TaskProgress) → SamePlace c (f c)) → (task : ℕ) (a : Accounts) → P a
      → P (of_task f task a)

-- it holds still once the time of the task that runs is counted
charged_by_keeps : (P : Accounts → Type 0) → IsOfPlaces P → (l : ProcessorState) (now : ℕ) (a : Accounts) → P a → P (runner_charged l now a)
charged_by_keeps P of l now a h =
    elim l.run as (λ (o : Option ℕ). P (runner_charged (record l { run = o }) now a)) [
      | None ↦ h
      | Some task ↦ of.tasks (run_for (now - l.since)) (λ c. record { kind = refl; action = refl; woken = refl; loops = refl }) task a h
    ]

-- the time of a processor is counted
pub charged_keeps : (P : Accounts → Type 0) → IsOfPlaces P → (processor now : ℕ) (a : Accounts) → P a → P (accounts_charged processor now a)
charged_keeps P of processor now a h =
    elim (slice_get a.by_processor processor) as (λ (o : Option ProcessorState).
    P (option_map_or (λ (l : ProcessorState). of_processor (λ x. record x { since = now }) processor (runner_charged l now a)) o a)) [
      | None ↦ h
      | Some l ↦ of.processors (λ x. record x { since = now }) processor (runner_charged l now a) (charged_by_keeps P of l now a h)
    ]

-- it holds still once another task runs, or none, and after a switch:
taken_over_keeps : (P : Accounts → Type 0) → IsOfPlaces P
    → (processor : ℕ) (run : Option ℕ) (now : ℕ) (periods : Periods) (a : Accounts) → P a
    → P (taken_over processor run now periods a)
taken_over_keeps P of processor None now periods a h = of.processors (idled now) processor a h
taken_over_keeps P of processor (Some task) now periods a h =
    of.tasks (moved_to processor periods.migration_cost)
    (λ c. record { kind = refl; action = refl; woken = refl; loops = refl }) task
    (of_processor (occupied periods.tick task now) processor a) (of.processors (occupied periods.tick task now) processor a h)

either_keeps : (P : Accounts → Type 0) (b : Bool) (a over : Accounts) → P a → P over → P (if b then a else over)
either_keeps P true a over h k = h
either_keeps P false a over h k = k

switched_keeps : (P : Accounts → Type 0) → IsOfPlaces P
    → (processor : ℕ) (run : Option ℕ) (now : ℕ) (periods : Periods) (a : Accounts) → P a
    → P (accounts_switched processor run now periods a)
switched_keeps P of processor run now periods a h =
    let over : Accounts = taken_over processor run now periods (accounts_charged processor now a) in
    elim (slice_get a.by_processor processor)
    as (λ (o : Option ProcessorState). P (option_map_or (λ (l : ProcessorState). if is_same l.run run then a else over) o a)) [
      | None ↦ h
      | Some l ↦
          either_keeps P (is_same l.run run) a over h
          (taken_over_keeps P of processor run now periods (accounts_charged processor now a) (charged_keeps P of processor now a h))
    ]

-- it holds still where a processor has a task less, has more, or passes one to another:
shrunk_keeps : (P : Accounts → Type 0) → IsOfPlaces P → (processor : ℕ) (a : Accounts) → P a → P (shrunk processor a)
shrunk_keeps P of processor a h = of.processors (λ l. record l { size = l.size - 1 }) processor a h

grown_keeps : (P : Accounts → Type 0) → IsOfPlaces P → (processor count : ℕ) (a : Accounts) → P a → P (grown processor count a)
grown_keeps P of processor count a h = of.processors (λ l. record l { size = l.size + count }) processor a h

passed_keeps : (P : Accounts → Type 0) → IsOfPlaces P → (from to : ℕ) (task : Option ℕ) (a : Accounts) → P a
    → P (option_map_or (λ _. accounts_passed from to a) task a)
passed_keeps P of from to None a h = h
passed_keeps P of from to (Some task) a h = grown_keeps P of to 1 (shrunk from a) (shrunk_keeps P of from a h)

-- it holds still after each event
pub event_keeps : (P : Accounts → Type 0) → IsOfPlaces P
    → (periods : Periods) (event : Event) (reply : Reply) (a : Accounts) → P a
    → P (after_event periods event reply a)
event_keeps P of periods (Admit task nice mask slice) reply a h = h
event_keeps P of periods (Retire task) reply a h = h
event_keeps P of periods Draw reply a h = h
event_keeps P of periods (Install processor hook generation policy) reply a h = h
event_keeps P of periods (BeginWake processor task) reply a h =
    of.tasks progress_woken (λ c. record { kind = refl; action = refl; woken = refl; loops = refl }) task a h
event_keeps P of periods (EndWake processor now) reply a h = h
event_keeps P of periods (Drain processor now) reply a h =
    switched_keeps P of processor (runs_now reply) now periods (grown processor (count_entered reply) a)
    (grown_keeps P of processor (count_entered reply) a h)
event_keeps P of periods (Tick processor now) reply a h = switched_keeps P of processor (runs_now reply) now periods a h
event_keeps P of periods (Block processor now) reply a h =
    switched_keeps P of processor (runs_now reply) now periods (shrunk processor a) (shrunk_keeps P of processor a h)
event_keeps P of periods (Pull processor from now) reply a h =
    switched_keeps P of processor (runs_now reply) now periods (option_map_or (λ _. accounts_passed from processor a) (task_pulled reply) a)
    (passed_keeps P of from processor (task_pulled reply) a h)

-- How tasks stand

-- each task of a list stands at an action
abbrev pub AllStand : List TaskKind → List TaskProgress → Type 0
AllStand kinds cs = (task : ℕ) (c : TaskProgress) → slice_get cs task ≡ Some c → StandsAtAction kinds task c

-- a task that stands as before
stands_still : (kinds : List TaskKind) (task : ℕ) (c e : TaskProgress)
    → SamePlace c e → StandsAtAction kinds task c → StandsAtAction kinds task e
stands_still kinds task c e same h = record {
  of_kind = subst (λ n. IsTaskOfKind kinds task n) (sym same.kind) h.of_kind;
  action =
      subst (λ n. n < action_count kinds e) (sym same.action)
      (subst (λ n. c.action < option_map_or (λ (kind : TaskKind). length kind.actions.items) (slice_get kinds n) 0)
      (sym same.kind) h.action);
  woken = λ number next. subst (λ n. n < kind_count kinds number) (sym same.woken) (h.woken number (sym (next_of same) ∙ next));
}
  where
    at : Option TaskKind → ℕ → ℕ → Option Action
    at o loops action =
        option_and_then (λ (kind : TaskKind). if is_same kind.loops (Some loops) then None else slice_get kind.actions.items action) o

    next_of : SamePlace c e → next_action kinds e ≡ next_action kinds c
    next_of s =
        ap (λ n. at (slice_get kinds n) e.loops e.action) s.kind
        ∙ ap (λ n. at (slice_get kinds c.kind) n e.action) s.loops
        ∙ ap (λ n. at (slice_get kinds c.kind) c.loops n) s.action

-- one of the tasks has come further
stand_changed : (kinds : List TaskKind) (f : TaskProgress → TaskProgress) (cs : List TaskProgress) (n : ℕ)
    → ((c : TaskProgress) → slice_get cs n ≡ Some c → StandsAtAction kinds n c → StandsAtAction kinds n (f c))
    → AllStand kinds cs
    → AllStand kinds (changed_at f cs n)
stand_changed kinds f cs n keeps h task c at = elim (cases_eq task n) [
  | inr other ↦ h task c (sym (changed_at-others f cs n task other) ∙ at)
  | inl here ↦ elim (some_or_none (slice_get cs n)) [
    | inl none ↦ h task c (sym (ap (λ (ys : List TaskProgress). slice_get ys task) (changed_at-none f cs n none)) ∙ at)
    | inr (x, is) ↦
        let new : slice_get (changed_at f cs n) task ≡ Some (f x) = ap (slice_get (changed_at f cs n)) here ∙ changed_at-here f cs n x is in
        let same : f x ≡ c = same_Some (f x) c (sym new ∙ at) in
        subst (λ (y : TaskProgress). StandsAtAction kinds task y) same
        (subst (λ k. StandsAtAction kinds k (f x)) (sym here) (keeps x is (h n x is)))
  ]
]

-- how tasks stand is of their places
pub standing_of_places : (kinds : List TaskKind) → IsOfPlaces (λ a. AllStand kinds a.by_task)
standing_of_places kinds = record {
  processors = λ f processor a h. h;
  tasks = λ f same task a h. stand_changed kinds f a.by_task task (λ c at stands. stands_still kinds task c (f c) (same c) stands) h;
}

-- how many tasks there are is of their places
pub count_of_places : (count : ℕ) → IsOfPlaces (λ a. length a.by_task ≡ count)
count_of_places count = record {
  processors = λ f processor a h. h;
  tasks = λ f same task a h. changed_at-length f a.by_task task ∙ h;
}

-- What an action leaves

-- an action that there is where a test would leave none
pub else_of : (b : Bool) (o : Option Action) (action : Action) → (if b then None else o) ≡ Some action → o ≡ Some action
else_of true o action h = absurd (none-some action h)
else_of false o action h = h

-- an action that wakes others wakes the tasks of a kind that has some
wake_counts : (w : Workload) → first_flaw w ≡ None → (c : TaskProgress) (number : ℕ)
    → next_action w.tasks.items c ≡ Some (Wake number)
    → 0 < kind_count w.tasks.items number
wake_counts w sound c number next = elim (some_or_none (slice_get w.tasks.items c.kind)) [
  | inl none ↦
      absurd (none-some (Wake number) (sym (ap (λ (o : Option TaskKind). option_and_then (λ kind. action_at kind c) o) none) ∙ next))
  | inr (kind, there) ↦
      let it : action_at kind c ≡ Some (Wake number) =
      sym (ap (λ (o : Option TaskKind). option_and_then (λ k. action_at k c) o) there) ∙ next in
      let at = else_of (is_same kind.loops (Some c.loops)) (slice_get kind.actions.items c.action) (Wake number) it in
      let some = sound_count w number sound ((sound_kind w c.kind kind sound there).wakes c.action number at) in
      omega (arith, some)
]

-- it comes to the next action, or to the first again
advanced_by_test : (w : Workload) → first_flaw w ≡ None → (task : ℕ) (c : TaskProgress) (b : Bool)
    → nat_le (action_count w.tasks.items c) (c.action + 1) ≡ b → StandsAtAction w.tasks.items task c
    → StandsAtAction w.tasks.items task
    (if b
    then record c { action = 0; woken = 0; loops = min (c.loops + 1) (2 ^ 64 - 1) }
    else record c { action = c.action + 1; woken = 0 })
advanced_by_test w sound task c true test h =
    let e : TaskProgress = record c { action = 0; woken = 0; loops = min (c.loops + 1) (2 ^ 64 - 1) } in
    record { of_kind = h.of_kind; action = omega (arith, h.action); woken = λ number next. wake_counts w sound e number next }
advanced_by_test w sound task c false test h =
    let e : TaskProgress = record c { action = c.action + 1; woken = 0 } in
    record {
      of_kind = h.of_kind;
      action = leb-false (action_count w.tasks.items c) (c.action + 1) test;
      woken = λ number next. wake_counts w sound e number next;
    }

-- a task that goes on to its next action stands at an action of its kind
advanced_stands : (w : Workload) → first_flaw w ≡ None → (task : ℕ) (c : TaskProgress) → StandsAtAction w.tasks.items task c
    → StandsAtAction w.tasks.items task (advanced_in w.tasks.items c)
advanced_stands w sound task c h = advanced_by_test w sound task c (nat_le (action_count w.tasks.items c) (c.action + 1)) refl h

-- wakes that are equal wake the same kind
kind_woken : (m n : ℕ) → Wake m ≡ Wake n → m ≡ n
kind_woken m n h = cc

-- its wake has come to one more
woken_by_test : (w : Workload) → first_flaw w ≡ None → (task kind : ℕ) (c : TaskProgress) (b : Bool)
    → nat_lt (c.woken + 1) (kind_count w.tasks.items kind) ≡ b → next_action w.tasks.items c ≡ Some (Wake kind)
    → StandsAtAction w.tasks.items task c
    → StandsAtAction w.tasks.items task (if b then record c { woken = c.woken + 1 } else advanced_in w.tasks.items c)
woken_by_test w sound task kind c true test is h = record {
  of_kind = h.of_kind;
  action = h.action;
  woken = λ number next.
      subst (λ n. c.woken + 1 < kind_count w.tasks.items n)
      (kind_woken kind number (same_Some (Wake kind) (Wake number) (sym is ∙ next)))
      (ltb-true (c.woken + 1) (kind_count w.tasks.items kind) test);
}
woken_by_test w sound task kind c false test is h = advanced_stands w sound task c h

-- a task that does its action stands at an action of its kind
acted_stands : (w : Workload) → first_flaw w ≡ None → (action : Option Action) (task length now : ℕ) (c : TaskProgress)
    → next_action w.tasks.items c ≡ action → StandsAtAction w.tasks.items task c
    → StandsAtAction w.tasks.items task (acted w.tasks.items action length now c)
acted_stands w sound None task length now c is h =
    stands_still w.tasks.items task c (acted w.tasks.items None length now c)
    (record { kind = refl; action = refl; woken = refl; loops = refl }) h
acted_stands w sound (Some (Run asked)) task length now c is h =
    stands_still w.tasks.items task (advanced_in w.tasks.items c) (acted w.tasks.items (Some (Run asked)) length now c)
    (record { kind = refl; action = refl; woken = refl; loops = refl }) (advanced_stands w sound task c h)
acted_stands w sound (Some (Sleep asked)) task length now c is h =
    stands_still w.tasks.items task (advanced_in w.tasks.items c) (acted w.tasks.items (Some (Sleep asked)) length now c)
    (record { kind = refl; action = refl; woken = refl; loops = refl }) (advanced_stands w sound task c h)
acted_stands w sound (Some Wait) task length now c is h =
    stands_still w.tasks.items task (advanced_in w.tasks.items c) (acted w.tasks.items (Some Wait) length now c)
    (record { kind = refl; action = refl; woken = refl; loops = refl }) (advanced_stands w sound task c h)
acted_stands w sound (Some (Wake kind)) task length now c is h =
    stands_still w.tasks.items task (woken_one_in w.tasks.items kind c)
    (acted w.tasks.items (Some (Wake kind)) length now c) (record { kind = refl; action = refl; woken = refl; loops = refl })
    (woken_by_test w sound task kind c (nat_lt (c.woken + 1) (kind_count w.tasks.items kind)) refl is h)

-- Deeds

-- the streams of tasks, of which one has given a length more
drawn_length : (task : ℕ) (drawn : List ℕ) (asked : Option Length) → length (drawn_with task drawn asked) ≡ length drawn
drawn_length task drawn None = refl
drawn_length task drawn (Some asked) = changed_at-length suc drawn task

-- each task stands at an action of its kind once one has taken up its next action
act_stands : (w : Workload) → first_flaw w ≡ None → (processor task now : ℕ) (c : TaskProgress) (b : Book)
    → slice_get (accounts_charged processor now b.accounts).by_task task ≡ Some c → StandAtActions w.tasks.items b
    → StandAtActions w.tasks.items (after_act w.tasks.items w.machine.seed processor task now c b)
act_stands w sound processor task now c b there h =
    let kinds = w.tasks.items in
    let a : Accounts = accounts_charged processor now b.accounts in
    let next : Option Action = next_action kinds c in
    let new : TaskProgress = acted kinds next (length_taken w.machine.seed task b.drawn (asked_by next)) now c in
    let stand : AllStand kinds a.by_task =
    charged_keeps (λ x. AllStand kinds x.by_task) (standing_of_places kinds) processor now b.accounts h.tasks in
    let long : length a.by_task ≡ length b.accounts.by_task =
    charged_keeps (λ x. length x.by_task ≡ length b.accounts.by_task) (count_of_places (length b.accounts.by_task)) processor
    now b.accounts refl in
    record {
      tasks =
          stand_changed kinds (λ _. new) a.by_task task
          (λ x at stands. acted_stands w sound next task _ now c refl (stand task c there)) stand;
      streams = drawn_length task b.drawn (asked_by next) ∙ h.streams ∙ sym (changed_at-length (λ _. new) a.by_task task ∙ long);
    }

-- each task stands at an action of its kind once one more is there
join_stands : (w : Workload) → first_flaw w ≡ None → (kind home : ℕ) (b : Book)
    → IsTaskOfKind w.tasks.items (length b.accounts.by_task) kind → StandAtActions w.tasks.items b
    → StandAtActions w.tasks.items (task_added w.tasks.items kind home b)
join_stands w sound kind home b of h =
    let kinds = w.tasks.items in
    let cs : List TaskProgress = b.accounts.by_task in
    let new : TaskProgress = fresh_task kind home (kind_start kinds kind) in
    let some : 1 ≤ action_count kinds new =
    subst (λ (o : Option TaskKind). 1 ≤ option_map_or (λ (k : TaskKind). length k.actions.items) o 0) (sym of.there)
    (sound_kind w kind of.kind sound of.there).actions in
    let stands : StandsAtAction kinds (length cs) new =
    record { of_kind = of; action = omega (arith, some); woken = λ number next. wake_counts w sound new number next } in
    record {
      tasks = λ task c at. elim (cases_eq task (length cs)) [
        | inr apart ↦ h.tasks task c (sym (appended_others cs new task apart) ∙ at)
        | inl here ↦
            let same : new ≡ c = same_Some new c (sym (appended cs new) ∙ ap (slice_get (cs ++ new ∷ [])) (sym here) ∙ at) in
            subst (λ (y : TaskProgress). StandsAtAction kinds task y) same (subst (λ n. StandsAtAction kinds n new) (sym here) stands)
      ];
      streams = omega (arith, length-append b.drawn (0 ∷ []), length-append cs (new ∷ []), h.streams);
    }

-- an event leaves each task where it stood
event_stands : (kinds : List TaskKind) (periods : Periods) (event : Event) (reply : Reply) (b : Book)
    → StandAtActions kinds b → StandAtActions kinds (after_answer periods event reply b)
event_stands kinds periods event reply b h = record {
  tasks = event_keeps (λ x. AllStand kinds x.by_task) (standing_of_places kinds) periods event reply b.accounts h.tasks;
  streams =
      h.streams ∙ sym (event_keeps (λ x. length x.by_task ≡ length b.accounts.by_task)
      (count_of_places (length b.accounts.by_task)) periods event reply b.accounts refl);
}

-- whatever is done each task stands at an action
pub standing_is_kept : StandingIsKept
standing_is_kept w d e b c [] reported sound (none, same, kept) h = subst (λ (x : Book). StandAtActions w.tasks.items x) (sym kept) h
standing_is_kept w d e b c (Happens event reply ∷ deeds) reported sound (due, mid, first, rest, does, leads, whole) h =
    standing_is_kept w mid e (after_answer (periods_of w.machine) event reply b) c deeds rest sound leads
    (event_stands w.tasks.items (periods_of w.machine) event reply b h)
standing_is_kept w d e b c (Joins kind home ∷ deeds) reported sound (of, leads) h =
    standing_is_kept w d e (task_added w.tasks.items kind home b) c deeds reported sound leads
    (join_stands w sound kind home b of h)
standing_is_kept w d e b c (Acts at task now action aim ∷ deeds) reported sound (k, done, is, to, leads) h =
    standing_is_kept w d e (after_act w.tasks.items w.machine.seed at task now k b) c deeds reported sound leads
    (act_stands w sound at task now k b done.there h)
standing_is_kept w d e b c (Rings task now ∷ deeds) reported sound (k, there, asleep, timer, leads) h =
    standing_is_kept w d e b c deeds reported sound leads h
standing_is_kept w d e b c (Reaches task ∷ deeds) reported sound (k, there, waits, leads) h =
    standing_is_kept w d e b c deeds reported sound leads h
standing_is_kept w d e b c (Misses task ∷ deeds) reported sound (k, there, waits, leads) h =
    standing_is_kept w d e b c deeds reported sound leads h
standing_is_kept w d e b c (Beats at now ∷ deeds) reported sound (ticks, busy, leads) h =
    standing_is_kept w d e (after_beat (periods_of w.machine) at now b) c deeds reported sound leads
    (record { tasks = h.tasks; streams = h.streams })
standing_is_kept w d e b c (Looks at now source ∷ deeds) reported sound (looks, from, leads) h =
    standing_is_kept w d e (after_look (periods_of w.machine) at now b) c deeds reported sound leads
    (record { tasks = h.tasks; streams = h.streams })
