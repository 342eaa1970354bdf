-- Nothing is past after a thing that is met.
use Rattle.std.proofs.Common.{◌≡◌, ◌≢◌, ℕ, ◌+◌, ◌-◌, ◌≤◌, inl, inr, false, List, [], ◌∷◌, length, Option, Some, None, refl, sym, subst, ap, ◌∙◌, arith}
use Rattle.std.specs.Prelude.{if◌then◌else◌, slice_get}
use Rattle.std.specs.Option.{option_map_or}
use Rattle.std.proofs.lemmas.Bool.{cases_eq, true≢false}
use Rattle.std.proofs.lemmas.Option.{none-some, same_Some}
use Rattle.bq_parts.specs.declared.event.Event.TheVariants.{Block, Pull, Tick}
use Rattle.bq_parts.specs.World.{World, entry_of_id}
use Rattle.bq_trace.specs.TraceEvents.{Reported}
use Rattle.bq_workload.specs.declared.action.Action.{Action}
use Rattle.bq_workload.specs.declared.action.Action.TheVariants.{Run, Sleep, Wait, Wake}
use Rattle.bq_workload.specs.declared.due.Due.TheVariants as due
use Rattle.bq_workload.specs.declared.progress.TaskProgress.{TaskProgress}
use Rattle.bq_workload.specs.declared.progress.TaskState.TheVariants.{Asleep}
use Rattle.bq_workload.specs.declared.processor_state.ProcessorState.{ProcessorState}
use Rattle.bq_workload.specs.declared.periods.Periods.{Periods}
use Rattle.bq_workload.specs.declared.workload.TaskKind.{TaskKind}
use Rattle.bq_workload.specs.Accounts.{Accounts, IsPhaseDone, changed_at, accounts_charged, runner_charged, grown, is_same, of_processor, of_task, accounts_passed, shrunk, accounts_switched, taken_over}
use Rattle.bq_workload.specs.Dues.{next_multiple}
use Rattle.bq_workload.specs.TaskProgress.{progress_woken}
use Rattle.bq_workload.proofs.ListLemmas.{changed_at-here, changed_at-others, some_or_none}
use Rattle.bq_simulate.specs.declared.driver.Driver.{Driver}
use Rattle.bq_simulate.specs.Actions.{acted, action_count, asked_by, next_action}
use Rattle.bq_simulate.specs.Agreement.{AgreesWith, IsOnTime, ProcessorIsOnTime, RunsOnTime, StandsAs, can_run, runner_at}
use Rattle.bq_simulate.specs.AgreementLaws.{BookAgrees, MeetingsAreOnTime, RunsAlone}
use Rattle.bq_simulate.specs.Deeds.{Book, Deed, Happens, DeedsLead, after_act, after_beat, after_look, length_taken}
use Rattle.bq_simulate.specs.Drives.{count_entered, runs_now, task_pulled}
use Rattle.bq_simulate.specs.Steps.{AreJustEvents, AreWake, FollowsAction, DeedsMeet, WakesTask, pulls_of}
use Rattle.bq_simulate.proofs.AccountsReadLemmas.{charged_there, read_kept}
use Rattle.bq_simulate.proofs.MeetAgreeLemmas.{advanced_state, agrees_charged, agrees_further, agrees_processor, meetings_agree, runs_away, sleeps_if_woken, woken_one_home, woken_one_state, world_of}
use Rattle.bq_simulate.proofs.StaysOnTimeLemmas.{beaten_kept, carried, charged_on_time, looked_kept, processors_changed, run_of, switched_kept, tasks_changed, tasks_run_alone}
use Rattle.bq_disc.specs.declared.clock.TheConstants.{LATEST}

-- accounts that are equal
same_accounts : (now : ℕ) (a b : Accounts) → b ≡ a → IsOnTime now a → IsOnTime now b
same_accounts now a b is h = subst (λ (x : Accounts). IsOnTime now x) (sym is) h

-- where there is such a processor another task runs, as an answer says
switched_any : (periods : Periods) (now processor : ℕ) (run : Option ℕ) (v : World) (a : Accounts)
    → 1 ≤ periods.tick → RunsAlone a processor → AgreesWith v (accounts_switched processor run now periods a) → IsOnTime now a
    → IsOnTime now (accounts_switched processor run now periods a)
switched_any periods now processor run v a some alone agrees h =
    let over : Accounts = taken_over processor run now periods (accounts_charged processor now a) in
    elim (some_or_none (slice_get a.by_processor processor)) [
      | inl none ↦
          same_accounts now a (accounts_switched processor run now periods a)
          (ap (λ (o : Option ProcessorState). option_map_or (λ (l : ProcessorState). if is_same l.run run then a else over) o a) none) h
      | inr (l, at) ↦ switched_kept periods now processor run v a l some at alone agrees h
    ]

-- how many tasks a processor has changes no time
pub sized_on_time : (now processor : ℕ) (g : ℕ → ℕ) (a : Accounts)
    → IsOnTime now a → IsOnTime now (of_processor (λ l. record l { size = g l.size }) processor a)
sized_on_time now processor g a h =
    let f : ProcessorState → ProcessorState = λ l. record l { size = g l.size } in
    record {
      tasks = h.tasks;
      processors =
          processors_changed now a.by_task a.by_task a.by_processor f processor (λ k task x apart there runs. refl)
          (λ l there.
          let p : ProcessorIsOnTime now a.by_task l = h.processors processor l there in
          record {
            since = p.since;
            looks = p.looks;
            runs = λ task runs.
                let r : RunsOnTime now a.by_task l task = p.runs task runs in
                record { progress = r.progress; there = r.there; phase = r.phase; next = r.next; tick = r.tick; later = r.later };
            rests = p.rests;
          }) h.processors;
    }

-- how many tasks a processor has changes nothing of who runs
pub sized_alone : (at processor : ℕ) (g : ℕ → ℕ) (a : Accounts)
    → RunsAlone a processor → RunsAlone (of_processor (λ l. record l { size = g l.size }) at a) processor
sized_alone at processor g a alone other task here there =
    let f : ProcessorState → ProcessorState = λ l. record l { size = g l.size } in
    let kept : (k : ℕ) → runner_at (of_processor f at a).by_processor k ≡ runner_at a.by_processor k =
    λ k. read_kept f (λ (l : ProcessorState). l.run) None (λ l. refl) a.by_processor at k in
    alone other task (sym (kept processor) ∙ here) (sym (kept other) ∙ there)

-- Single events

-- nothing is past after a tick, if nothing was before
tick_time : (kinds : List TaskKind) (seed : ℕ) (periods : Periods) (d e : Driver) (b c : Book) (processor now : ℕ)
    (deeds : List Deed) (reported : Reported)
    → 1 ≤ periods.tick → AreJustEvents (Tick processor now ∷ []) deeds → DeedsLead kinds seed periods d b deeds reported e c → BookAgrees d b
    → BookAgrees e c → IsOnTime now b.accounts
    → IsOnTime now c.accounts
tick_time kinds seed periods d e b c processor now deeds reported some (reply, more, is, none) leads h after time =
    let whole : deeds ≡ Happens (Tick processor now) reply ∷ [] = is ∙ ap (λ l. Happens (Tick processor now) reply ∷ l) none in
    let (due, mid, first, rest, does, (nothing, same, kept), all) = subst (λ l. DeedsLead kinds seed periods d b l reported e c) whole leads in
    let a : Accounts = b.accounts in
    let its : c.accounts ≡ accounts_switched processor (runs_now reply) now periods a = ap (λ (x : Book). x.accounts) kept in
    same_accounts now (accounts_switched processor (runs_now reply) now periods a) c.accounts its
    (switched_any periods now processor (runs_now reply) (world_of e) a some (tasks_run_alone (world_of d) a processor h)
    (subst (λ (x : Accounts). AgreesWith (world_of e) x) its after) time)

-- a task that passes from one queue to another, if one does, leaves nothing past and changes nothing of who runs:
passed_on_time : (now processor from : ℕ) (task : Option ℕ) (a : Accounts)
    → IsOnTime now a → IsOnTime now (option_map_or (λ _. accounts_passed from processor a) task a)
passed_on_time now processor from None a h = h
passed_on_time now processor from (Some id) a h =
    sized_on_time now processor (λ n. n + 1) (shrunk from a) (sized_on_time now from (λ n. n - 1) a h)

passed_alone : (processor from : ℕ) (task : Option ℕ) (a : Accounts)
    → RunsAlone a processor → RunsAlone (option_map_or (λ _. accounts_passed from processor a) task a) processor
passed_alone processor from None a alone = alone
passed_alone processor from (Some id) a alone =
    sized_alone processor processor (λ n. n + 1) (shrunk from a) (sized_alone from processor (λ n. n - 1) a alone)

-- where nothing is done nothing is past, if nothing was before
nothing_time : (kinds : List TaskKind) (seed : ℕ) (periods : Periods) (d e : Driver) (b c : Book) (now : ℕ)
    (deeds : List Deed) (reported : Reported)
    → deeds ≡ [] → DeedsLead kinds seed periods d b deeds reported e c → IsOnTime now b.accounts
    → IsOnTime now c.accounts
nothing_time kinds seed periods d e b c now deeds reported none leads h =
    let (nothing, same, kept) = subst (λ l. DeedsLead kinds seed periods d b l reported e c) none leads in
    same_accounts now b.accounts c.accounts (ap (λ (x : Book). x.accounts) kept) h

-- nothing is past after a pull, or without one, if nothing was before
look_time : (source : Option ℕ) (kinds : List TaskKind) (seed : ℕ) (periods : Periods) (d e : Driver) (b c : Book)
    (processor now : ℕ) (deeds : List Deed) (reported : Reported)
    → 1 ≤ periods.tick → AreJustEvents (pulls_of processor now source) deeds → DeedsLead kinds seed periods d b deeds reported e c
    → BookAgrees d b → BookAgrees e c → IsOnTime now b.accounts
    → IsOnTime now c.accounts
look_time None kinds seed periods d e b c processor now deeds reported some none leads h after time =
    nothing_time kinds seed periods d e b c now deeds reported none leads time
look_time (Some from) kinds seed periods d e b c processor now deeds reported some (reply, more, is, none)
    leads h after time =
    let whole : deeds ≡ Happens (Pull processor from now) reply ∷ [] = is ∙ ap (λ l. Happens (Pull processor from now) reply ∷ l) none in
    let (due, mid, first, rest, does, (nothing, same, kept), all) = subst (λ l. DeedsLead kinds seed periods d b l reported e c) whole leads in
    let a : Accounts = option_map_or (λ _. accounts_passed from processor b.accounts) (task_pulled reply) b.accounts in
    let its : c.accounts ≡ accounts_switched processor (runs_now reply) now periods a = ap (λ (x : Book). x.accounts) kept in
    same_accounts now (accounts_switched processor (runs_now reply) now periods a) c.accounts its
    (switched_any periods now processor (runs_now reply) (world_of e) a some
    (passed_alone processor from (task_pulled reply) b.accounts (tasks_run_alone (world_of d) b.accounts processor h))
    (subst (λ (x : Accounts). AgreesWith (world_of e) x) its after)
    (passed_on_time now processor from (task_pulled reply) b.accounts time))

-- Wakes

-- a task that sleeps runs nowhere
pub sleeper_rests : (w : World) (a : Accounts) (task : ℕ) (c : TaskProgress)
    → AgreesWith w a → slice_get a.by_task task ≡ Some c → can_run c.task_state ≡ false
    → (k : ℕ) → runner_at a.by_processor k ≢ Some task
sleeper_rests w a task c h at sleeps k runs =
    let stands : StandsAs (Some c.task_state) (entry_of_id w task) =
    subst (λ o. StandsAs o (entry_of_id w task))
    (ap (λ (o : Option TaskProgress). option_map_or (λ (x : TaskProgress). Some x.task_state) o None) at)
    (h.mirrors.tasks task) in
    true≢false (sym (runs_away w k task h.orderly (sym (h.mirrors.processors.runs k) ∙ runs)) ∙ stands.1 ∙ sleeps)

-- a task that is woken, and ran nowhere, has no phase that is past
pub woken_on_time : (now task : ℕ) (a : Accounts) → ((k : ℕ) → runner_at a.by_processor k ≢ Some task) → IsOnTime now a
    → IsOnTime now (of_task progress_woken task a)
woken_on_time now task a rests h = record {
  tasks = tasks_changed now progress_woken a.by_task task (λ c at. record { phase = omega arith; timer = λ asleep. cc }) h.tasks;
  processors = λ k l at. carried now a.by_task (changed_at progress_woken a.by_task task) l
      (λ other runs. changed_at-others progress_woken a.by_task task other (λ e. rests k (run_of a k l at ∙ runs ∙ ap (λ (i : ℕ). Some i) e)))
      (h.processors k l at);
}

-- nothing is past after a wake, or after one that may be missed, if nothing was before:
wake_time : (kinds : List TaskKind) (seed : ℕ) (periods : Periods) (d e : Driver) (b c : Book) (from task now : ℕ)
    (deeds : List Deed) (reported : Reported)
    → 1 ≤ periods.tick → AreWake from task now deeds → DeedsLead kinds seed periods d b deeds reported e c
    → BookAgrees d b → BookAgrees e c → IsOnTime now b.accounts
    → IsOnTime now c.accounts
wake_time kinds seed periods d e b c from task now deeds reported some (begun, placed, drained, to, at, is)
    leads h after time =
    let (
      woke,
      one,
      first,
      rest,
      begins,
      (due, two, second, more, ends, (too, three, third, last, drains, (none, same, kept), whole3), whole2),
      whole,
    ) = subst (λ l. DeedsLead kinds seed periods d b l reported e c) is leads in
    let sleeps = sleeps_if_woken b.accounts woke.progress.task_state woke.progress.home from woke.place in
    let a : Accounts = of_task progress_woken task b.accounts in
    let mid : Accounts = grown to (count_entered drained) a in
    let its : c.accounts ≡ accounts_switched to (runs_now drained) now periods mid = ap (λ (x : Book). x.accounts) kept in
    let awake : IsOnTime now a =
    woken_on_time now task b.accounts (sleeper_rests (world_of d) b.accounts task woke.progress h woke.there sleeps) time in
    let alone : RunsAlone a to = λ other k here there. tasks_run_alone (world_of d) b.accounts to h other k here there in
    same_accounts now (accounts_switched to (runs_now drained) now periods mid) c.accounts its
    (switched_any periods now to (runs_now drained) (world_of e) mid some
    (sized_alone to to (λ n. n + count_entered drained) a alone) (subst (λ (x : Accounts). AgreesWith (world_of e) x) its after)
    (sized_on_time now to (λ n. n + count_entered drained) a awake))

wakes_time : (kinds : List TaskKind) (seed : ℕ) (periods : Periods) (d e : Driver) (b c : Book) (processor task now : ℕ)
    (deeds : List Deed) (reported : Reported)
    → 1 ≤ periods.tick → WakesTask task processor now deeds → DeedsLead kinds seed periods d b deeds reported e c
    → BookAgrees d b → BookAgrees e c → IsOnTime now b.accounts
    → IsOnTime now c.accounts
wakes_time kinds seed periods d e b c processor task now deeds reported some (inl is) leads h after time =
    let (k, there, waits, rest) = subst (λ l. DeedsLead kinds seed periods d b l reported e c) is leads in
    nothing_time kinds seed periods d e b c now [] reported refl rest time
wakes_time kinds seed periods d e b c processor task now deeds reported some (inr (more, is, wake)) leads h after time =
    let (k, there, waits, rest) = subst (λ l. DeedsLead kinds seed periods d b l reported e c) is leads in
    wake_time kinds seed periods d e b c processor task now more reported some wake rest h after time

-- Ends of phases

-- a task that has done its action has got nothing of its next phase yet
pub acted_got : (action : Option Action) (kinds : List TaskKind) (length now : ℕ) (c : TaskProgress)
    → (acted kinds action length now c).got ≡ 0
acted_got None kinds length now c = refl
acted_got (Some (Run asked)) kinds length now c = refl
acted_got (Some (Sleep asked)) kinds length now c = refl
acted_got (Some Wait) kinds length now c = refl
acted_got (Some (Wake kind)) kinds length now c = refl

-- a task that falls asleep by its action has a timer that is not past
acted_timer : (action : Option Action) (kinds : List TaskKind) (length now : ℕ) (c : TaskProgress)
    → now ≤ LATEST → (c.task_state ≡ Asleep → ⊥) → (acted kinds action length now c).task_state ≡ Asleep
    → now ≤ (acted kinds action length now c).timer
acted_timer None kinds length now c early runs asleep = cc
acted_timer (Some (Run asked)) kinds length now c early runs asleep = absurd (runs (sym (advanced_state (action_count kinds c) c) ∙ asleep))
acted_timer (Some (Sleep asked)) kinds length now c early runs asleep = omega arith
acted_timer (Some Wait) kinds length now c early runs asleep = cc
acted_timer (Some (Wake kind)) kinds length now c early runs asleep = absurd (runs (sym (woken_one_state kinds kind c) ∙ asleep))

-- a task that runs, and whose time is counted until now, has a phase that begins now
given_on_time : (now processor task : ℕ) (a : Accounts) (c new : TaskProgress) (l : ProcessorState)
    → slice_get a.by_processor processor ≡ Some l → l.run ≡ Some task → l.since ≡ now → slice_get a.by_task task ≡ Some c
    → new.got ≡ 0 → (new.task_state ≡ Asleep → now ≤ new.timer) → RunsAlone a processor → IsOnTime now a
    → IsOnTime now (of_task (λ _. new) task a)
given_on_time now processor task a c new l at runs since there got timer alone h =
    let cs = a.by_task in
    let f : TaskProgress → TaskProgress = λ _. new in
    let ds = changed_at f cs task in
    record {
      tasks = tasks_changed now f cs task (λ x is. record { phase = omega (arith, got); timer = timer }) h.tasks;
      processors = λ q x is. elim (cases_eq q processor) [
        | inr apart ↦
            carried now cs ds x (λ other mine.
            changed_at-others f cs task other
            (λ e. apart (alone q task (run_of a processor l at ∙ runs) (run_of a q x is ∙ mine ∙ ap (λ (i : ℕ). Some i) e))))
            (h.processors q x is)
        | inl same ↦
            let p : ProcessorIsOnTime now cs x = h.processors q x is in
            let its : l ≡ x = same_Some l x (sym at ∙ ap (slice_get a.by_processor) (sym same) ∙ is) in
            record {
              since = p.since;
              looks = p.looks;
              runs = λ other mine.
                  let r : RunsOnTime now cs x other = p.runs other mine in
                  let one : task ≡ other = same_Some task other (sym runs ∙ ap (λ (y : ProcessorState). y.run) its ∙ mine) in
                  record {
                    progress = new;
                    there = subst (λ n. slice_get ds n ≡ Some new) one (changed_at-here f cs task c there);
                    phase = omega (arith, got, since, ap (λ (y : ProcessorState). y.since) its);
                    next = r.next;
                    tick = r.tick;
                    later = r.later;
                  };
              rests = p.rests;
            }
      ];
    }

-- nothing is past after a block, if nothing was before
block_time : (kinds : List TaskKind) (seed : ℕ) (periods : Periods) (d e : Driver) (b c : Book) (processor now : ℕ)
    (deeds : List Deed) (reported : Reported)
    → 1 ≤ periods.tick → AreJustEvents (Block processor now ∷ []) deeds → DeedsLead kinds seed periods d b deeds reported e c
    → RunsAlone b.accounts processor → BookAgrees e c → IsOnTime now b.accounts
    → IsOnTime now c.accounts
block_time kinds seed periods d e b c processor now deeds reported some (reply, more, is, none) leads alone after time =
    let whole : deeds ≡ Happens (Block processor now) reply ∷ [] = is ∙ ap (λ l. Happens (Block processor now) reply ∷ l) none in
    let (due, mid, first, rest, does, (nothing, same, kept), all) = subst (λ l. DeedsLead kinds seed periods d b l reported e c) whole leads in
    let a : Accounts = shrunk processor b.accounts in
    let its : c.accounts ≡ accounts_switched processor (runs_now reply) now periods a = ap (λ (x : Book). x.accounts) kept in
    same_accounts now (accounts_switched processor (runs_now reply) now periods a) c.accounts its
    (switched_any periods now processor (runs_now reply) (world_of e) a some
    (sized_alone processor processor (λ n. n - 1) b.accounts alone) (subst (λ (x : Accounts). AgreesWith (world_of e) x) its after)
    (sized_on_time now processor (λ n. n - 1) b.accounts time))

-- nothing is past after what follows an action, if nothing was before
follow_time : (action : Option Action) (aim : Option ℕ) (kinds : List TaskKind) (seed : ℕ) (periods : Periods) (d e : Driver)
    (a : Accounts) (b f : Book) (processor task length now : ℕ) (c : TaskProgress) (deeds : List Deed) (reported : Reported)
    → 1 ≤ periods.tick → FollowsAction action aim processor now deeds
    → b.accounts ≡ of_task (λ _. acted kinds action length now c) task a → slice_get a.by_task task ≡ Some c
    → AgreesWith (world_of d) a → DeedsLead kinds seed periods d b deeds reported e f → BookAgrees e f → IsOnTime now b.accounts
    → IsOnTime now f.accounts
follow_time None aim kinds seed periods d e a b f processor task length now c deeds reported some follow is at
    h leads after time =
    block_time kinds seed periods d e b f processor now deeds reported some follow leads
    (subst (λ (x : Accounts). RunsAlone x processor) (sym is) (tasks_run_alone (world_of d) a processor h)) after time
follow_time (Some (Run asked)) aim kinds seed periods d e a b f processor task length now c deeds reported some follow is at
    h leads after time = nothing_time kinds seed periods d e b f now deeds reported follow leads time
follow_time (Some (Sleep asked)) aim kinds seed periods d e a b f processor task length now c deeds
    reported some follow is at h leads after time =
    block_time kinds seed periods d e b f processor now deeds reported some follow leads
    (subst (λ (x : Accounts). RunsAlone x processor) (sym is) (tasks_run_alone (world_of d) a processor h)) after time
follow_time (Some Wait) aim kinds seed periods d e a b f processor task length now c deeds reported some follow is at
    h leads after time =
    block_time kinds seed periods d e b f processor now deeds reported some follow leads
    (subst (λ (x : Accounts). RunsAlone x processor) (sym is) (tasks_run_alone (world_of d) a processor h)) after time
follow_time (Some (Wake kind)) None kinds seed periods d e a b f processor task length now c deeds
    reported some follow is at h leads after time = absurd follow
follow_time (Some (Wake kind)) (Some other) kinds seed periods d e a b f processor task length now c deeds
    reported some follow is at h leads after time =
    let new : TaskProgress = acted kinds (Some (Wake kind)) length now c in
    wakes_time kinds seed periods d e b f processor other now deeds reported some follow leads
    (subst (λ x. AgreesWith (world_of d) x) (sym is)
    (agrees_further (world_of d) a task c new at (woken_one_state kinds kind c) (woken_one_home kinds kind c) h)) after time

-- a task whose phase has ended takes up what it does next
pub taken_up_on_time : (action : Option Action) (kinds : List TaskKind) (w : World) (was : Accounts)
    (processor task length now : ℕ) (c : TaskProgress)
    → now ≤ LATEST → AgreesWith w was → IsPhaseDone (accounts_charged processor now was) processor task c → IsOnTime now was
    → IsOnTime now (of_task (λ _. acted kinds action length now c) task (accounts_charged processor now was))
taken_up_on_time action kinds w was processor task length now c early h done time =
    let a : Accounts = accounts_charged processor now was in
    let agrees : AgreesWith w a = agrees_charged w was processor now h in
    let runs : runner_at a.by_processor processor ≡ Some task = run_of a processor done.processor_state done.at ∙ done.runs in
    let awake : c.task_state ≡ Asleep → ⊥ = λ asleep. sleeper_rests w a task c agrees done.there (ap can_run asleep) processor runs in
    elim (some_or_none (slice_get was.by_processor processor)) [
      | inl none ↦
          let same : a ≡ was =
          ap (λ (o : Option ProcessorState).
          option_map_or (λ (l : ProcessorState). of_processor (λ x. record x { since = now }) processor (runner_charged l now was)) o was)
          none in
          absurd
          (none-some done.processor_state (sym none ∙ ap (λ (x : Accounts). slice_get x.by_processor processor) (sym same) ∙ done.at))
      | inr (l, at) ↦
          let counted : IsOnTime now a = charged_on_time now processor was l at (tasks_run_alone w was processor h) time in
          let since : done.processor_state.since ≡ now =
          ap (λ (x : ProcessorState). x.since)
          (same_Some done.processor_state (record l { since = now }) (sym done.at ∙ charged_there processor now was l at)) in
          given_on_time now processor task a c (acted kinds action length now c) done.processor_state done.at done.runs
          since done.there (acted_got action kinds length now c) (acted_timer action kinds length now c early awake)
          (tasks_run_alone w a processor agrees) counted
    ]

-- nothing is past after the end of a phase is met, if nothing was before
end_time : (kinds : List TaskKind) (seed : ℕ) (periods : Periods) (d e : Driver) (b c : Book) (processor now : ℕ)
    (deeds : List Deed) (reported : Reported)
    → 1 ≤ periods.tick → now ≤ LATEST → DeedsMeet (due.End processor) now deeds → DeedsLead kinds seed periods d b deeds reported e c
    → BookAgrees d b → BookAgrees e c → IsOnTime now b.accounts
    → IsOnTime now c.accounts
end_time kinds seed periods d e b c processor now deeds reported some early (task, action, aim, more, is, follow)
    leads h after time =
    let (k, done, its, to, rest) = subst (λ l. DeedsLead kinds seed periods d b l reported e c) is leads in
    let a : Accounts = accounts_charged processor now b.accounts in
    let next : Option Action = next_action kinds k in
    let long : ℕ = length_taken seed task b.drawn (asked_by next) in
    let given = taken_up_on_time next kinds (world_of d) b.accounts processor task long now k early h done time in
    follow_time next aim kinds seed periods d e a (after_act kinds seed processor task now k b) c processor
    task long now k more reported some (subst (λ o. FollowsAction o aim processor now more) its follow) refl done.there
    (agrees_charged (world_of d) b.accounts processor now h) rest after given

-- nothing is past after a thing that is met
pub meetings_are_on_time : MeetingsAreOnTime
meetings_are_on_time kinds seed periods d e b c (due.End processor) now deeds reported tick balance early meet leads h time =
    end_time kinds seed periods d e b c processor now deeds reported tick early meet leads h
    (meetings_agree kinds seed periods d e b c (due.End processor) now deeds reported meet leads h) time
meetings_are_on_time kinds seed periods d e b c (due.Wake task) now deeds reported tick balance early meet leads h time =
    let after : BookAgrees e c = meetings_agree kinds seed periods d e b c (due.Wake task) now deeds reported meet leads h in
    let (home, more, is, wake) = meet in
    let (k, there, asleep, timer, rest) = subst (λ l. DeedsLead kinds seed periods d b l reported e c) is leads in
    wake_time kinds seed periods d e b c home task now more reported tick wake rest h after time
meetings_are_on_time kinds seed periods d e b c (due.Tick processor) now deeds reported tick balance early meet leads h time =
    let after : BookAgrees e c = meetings_agree kinds seed periods d e b c (due.Tick processor) now deeds reported meet leads h in
    let (more, is, just) = meet in
    let (ticks, busy, rest) = subst (λ l. DeedsLead kinds seed periods d b l reported e c) is leads in
    tick_time kinds seed periods d e (after_beat periods processor now b) c processor now more reported tick just rest
    (agrees_processor (λ l. record l { tick = Some (next_multiple periods.tick now) }) (λ l. refl)
    (λ l. refl) (world_of d) b.accounts processor h) after (beaten_kept now processor periods.tick b.accounts tick busy time)
meetings_are_on_time kinds seed periods d e b c (due.Look processor) now deeds reported tick balance early meet leads h time =
    let after : BookAgrees e c = meetings_agree kinds seed periods d e b c (due.Look processor) now deeds reported meet leads h in
    let (source, more, is, just) = meet in
    let (looks, from, rest) = subst (λ l. DeedsLead kinds seed periods d b l reported e c) is leads in
    look_time source kinds seed periods d e (after_look periods processor now b) c processor now more reported tick just rest
    (agrees_processor (λ l. record l { look = Some (next_multiple periods.balance now) }) (λ l. refl)
    (λ l. refl) (world_of d) b.accounts processor h) after (looked_kept now processor periods.balance b.accounts balance time)
