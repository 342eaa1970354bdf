-- World and accounts agree after each thing that is met.
use Rattle.std.proofs.Common.{◌≡◌, ℕ, ◌+◌, ◌-◌, ◌^◌, ◌<◌, ◌≤◌, inl, inr, Bool, true, false, List, [], ◌∷◌, length, Option, Some, None, refl, sym, subst, ap, ◌∙◌, arith}
use Rattle.std.specs.Prelude.{◌==◌, Ok, min, nat_le, nat_lt, slice_get, if◌then◌else◌}
use Rattle.std.specs.Option.{option_map_or}
use Rattle.std.proofs.lemmas.Bool.{cases_eq, eqb-false}
use Rattle.std.proofs.lemmas.Option.{same_Some}
use Rattle.bq_disc.specs.Tasks.{Task, id_of, present}
use Rattle.bq_hooks.specs.Contexts.{as_number}
use Rattle.bq_parts.specs.declared.event.Event.{Event}
use Rattle.bq_parts.specs.declared.event.Event.TheVariants.{BeginWake, Block, Drain, EndWake, Pull, Tick}
use Rattle.bq_parts.specs.declared.reply.Reply.{Reply}
use Rattle.bq_parts.specs.declared.refusal.Refusal.TheVariants as no
use Rattle.bq_parts.specs.Choices.{by_programs}
use Rattle.bq_parts.specs.Processors.{Processor, count_of_id}
use Rattle.bq_parts.specs.Refusals.{is_away}
use Rattle.bq_parts.specs.Orderly.{IsOrderly}
use Rattle.bq_parts.specs.Steps.{WorldStep}
use Rattle.bq_parts.specs.World.{World, processor_at, entry_of_id, count_in}
use Rattle.bq_parts.proofs.CountLemmas.{one_self}
use Rattle.bq_parts.proofs.OnceLemmas.{count_of-held_by, held_le}
use Rattle.bq_parts.proofs.RefusalLemmas.{accepted, first_refusal_passed, not_refused_is_there}
use Rattle.bq_trace.specs.Machines.{discipline_of}
use Rattle.bq_trace.specs.TraceEvents.{Reported}
use Rattle.bq_workload.specs.declared.action.Action.{Action}
use Rattle.bq_workload.specs.declared.action.Action.TheVariants.{Run, Sleep, Wait, Wake}
use Rattle.bq_workload.specs.declared.due.Due.TheVariants as due
use Rattle.bq_workload.specs.declared.progress.TaskProgress.{TaskProgress}
use Rattle.bq_workload.specs.declared.progress.TaskState.{TaskState}
use Rattle.bq_workload.specs.declared.progress.TaskState.TheVariants.{Asleep, Waiting, Runnable, Over}
use Rattle.bq_workload.specs.declared.processor_state.ProcessorState.{ProcessorState}
use Rattle.bq_workload.specs.declared.periods.Periods.{Periods}
use Rattle.bq_workload.specs.declared.workload.TaskKind.{TaskKind}
use Rattle.bq_workload.specs.Accounts.{Accounts, accounts_charged, runner_charged, of_processor, of_task}
use Rattle.bq_workload.specs.Dues.{next_multiple, size_at}
use Rattle.bq_workload.specs.Kinds.{kind_count as count_of_kind}
use Rattle.bq_workload.specs.TaskProgress.{advanced}
use Rattle.bq_workload.proofs.ListLemmas.{some_or_none}
use Rattle.bq_simulate.specs.declared.driver.Driver.{Driver}
use Rattle.bq_simulate.specs.Actions.{acted, action_count, advanced_in, asked_by, next_action, woken_one_in}
use Rattle.bq_simulate.specs.Agreement.{AgreesBut, AgreesWith, StandsAs, can_run, runner_at, state_at}
use Rattle.bq_simulate.specs.AgreementLaws.{BookAgrees, MeetingsAgree}
use Rattle.bq_simulate.specs.Deeds.{Book, Deed, Happens, IsWokenFrom, DeedsLead, after_act, after_answer, after_beat, after_look, length_taken}
use Rattle.bq_simulate.specs.Drives.{DrivesEvent, placed_at}
use Rattle.bq_simulate.specs.Steps.{AreJustEvents, AreWake, FollowsAction, DeedsMeet, WakesTask, pulls_of}
use Rattle.bq_simulate.proofs.AccountsReadLemmas.{changed_at-length, read_changed, read_kept, reads_charged, state_others}
use Rattle.bq_simulate.proofs.EventTakenLemmas.{blocks_are_taken, pulls_are_taken, ticks_are_taken}
use Rattle.bq_simulate.proofs.MirrorLemmas.{homes_charged, homes_task, tasks_kept}
use Rattle.bq_simulate.proofs.WakeTakenLemmas.{wakes_are_taken}

-- what an event that is done does to the world
abbrev pub world_of : Driver → World
world_of d = d.machine.world

-- a task that runs is away from the lobby
pub current_counted : (o : Option Task) (xs : List Task) (task : ℕ) → id_of o ≡ Some task → 1 ≤ count_of_id task (present o xs)
current_counted None xs task h = cc
current_counted (Some t) xs task h = subst (λ n. 1 ≤ count_of_id n (present (Some t) xs)) (same_Some t.id task h) (omega (arith, one_self t))

-- a test that counts as one at least is true
counted_true : (b : Bool) → 1 ≤ as_number b → b ≡ true
counted_true true h = refl
counted_true false h = absurd (omega arith)

-- the entry of a task that runs says that it is away
pub runs_away : (w : World) (processor task : ℕ) → IsOrderly w → id_of (processor_at w processor).running.current ≡ Some task
    → is_away (entry_of_id w task) ≡ true
runs_away w processor task o runs =
    let p : Processor = processor_at w processor in
    counted_true (is_away (entry_of_id w task))
    (omega (
      arith,
      o.once.away task,
      held_le task w.processors processor,
      count_of-held_by task p,
      current_counted p.running.current p.running.queue task runs,
    ))

-- a processor's state has changed, but not what runs there and how many tasks it has
pub agrees_processor : (f : ProcessorState → ProcessorState) → ((l : ProcessorState) → (f l).run ≡ l.run)
    → ((l : ProcessorState) → (f l).size ≡ l.size) → (w : World) (a : Accounts) (processor : ℕ) → AgreesWith w a
    → AgreesWith w (of_processor f processor a)
agrees_processor f run size w a processor h =
    let m = h.mirrors.processors in
    record {
      orderly = h.orderly;
      entries = h.entries;
      settled = h.settled;
      mirrors = record {
        tasks = h.mirrors.tasks;
        processors = record {
          many = changed_at-length f a.by_processor processor ∙ m.many;
          runs = λ k. read_kept f (λ (x : ProcessorState). x.run) None run a.by_processor processor k ∙ m.runs k;
          sizes = λ k. read_kept f (λ (x : ProcessorState). x.size) 0 size a.by_processor processor k ∙ m.sizes k;
        };
      };
      homes = h.homes;
    }

-- the time of a processor is counted
pub agrees_charged : (w : World) (a : Accounts) (processor now : ℕ) → AgreesWith w a → AgreesWith w (accounts_charged processor now a)
agrees_charged w a processor now h =
    let m = h.mirrors.processors in
    elim (some_or_none (slice_get a.by_processor processor)) [
      | inl none ↦
          subst (λ (x : Accounts). AgreesWith w x)
          (sym (ap (λ (o : Option ProcessorState).
          option_map_or (λ (l : ProcessorState). of_processor (λ x. record x { since = now }) processor (runner_charged l now a))
          o a) none)) h
      | inr (l, at) ↦
          let b : Accounts = accounts_charged processor now a in
          let reads = reads_charged processor now a l at in
          let run : l.run ≡ runner_at a.by_processor processor =
          sym (ap (λ (o : Option ProcessorState). option_map_or (λ (x : ProcessorState). x.run) o None) at) in
          let size : l.size ≡ size_at a.by_processor processor =
          sym (ap (λ (o : Option ProcessorState). option_map_or (λ (x : ProcessorState). x.size) o 0) at) in
          record {
            orderly = h.orderly;
            entries = h.entries;
            settled = h.settled;
            mirrors = record {
              tasks = tasks_kept w a b reads.states h.mirrors.tasks;
              processors = record {
                many = reads.many ∙ m.many;
                runs = λ k. elim (cases_eq k processor) [
                  | inl same ↦ ap (runner_at b.by_processor) same ∙ reads.run_here ∙ run ∙ ap (runner_at a.by_processor) (sym same) ∙ m.runs k
                  | inr apart ↦ reads.runs k apart ∙ m.runs k
                ];
                sizes = λ k. elim (cases_eq k processor) [
                  | inl same ↦
                      ap (size_at b.by_processor) same ∙ reads.size_here ∙ size
                      ∙ ap (size_at a.by_processor) (sym same) ∙ m.sizes k
                  | inr apart ↦ reads.sizes k apart ∙ m.sizes k
                ];
              };
            };
            homes = homes_charged (count_in w) processor now a h.homes;
          }
    ]

-- the state of a task that is given another progress
state_given : (a : Accounts) (task : ℕ) (c new : TaskProgress)
    → slice_get a.by_task task ≡ Some c
    → state_at (of_task (λ _. new) task a).by_task task ≡ Some new.task_state
state_given a task c new at = read_changed (λ _. new) (λ (x : TaskProgress). Some x.task_state) None a.by_task task c at

-- a task has come further in the state that it was in
pub agrees_further : (w : World) (a : Accounts) (task : ℕ) (c new : TaskProgress)
    → slice_get a.by_task task ≡ Some c → new.task_state ≡ c.task_state → new.home ≡ c.home → AgreesWith w a
    → AgreesWith w (of_task (λ _. new) task a)
agrees_further w a task c new at state home h =
    let b : Accounts = of_task (λ _. new) task a in
    let was : state_at a.by_task task ≡ Some c.task_state =
    ap (λ (o : Option TaskProgress). option_map_or (λ (x : TaskProgress). Some x.task_state) o None) at in
    let same : (k : ℕ) → state_at b.by_task k ≡ state_at a.by_task k = λ k. elim (cases_eq k task) [
      | inl here ↦
          ap (state_at b.by_task) here ∙ state_given a task c new at ∙ ap (λ (s : TaskState). Some s) state
          ∙ sym was ∙ ap (state_at a.by_task) (sym here)
      | inr apart ↦ state_others (λ _. new) task k a apart
    ] in
    let m = h.mirrors.processors in
    record {
      orderly = h.orderly;
      entries = h.entries;
      settled = h.settled;
      mirrors =
          record { tasks = tasks_kept w a b same h.mirrors.tasks; processors = record { many = m.many; runs = m.runs; sizes = m.sizes } };
      homes = homes_task (count_in w) task (λ _. new) a (λ x low. subst (λ n. n < count_in w) (sym home) (h.homes task c at)) h.homes;
    }

-- a task that runs goes to sleep: the accounts say so already
pub agrees_but_it : (w : World) (a : Accounts) (task processor : ℕ) (c new : TaskProgress)
    → slice_get a.by_task task ≡ Some c → can_run new.task_state ≡ false → new.home ≡ c.home
    → runner_at a.by_processor processor ≡ Some task → AgreesWith w a
    → AgreesBut task w (of_task (λ _. new) task a)
agrees_but_it w a task processor c new at sleeps home runs h =
    let b : Accounts = of_task (λ _. new) task a in
    let m = h.mirrors.processors in
    record {
      orderly = h.orderly;
      entries = h.entries;
      settled = h.settled;
      mirrors = record {
        others = λ k apart. subst (λ s. StandsAs s (entry_of_id w k)) (sym (state_others (λ _. new) task k a apart)) (h.mirrors.tasks k);
        sleeps = ap (λ (o : Option TaskState). option_map_or can_run o true) (state_given a task c new at) ∙ sleeps;
        away = runs_away w processor task h.orderly (sym (m.runs processor) ∙ runs);
        processors = record { many = m.many; runs = m.runs; sizes = m.sizes };
      };
      homes = homes_task (count_in w) task (λ _. new) a (λ x low. subst (λ n. n < count_in w) (sym home) (h.homes task c at)) h.homes;
    }

-- Single events

-- the step that it made in the world
pub step_of : (d : Driver) (event : Event) (reply : Reply) (reported : Reported) (e : Driver)
    (does : DrivesEvent d event reply reported e)
    → WorldStep (by_programs (discipline_of d.machine.discipline)) (world_of d) event does.happens.moves.step.calls (Ok reply) (world_of e)
step_of d event reply reported e does = does.happens.moves.step.step

-- driver and book agree after a tick
pub tick_agrees : (periods : Periods) (d e : Driver) (b : Book) (processor now : ℕ) (reply : Reply) (reported : Reported)
    → DrivesEvent d (Tick processor now) reply reported e → BookAgrees d b
    → BookAgrees e (after_answer periods (Tick processor now) reply b)
tick_agrees periods d e b processor now reply reported does h =
    let w : World = world_of d in
    let step = step_of d (Tick processor now) reply reported e does in
    let low = (not_refused_is_there (count_in w) processor None (accepted w (Tick processor now) step.0).0).0 in
    (ticks_are_taken (discipline_of d.machine.discipline) periods w b.accounts processor now h low).leaves
    does.happens.moves.step.calls reply (world_of e) step

-- a block, once its task sleeps by the accounts
pub block_agrees : (periods : Periods) (d e : Driver) (b : Book) (processor task now : ℕ) (reply : Reply)
    (reported : Reported)
    → DrivesEvent d (Block processor now) reply reported e → AgreesBut task (world_of d) b.accounts
    → runner_at b.accounts.by_processor processor ≡ Some task
    → BookAgrees e (after_answer periods (Block processor now) reply b)
block_agrees periods d e b processor task now reply reported does h runs =
    let w : World = world_of d in
    let step = step_of d (Block processor now) reply reported e does in
    let low = (not_refused_is_there (count_in w) processor None (accepted w (Block processor now) step.0).0).0 in
    (blocks_are_taken (discipline_of d.machine.discipline) periods w b.accounts processor task now h low runs).leaves
    does.happens.moves.step.calls reply (world_of e) step

-- a pull of one processor from another
pub pull_agrees : (periods : Periods) (d e : Driver) (b : Book) (processor from now : ℕ) (reply : Reply) (reported : Reported)
    → DrivesEvent d (Pull processor from now) reply reported e → BookAgrees d b
    → BookAgrees e (after_answer periods (Pull processor from now) reply b)
pull_agrees periods d e b processor from now reply reported does h =
    let w : World = world_of d in
    let step = step_of d (Pull processor from now) reply reported e does in
    let f = not_refused_is_there (count_in w) processor _ (accepted w (Pull processor from now) step.0).0 in
    let g = not_refused_is_there (count_in w) from _ f.1 in
    let apart = eqb-false processor from (first_refusal_passed (processor == from) no.SameProcessor None g.1).0 in
    (pulls_are_taken (discipline_of d.machine.discipline) periods w b.accounts processor from now h f.0 g.0 apart).leaves
    does.happens.moves.step.calls reply (world_of e) step

-- a task that may be woken sleeps
pub sleeps_if_woken : (a : Accounts) (s : TaskState) (home from : ℕ) → IsWokenFrom a s home from → can_run s ≡ false
sleeps_if_woken a Asleep home from h = refl
sleeps_if_woken a Waiting home from h = refl
sleeps_if_woken a Runnable home from h = absurd h
sleeps_if_woken a Over home from h = absurd h

-- an event leaves the machine under the same discipline
pub same_discipline : (d : Driver) (event : Event) (reply : Reply) (reported : Reported) (e : Driver)
    → DrivesEvent d event reply reported e → discipline_of e.machine.discipline ≡ discipline_of d.machine.discipline
same_discipline d event reply reported e does = ap discipline_of does.happens.moves.same_discipline

-- world and accounts agree after the three events of a wake, if they did before
wake_agrees : (kinds : List TaskKind) (seed : ℕ) (periods : Periods) (d e : Driver) (b c : Book) (from task now to : ℕ)
    (begun placed drained : Reply) (reported : Reported)
    → placed_at placed ≡ Some to
    → DeedsLead kinds seed periods d b
    (Happens (BeginWake from task) begun ∷ Happens (EndWake from now) placed ∷ Happens (Drain to now) drained ∷ []) reported e
    c
    → BookAgrees d b
    → BookAgrees e c
wake_agrees kinds seed periods d e b c from task now to begun placed drained reported at (
  woken,
  one,
  first,
  rest,
  begins,
  (due, two, second, more, ends, (too, three, third, last, drains, (none, is, kept), whole3), whole2),
  whole,
) h =
    let w : World = world_of d in
    let r = discipline_of d.machine.discipline in
    let P : Driver → Type 0 =
    λ x. BookAgrees x (after_answer periods (Drain to now) drained (after_answer periods (BeginWake from task) begun b)) in
    let step = step_of d (BeginWake from task) begun first one begins in
    let low = (not_refused_is_there (count_in w) from _ (accepted w (BeginWake from task) step.0).0).0 in
    let begin =
    wakes_are_taken r periods w b.accounts from task now woken.progress h low woken.there
    (sleeps_if_woken b.accounts woken.progress.task_state woken.progress.home from woken.place) in
    let end = begin.leaves begins.happens.moves.step.calls begun (world_of one) step in
    let rule2 = same_discipline d (BeginWake from task) begun first one begins in
    let step2 =
    subst (λ x. WorldStep (by_programs x) (world_of one) (EndWake from now) ends.happens.moves.step.calls (Ok placed) (world_of two))
    rule2 (step_of one (EndWake from now) placed second two ends) in
    let drain = end.leaves ends.happens.moves.step.calls placed (world_of two) step2 to at in
    let rule3 = same_discipline one (EndWake from now) placed second two ends ∙ rule2 in
    let step3 =
    subst (λ x. WorldStep (by_programs x) (world_of two) (Drain to now) drains.happens.moves.step.calls (Ok drained) (world_of three))
    rule3 (step_of two (Drain to now) drained third three drains) in
    let done : P three = (drain.leaves drains.happens.moves.step.calls drained (world_of three) step3).1 in
    subst (λ x. BookAgrees e x) (sym kept) (subst P (sym is) done)

-- a wake as it is met
wake_met : (kinds : List TaskKind) (seed : ℕ) (periods : Periods) (d e : Driver) (b c : Book) (from task now : ℕ)
    (deeds : List Deed) (reported : Reported)
    → AreWake from task now deeds → DeedsLead kinds seed periods d b deeds reported e c → BookAgrees d b → BookAgrees e c
wake_met kinds seed periods d e b c from task now deeds reported (begun, placed, drained, to, at, is) leads h =
    wake_agrees kinds seed periods d e b c from task now to begun placed drained reported at
    (subst (λ l. DeedsLead kinds seed periods d b l reported e c) is leads) h

-- What an action leaves

-- a task that has done its action is in the state that it was in
pub advanced_state : (actions : ℕ) (c : TaskProgress) → (advanced actions c).task_state ≡ c.task_state
advanced_state actions c =
    elim (nat_le actions (c.action + 1)) as (λ b.
    (if b
    then record c { action = 0; woken = 0; loops = min (c.loops + 1) (2 ^ 64 - 1) }
    else record c { action = c.action + 1; woken = 0 }).task_state
    ≡ c.task_state) [ true ↦ refl | false ↦ refl ]

-- a task that has done its action was last where it was
pub advanced_home : (actions : ℕ) (c : TaskProgress) → (advanced actions c).home ≡ c.home
advanced_home actions c =
    elim (nat_le actions (c.action + 1)) as (λ b.
    (if b
    then record c { action = 0; woken = 0; loops = min (c.loops + 1) (2 ^ 64 - 1) }
    else record c { action = c.action + 1; woken = 0 }).home
    ≡ c.home) [ true ↦ refl | false ↦ refl ]

-- a task whose wake has come to one more is in the state that it was in
pub woken_one_state : (kinds : List TaskKind) (kind : ℕ) (c : TaskProgress) → (woken_one_in kinds kind c).task_state ≡ c.task_state
woken_one_state kinds kind c =
    elim (nat_lt (c.woken + 1) (count_of_kind kinds kind))
    as (λ b. (if b then record c { woken = c.woken + 1 } else advanced_in kinds c).task_state ≡ c.task_state)
    [ true ↦ refl | false ↦ advanced_state (action_count kinds c) c ]

-- a task whose wake has woken one more was last where it was
pub woken_one_home : (kinds : List TaskKind) (kind : ℕ) (c : TaskProgress) → (woken_one_in kinds kind c).home ≡ c.home
woken_one_home kinds kind c =
    elim (nat_lt (c.woken + 1) (count_of_kind kinds kind))
    as (λ b. (if b then record c { woken = c.woken + 1 } else advanced_in kinds c).home ≡ c.home)
    [ true ↦ refl | false ↦ advanced_home (action_count kinds c) c ]

-- a block, and nothing beside it
block_one : (kinds : List TaskKind) (seed : ℕ) (periods : Periods) (d e : Driver) (b c : Book) (processor task now : ℕ)
    (reply : Reply) (reported : Reported)
    → DeedsLead kinds seed periods d b (Happens (Block processor now) reply ∷ []) reported e c
    → AgreesBut task (world_of d) b.accounts → runner_at b.accounts.by_processor processor ≡ Some task
    → BookAgrees e c
block_one kinds seed periods d e b c processor task now reply reported
    (due, mid, first, rest, does, (nothing, same, kept), whole) h runs =
    subst (λ x. BookAgrees e x) (sym kept)
    (subst (λ x. BookAgrees x (after_answer periods (Block processor now) reply b)) (sym same)
    (block_agrees periods d mid b processor task now reply first does h runs))

-- world and accounts agree after the block of a task that already sleeps by the accounts
block_met : (kinds : List TaskKind) (seed : ℕ) (periods : Periods) (d e : Driver) (b c : Book) (processor task now : ℕ)
    (deeds : List Deed) (reported : Reported)
    → AreJustEvents (Block processor now ∷ []) deeds → DeedsLead kinds seed periods d b deeds reported e c
    → AgreesBut task (world_of d) b.accounts → runner_at b.accounts.by_processor processor ≡ Some task
    → BookAgrees e c
block_met kinds seed periods d e b c processor task now deeds reported (reply, more, is, none) leads h runs =
    let whole : deeds ≡ Happens (Block processor now) reply ∷ [] = is ∙ ap (λ l. Happens (Block processor now) reply ∷ l) none in
    block_one kinds seed periods d e b c processor task now reply reported
    (subst (λ l. DeedsLead kinds seed periods d b l reported e c) whole leads) h runs

-- an event after which world and accounts agree, if they did before
abbrev pub KeepsAgreement : Event → Type 0
KeepsAgreement event =
    (periods : Periods) (d e : Driver) (b : Book) (reply : Reply) (reported : Reported) →
    DrivesEvent d event reply reported e → BookAgrees d b → BookAgrees e (after_answer periods event reply b)

-- such an event, and nothing beside it
pub one_event : (event : Event) → KeepsAgreement event
    → (kinds : List TaskKind) (seed : ℕ) (periods : Periods) (d e : Driver) (b c : Book) (reply : Reply) (reported : Reported)
    → DeedsLead kinds seed periods d b (Happens event reply ∷ []) reported e c → BookAgrees d b
    → BookAgrees e c
one_event event keeps kinds seed periods d e b c reply reported
    (due, mid, first, rest, does, (nothing, same, kept), whole) h =
    subst (λ x. BookAgrees e x) (sym kept)
    (subst (λ x. BookAgrees x (after_answer periods event reply b)) (sym same) (keeps periods d mid b reply first does h))

-- a single event, as it is met
pub event_met : (event : Event) → KeepsAgreement event
    → (kinds : List TaskKind) (seed : ℕ) (periods : Periods) (d e : Driver) (b c : Book) (deeds : List Deed) (reported : Reported)
    → AreJustEvents (event ∷ []) deeds → DeedsLead kinds seed periods d b deeds reported e c → BookAgrees d b
    → BookAgrees e c
event_met event keeps kinds seed periods d e b c deeds reported (reply, more, is, none) leads h =
    let whole : deeds ≡ Happens event reply ∷ [] = is ∙ ap (λ l. Happens event reply ∷ l) none in
    one_event event keeps kinds seed periods d e b c reply reported (subst (λ l. DeedsLead kinds seed periods d b l reported e c) whole leads) h

-- driver and book still agree where nothing happens
pub nothing_met : (kinds : List TaskKind) (seed : ℕ) (periods : Periods) (d e : Driver) (b c : Book)
    (deeds : List Deed) (reported : Reported)
    → deeds ≡ [] → DeedsLead kinds seed periods d b deeds reported e c → BookAgrees d b → BookAgrees e c
nothing_met kinds seed periods d e b c deeds reported none leads h =
    let (nothing, same, kept) = subst (λ l. DeedsLead kinds seed periods d b l reported e c) none leads in
    subst (λ x. BookAgrees e x) (sym kept) (subst (λ x. BookAgrees x b) (sym same) h)

-- the wake of another task
wakes_met : (kinds : List TaskKind) (seed : ℕ) (periods : Periods) (d e : Driver) (b c : Book) (processor task now : ℕ)
    (deeds : List Deed) (reported : Reported)
    → WakesTask task processor now deeds → DeedsLead kinds seed periods d b deeds reported e c → BookAgrees d b
    → BookAgrees e c
wakes_met kinds seed periods d e b c processor task now deeds reported (inl is) leads h =
    let (k, there, waits, rest) = subst (λ l. DeedsLead kinds seed periods d b l reported e c) is leads in
    nothing_met kinds seed periods d e b c [] reported refl rest h
wakes_met kinds seed periods d e b c processor task now deeds reported (inr (more, is, wake)) leads h =
    let (k, there, waits, rest) = subst (λ l. DeedsLead kinds seed periods d b l reported e c) is leads in
    wake_met kinds seed periods d e b c processor task now more reported wake rest h

-- what follows an action of the task that runs at a processor
follow_met : (action : Option Action) (aim : Option ℕ) (kinds : List TaskKind) (seed : ℕ) (periods : Periods) (d e : Driver)
    (a : Accounts) (b f : Book) (processor task length now : ℕ) (c : TaskProgress) (deeds : List Deed) (reported : Reported)
    → FollowsAction action aim processor now deeds → b.accounts ≡ of_task (λ _. acted kinds action length now c) task a
    → slice_get a.by_task task ≡ Some c → runner_at a.by_processor processor ≡ Some task → AgreesWith (world_of d) a
    → DeedsLead kinds seed periods d b deeds reported e f
    → BookAgrees e f
follow_met None aim kinds seed periods d e a b f processor task length now c deeds reported follow is at runs h leads =
    let new : TaskProgress = acted kinds None length now c in
    block_met kinds seed periods d e b f processor task now deeds reported follow leads
    (subst (λ x. AgreesBut task (world_of d) x) (sym is) (agrees_but_it (world_of d) a task processor c new at refl refl runs h))
    (ap (λ (x : Accounts). runner_at x.by_processor processor) is ∙ runs)
follow_met (Some (Run asked)) aim kinds seed periods d e a b f processor task length now c deeds reported follow
    is at runs h leads =
    let new : TaskProgress = acted kinds (Some (Run asked)) length now c in
    nothing_met kinds seed periods d e b f deeds reported follow leads
    (subst (λ x. AgreesWith (world_of d) x) (sym is)
    (agrees_further (world_of d) a task c new at (advanced_state (action_count kinds c) c) (advanced_home (action_count kinds c) c) h))
follow_met (Some (Sleep asked)) aim kinds seed periods d e a b f processor task length now c deeds reported follow
    is at runs h leads =
    let new : TaskProgress = acted kinds (Some (Sleep asked)) length now c in
    block_met kinds seed periods d e b f processor task now deeds reported follow leads
    (subst (λ x. AgreesBut task (world_of d) x) (sym is)
    (agrees_but_it (world_of d) a task processor c new at refl (advanced_home (action_count kinds c) c) runs h))
    (ap (λ (x : Accounts). runner_at x.by_processor processor) is ∙ runs)
follow_met (Some Wait) aim kinds seed periods d e a b f processor task length now c deeds reported follow is at runs h leads =
    let new : TaskProgress = acted kinds (Some Wait) length now c in
    block_met kinds seed periods d e b f processor task now deeds reported follow leads
    (subst (λ x. AgreesBut task (world_of d) x) (sym is)
    (agrees_but_it (world_of d) a task processor c new at refl (advanced_home (action_count kinds c) c) runs h))
    (ap (λ (x : Accounts). runner_at x.by_processor processor) is ∙ runs)
follow_met (Some (Wake kind)) None kinds seed periods d e a b f processor task length now c deeds reported follow
    is at runs h leads = absurd follow
follow_met (Some (Wake kind)) (Some other) kinds seed periods d e a b f processor task length now c
    deeds reported follow is at runs h leads =
    let new : TaskProgress = acted kinds (Some (Wake kind)) length now c in
    wakes_met kinds seed periods d e b f processor other now deeds reported follow leads
    (subst (λ x. AgreesWith (world_of d) x) (sym is)
    (agrees_further (world_of d) a task c new at (woken_one_state kinds kind c) (woken_one_home kinds kind c) h))

-- the end of a phase
end_met : (kinds : List TaskKind) (seed : ℕ) (periods : Periods) (d e : Driver) (b c : Book) (processor now : ℕ)
    (deeds : List Deed) (reported : Reported)
    → DeedsMeet (due.End processor) now deeds → DeedsLead kinds seed periods d b deeds reported e c → BookAgrees d b
    → BookAgrees e c
end_met kinds seed periods d e b c processor now deeds reported (task, action, aim, more, is, follow) leads h =
    let (k, done, its, to, rest) = subst (λ l. DeedsLead kinds seed periods d b l reported e c) is leads in
    let a : Accounts = accounts_charged processor now b.accounts in
    let next : Option Action = next_action kinds k in
    follow_met next aim kinds seed periods d e a (after_act kinds seed processor task now k b)
    c processor task (length_taken seed task b.drawn (asked_by next)) now k more reported
    (subst (λ o. FollowsAction o aim processor now more) its follow) refl done.there
    (ap (λ (o : Option ProcessorState). option_map_or (λ (l : ProcessorState). l.run) o None) done.at ∙ done.runs)
    (agrees_charged (world_of d) b.accounts processor now h) rest

-- a look for a task
look_met : (source : Option ℕ) (kinds : List TaskKind) (seed : ℕ) (periods : Periods) (d e : Driver) (b c : Book)
    (processor now : ℕ) (deeds : List Deed) (reported : Reported)
    → AreJustEvents (pulls_of processor now source) deeds → DeedsLead kinds seed periods d b deeds reported e c → BookAgrees d b
    → BookAgrees e c
look_met None kinds seed periods d e b c processor now deeds reported none leads h =
    nothing_met kinds seed periods d e b c deeds reported none leads h
look_met (Some from) kinds seed periods d e b c processor now deeds reported just leads h =
    event_met (Pull processor from now) (λ p x y k reply some does agree. pull_agrees p x y k processor from now reply some does agree)
    kinds seed periods d e b c deeds reported just leads h

-- accounts and world agree after each thing that is met
pub meetings_agree : MeetingsAgree
meetings_agree kinds seed periods d e b c (due.End processor) now deeds reported meet leads h =
    end_met kinds seed periods d e b c processor now deeds reported meet leads h
meetings_agree kinds seed periods d e b c (due.Wake task) now deeds reported (home, more, is, wake) leads h =
    let (k, there, asleep, timer, rest) = subst (λ l. DeedsLead kinds seed periods d b l reported e c) is leads in
    wake_met kinds seed periods d e b c home task now more reported wake rest h
meetings_agree kinds seed periods d e b c (due.Tick processor) now deeds reported (more, is, just) leads h =
    let (ticks, busy, rest) = subst (λ l. DeedsLead kinds seed periods d b l reported e c) is leads in
    event_met (Tick processor now) (λ p x y k reply some does agree. tick_agrees p x y k processor now reply some does agree)
    kinds seed periods d e (after_beat periods processor now b) c more reported just rest
    (agrees_processor (λ l. record l { tick = Some (next_multiple periods.tick now) }) (λ l. refl)
    (λ l. refl) (world_of d) b.accounts processor h)
meetings_agree kinds seed periods d e b c (due.Look processor) now deeds reported (source, more, is, just) leads h =
    let (looks, from, rest) = subst (λ l. DeedsLead kinds seed periods d b l reported e c) is leads in
    look_met source kinds seed periods d e (after_look periods processor now b) c processor now more reported just rest
    (agrees_processor (λ l. record l { look = Some (next_multiple periods.balance now) }) (λ l. refl)
    (λ l. refl) (world_of d) b.accounts processor h)
