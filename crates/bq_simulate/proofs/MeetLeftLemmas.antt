-- Each thing that is met takes one at least of what may still come at its instant.
use Rattle.std.proofs.Common.{◌≡◌, ℕ, ◌+◌, ◌-◌, ◌*◌, ◌≤◌, inl, inr, Bool, true, false, List, [], ◌∷◌, length, Option, Some, None, refl, sym, subst, ap, ◌∙◌, arith}
use Rattle.std.specs.Prelude.{◌==◌, Ok, if◌then◌else◌, nat_le, option_and_then, slice_get}
use Rattle.std.specs.List.{list_any}
use Rattle.std.specs.Option.{option_map_or}
use Rattle.std.proofs.lemmas.Bool.{cases_Bool, cases_eq, eq-eqb, ne_eqb}
use Rattle.std.proofs.lemmas.Option.{none-some, same_Some}
use Rattle.bq_bpf.specs.declared.board.CounterCall.{CounterCall}
use Rattle.bq_disc.specs.Discipline.{Discipline}
use Rattle.bq_disc.specs.OneProcessor.{Running}
use Rattle.bq_disc.specs.Tasks.{Task, id_of}
use Rattle.bq_hooks.specs.Permitted.{task_numbered}
use Rattle.bq_parts.specs.declared.event.Event.TheVariants.{Block, Pull, Tick}
use Rattle.bq_parts.specs.declared.reply.Reply.{Reply}
use Rattle.bq_parts.specs.Choices.{by_programs}
use Rattle.bq_parts.specs.Moves.{started_if_idle, taken_from, with_pulled}
use Rattle.bq_parts.specs.Processors.{Processor}
use Rattle.bq_parts.specs.Shares.{after_time, mark_updated}
use Rattle.bq_parts.specs.Steps.{WorldStep}
use Rattle.bq_parts.specs.World.{World, processor_at}
use Rattle.bq_trace.specs.Machines.{discipline_of}
use Rattle.bq_trace.specs.TraceEvents.{Reported}
use Rattle.bq_workload.specs.declared.action.Action.{Action}
use Rattle.bq_workload.specs.declared.action.Action.TheVariants.{Run, Sleep, Wait, Wake}
use Rattle.bq_workload.specs.declared.due.Due.{Due}
use Rattle.bq_workload.specs.declared.due.Due.TheVariants as due
use Rattle.bq_workload.specs.declared.processor_state.ProcessorState.{ProcessorState}
use Rattle.bq_workload.specs.declared.progress.TaskProgress.{TaskProgress}
use Rattle.bq_workload.specs.declared.progress.TaskState.{TaskState}
use Rattle.bq_workload.specs.declared.progress.TaskState.TheVariants.{Asleep, Waiting, Runnable, Over}
use Rattle.bq_workload.specs.declared.periods.Periods.{Periods}
use Rattle.bq_workload.specs.declared.workload.TaskKind.{TaskKind}
use Rattle.bq_workload.specs.declared.workload.Workload.{Workload}
use Rattle.bq_workload.specs.Accounts.{Accounts, accounts_charged, runner_charged, grown, is_same, of_processor, of_task, accounts_passed, shrunk, accounts_switched, taken_over}
use Rattle.bq_workload.specs.Dues.{next_multiple, until}
use Rattle.bq_workload.specs.Lengths.{takes_time}
use Rattle.bq_workload.specs.Next.{IsNextDue, comes_at}
use Rattle.bq_workload.specs.Soundness.{first_flaw}
use Rattle.bq_workload.specs.TaskProgress.{progress_woken}
use Rattle.bq_workload.proofs.ListLemmas.{changed_at-here, some_or_none}
use Rattle.bq_core.proofs.MoveLemmas.{with_pulled-current}
use Rattle.bq_simulate.specs.declared.driver.Driver.{Driver}
use Rattle.bq_simulate.specs.Actions.{acted, asked_by, next_action}
use Rattle.bq_simulate.specs.Agreement.{AgreesWith, can_run, runner_at}
use Rattle.bq_simulate.specs.AgreementLaws.{BookAgrees, RunsAlone}
use Rattle.bq_simulate.specs.AtOnce.{kind_actions, steps_left_at, left_in, left_of_processor, left_of_task, steps_ahead, uncounted, uncounted_at}
use Rattle.bq_simulate.specs.Deeds.{Book, Deed, Happens, DeedsLead, after_act, after_beat, after_look, length_taken}
use Rattle.bq_simulate.specs.Drives.{count_entered, runs_now, task_pulled}
use Rattle.bq_simulate.specs.Kept.{IsKept, StandsAtAction}
use Rattle.bq_simulate.specs.KeptLaws.{DeedsLeadIn}
use Rattle.bq_simulate.specs.Simulations.{periods_of}
use Rattle.bq_simulate.specs.Steps.{AreJustEvents, AreWake, FollowsAction, DeedsMeet, WakesTask, pulls_of}
use Rattle.bq_simulate.proofs.AccountsReadLemmas.{charged_there, read_kept, same_run}
use Rattle.bq_simulate.proofs.ActionLeftLemmas.{act-takes, at-most, stands-at}
use Rattle.bq_simulate.proofs.EventTakenLemmas.{current_id}
use Rattle.bq_simulate.proofs.MeetAgreeLemmas.{agrees_charged, step_of, world_of}
use Rattle.bq_simulate.proofs.MeetOnTimeLemmas.{sleeper_rests}
use Rattle.bq_simulate.proofs.SoundWorkloadLemmas.{IsSoundKind, sound_kind, sound_times}
use Rattle.bq_simulate.proofs.StandsAtActionLemmas.{AllStand, charged_keeps, standing_of_places}
use Rattle.bq_simulate.proofs.StaysOnTimeLemmas.{run_of, tasks_run_alone}
use Rattle.bq_simulate.proofs.StepsLeftLemmas.{at-most-one, charged-left, multiple-past, passed-left, processor-left, sized-left, switched-kept, switched-left, switched-one, task-takes}
use Rattle.bq_simulate.proofs.SumOverAllLemmas.{sum-most}
use Rattle.bq_disc.specs.declared.clock.TheConstants.{LATEST}

-- where nothing is done no more is left
nothing-left : (kinds : List TaskKind) (seed : ℕ) (periods : Periods) (d e : Driver) (b c : Book) (now : ℕ)
    (deeds : List Deed) (reported : Reported)
    → deeds ≡ [] → DeedsLead kinds seed periods d b deeds reported e c
    → steps_left_at kinds now c.accounts ≤ steps_left_at kinds now b.accounts
nothing-left kinds seed periods d e b c now deeds reported none leads =
    let (nothing, same, kept) = subst (λ l. DeedsLead kinds seed periods d b l reported e c) none leads in
    omega (arith, ap (λ (x : Book). steps_left_at kinds now x.accounts) kept)

-- Ticks

-- what a test chooses
tests-true : (b : Bool) (m n : ℕ) → b ≡ true → (if b then m else n) ≡ m
tests-true b m n is = ap (λ x. if x then m else n) is

tests-false : (b : Bool) (m n : ℕ) → b ≡ false → (if b then m else n) ≡ n
tests-false b m n is = ap (λ x. if x then m else n) is

-- a tick, after which its processor may look for a task
tick-takes : (kinds : List TaskKind) (seed : ℕ) (periods : Periods) (d e : Driver) (b c : Book) (processor now : ℕ)
    (deeds : List Deed) (reported : Reported)
    → 1 ≤ periods.tick → DeedsMeet (due.Tick processor) now deeds → DeedsLead kinds seed periods d b deeds reported e c
    → steps_left_at kinds now c.accounts + 1 ≤ steps_left_at kinds now b.accounts
tick-takes kinds seed periods d e b c processor now deeds reported some (more, is, (reply, rest, just, none)) leads =
    let whole : more ≡ Happens (Tick processor now) reply ∷ [] = just ∙ ap (λ l. Happens (Tick processor now) reply ∷ l) none in
    let (ticks, runs, after) = subst (λ l. DeedsLead kinds seed periods d b l reported e c) is leads in
    let (may, mid, first, last, does, (nothing, same, kept), all) =
    subst (λ l. DeedsLead kinds seed periods d (after_beat periods processor now b) l reported e c) whole after in
    let f : ProcessorState → ProcessorState = λ l. record l { tick = Some (next_multiple periods.tick now) } in
    let l : ProcessorState = ticks.processor_state in
    let a : Accounts = of_processor f processor b.accounts in
    let looks : ℕ = if is_same l.look (Some now) then 1 else 0 in
    let before : left_of_processor now l ≡ 2 =
    ap (λ (o : Option ℕ). if is_same o (Some now) then 2 else looks) ticks.tick
    ∙ tests-true (now == now) 2 looks (eq-eqb now now refl) in
    let next : left_of_processor now (f l) ≡ looks =
    tests-false (next_multiple periods.tick now == now) 2 looks
    (ne_eqb (next_multiple periods.tick now) now (λ x. omega (arith, x, multiple-past periods.tick now some))) in
    let beat = processor-left kinds now f processor b.accounts l ticks.at (λ task. omega arith) in
    let its : steps_left_at kinds now c.accounts ≡ steps_left_at kinds now (accounts_switched processor (runs_now reply) now periods a) =
    ap (λ (x : Book). steps_left_at kinds now x.accounts) kept in
    elim (switched-left kinds periods now processor (runs_now reply) a (f l) some
    (changed_at-here f b.accounts.by_processor processor l ticks.at)) [
      | inl less ↦ omega (arith, less, its, before, next, beat, at-most-one (is_same l.look (Some now)))
      | inr less ↦ omega (arith, less, its, before, next, beat, at-most-one (is_same l.look (Some now)))
    ]

-- Looks

-- a processor that runs nothing, even after it could start a task, ran nothing before
started-none : (d : Discipline) (p : Running) (o : Option Task)
    → p.current ≡ o → id_of (started_if_idle d p o).current ≡ None → id_of o ≡ None
started-none d p None is h = refl
started-none d p (Some t) is h = sym (ap id_of is) ∙ h

-- a processor that runs nothing after a pull ran nothing before
pull-keeps : (d : Discipline) (w v : World) (processor from now : ℕ) (calls : List CounterCall) (r : Reply)
    → WorldStep (by_programs d) w (Pull processor from now) calls (Ok r) v → runs_now r ≡ None
    → id_of (processor_at w processor).running.current ≡ None
pull-keeps d w v processor from now calls r step none =
    let x = step.1.2 in
    let p : Processor = after_time d now (processor_at w processor) in
    let moved : Option Task = taken_from (mark_updated d (processor_at w from)).running (task_numbered x.settled.choice) in
    let here : id_of (started_if_idle d (with_pulled d p.running moved) p.running.current).current ≡ None =
    sym (ap (λ (q : Processor). id_of q.running.current) x.here) ∙ sym (ap runs_now x.replies) ∙ none in
    sym (current_id d (processor_at w processor).running now)
    ∙ started-none d (with_pulled d p.running moved) p.running.current (with_pulled-current d p.running moved) here

-- a look whose processor pulls a task, or none
pulled-left : (source : Option ℕ) (kinds : List TaskKind) (seed : ℕ) (periods : Periods) (d e : Driver) (b c : Book)
    (processor now : ℕ) (deeds : List Deed) (reported : Reported)
    → 1 ≤ periods.tick → AreJustEvents (pulls_of processor now source) deeds → DeedsLead kinds seed periods d b deeds reported e c
    → ((k : ℕ) → runner_at b.accounts.by_processor k ≡ id_of (processor_at (world_of d) k).running.current)
    → steps_left_at kinds now c.accounts ≤ steps_left_at kinds now b.accounts
pulled-left None kinds seed periods d e b c processor now deeds reported some none leads runs =
    nothing-left kinds seed periods d e b c now deeds reported none leads
pulled-left (Some from) kinds seed periods d e b c processor now deeds reported some (reply, more, is, none) leads runs =
    let whole : deeds ≡ Happens (Pull processor from now) reply ∷ [] = is ∙ ap (λ l. Happens (Pull processor from now) reply ∷ l) none in
    let (due, mid, first, rest, does, (nothing, same, kept), all) = subst (λ l. DeedsLead kinds seed periods d b l reported e c) whole leads in
    let a : Accounts = option_map_or (λ _. accounts_passed from processor b.accounts) (task_pulled reply) b.accounts in
    let run : Option ℕ = runs_now reply in
    let its : steps_left_at kinds now c.accounts ≡ steps_left_at kinds now (accounts_switched processor run now periods a) =
    ap (λ (x : Book). steps_left_at kinds now x.accounts) kept in
    let less = passed-left kinds now from processor (task_pulled reply) b.accounts in
    let idle : run ≡ None → runner_at b.accounts.by_processor processor ≡ None = λ stops.
    runs processor
    ∙ pull-keeps (discipline_of d.machine.discipline) (world_of d) (world_of mid) processor from now does.happens.moves.step.calls
    reply (step_of d (Pull processor from now) reply first mid does) stops in
    elim (some_or_none (slice_get a.by_processor processor)) [
      | inl gone ↦
          let still : accounts_switched processor run now periods a ≡ a =
          ap (λ (o : Option ProcessorState).
          option_map_or
          (λ (x : ProcessorState). if is_same x.run run then a else taken_over processor run now periods (accounts_charged processor now a)) o a)
          gone in
          omega (arith, its, less, ap (steps_left_at kinds now) still)
      | inr (l, at) ↦ omega (
        arith,
        its,
        less,
        switched-kept kinds periods now processor run a l some at
            (λ stops. sym (run_of a processor l at) ∙ passed-run from processor (task_pulled reply) b.accounts ∙ idle stops),
      )
    ]
  where
    passed-run : (from processor : ℕ) (task : Option ℕ) (a : Accounts)
        → runner_at (option_map_or (λ _. accounts_passed from processor a) task a).by_processor processor ≡ runner_at a.by_processor processor
    passed-run from processor None a = refl
    passed-run from processor (Some id) a =
        read_kept (λ l. record l { size = l.size + 1 }) (λ (l : ProcessorState). l.run) None (λ l. refl)
        (shrunk from a).by_processor processor processor
        ∙ read_kept (λ l. record l { size = l.size - 1 }) (λ (l : ProcessorState). l.run) None (λ l. refl) a.by_processor from processor

-- a processor that looks next does not tick at that instant: the tick would come before
no-tick : (end processor now : ℕ) (a : Accounts) (l : ProcessorState)
    → IsNextDue end a (due.Look processor) now → slice_get a.by_processor processor ≡ Some l → l.look ≡ Some now
    → is_same l.tick (Some now) ≡ false
no-tick end processor now a l next at look = elim (cases_Bool (is_same l.tick (Some now))) [
  | inl ticks ↦
      let is : l.tick ≡ Some now = same_run l.tick (Some now) ticks in
      let comes : until end now ≡ Some now =
      sym (ap (option_and_then (until end)) look)
      ∙ sym (ap (λ (o : Option ProcessorState). option_and_then (λ (x : ProcessorState). option_and_then (until end) x.look) o) at)
      ∙ next.comes in
      let before : comes_at end a (due.Tick processor) ≡ Some now =
      ap (λ (o : Option ProcessorState). option_and_then (λ (x : ProcessorState). option_and_then (until end) x.tick) o) at
      ∙ ap (option_and_then (until end)) is ∙ comes in
      absurd (next.first (due.Tick processor) now before (inr (refl, omega arith)))
  | inr not ↦ not
]

-- a look takes one at least of what may still come
look-takes : (kinds : List TaskKind) (seed : ℕ) (periods : Periods) (d e : Driver) (b c : Book) (processor now end : ℕ)
    (deeds : List Deed) (reported : Reported)
    → 1 ≤ periods.tick → 1 ≤ periods.balance → IsNextDue end b.accounts (due.Look processor) now
    → DeedsMeet (due.Look processor) now deeds → DeedsLead kinds seed periods d b deeds reported e c → BookAgrees d b
    → steps_left_at kinds now c.accounts + 1 ≤ steps_left_at kinds now b.accounts
look-takes kinds seed periods d e b c processor now end deeds reported some balance next (source, more, is, just) leads h =
    let (looks, from, after) = subst (λ l. DeedsLead kinds seed periods d b l reported e c) is leads in
    let f : ProcessorState → ProcessorState = λ l. record l { look = Some (next_multiple periods.balance now) } in
    let l : ProcessorState = looks.processor_state in
    let still : is_same l.tick (Some now) ≡ false = no-tick end processor now b.accounts l next looks.at looks.look in
    let later : ℕ = if next_multiple periods.balance now == now then 1 else 0 in
    let none : later ≡ 0 =
    tests-false (next_multiple periods.balance now == now) 1 0
    (ne_eqb (next_multiple periods.balance now) now (λ x. omega (arith, x, multiple-past periods.balance now balance))) in
    let before : left_of_processor now l ≡ 1 =
    tests-false (is_same l.tick (Some now)) 2 _ still ∙ ap (λ (o : Option ℕ). if is_same o (Some now) then 1 else 0) looks.look
    ∙ tests-true (now == now) 1 0 (eq-eqb now now refl) in
    let after_it : left_of_processor now (f l) ≡ later = tests-false (is_same l.tick (Some now)) 2 later still in
    let look = processor-left kinds now f processor b.accounts l looks.at (λ task. omega arith) in
    let pull = pulled-left source kinds seed periods d e (after_look periods processor now b) c processor now more reported some just after
    (λ k. read_kept f (λ (x : ProcessorState). x.run) None (λ x. refl) b.accounts.by_processor processor k ∙ h.mirrors.processors.runs k) in
    omega (arith, look, pull, before, after_it, none)

-- Wakes

-- a wake takes what it takes of the task that it wakes, and may leave a processor idle
wake-left : (kinds : List TaskKind) (seed : ℕ) (periods : Periods) (d e : Driver) (b c : Book) (from task now taken : ℕ)
    (k : TaskProgress) (deeds : List Deed) (reported : Reported)
    → 1 ≤ periods.tick → AreWake from task now deeds
    → DeedsLead kinds seed periods d b deeds reported e c → slice_get b.accounts.by_task task ≡ Some k
    → left_of_task kinds now b.accounts.by_processor task (progress_woken k) + taken ≤ left_of_task kinds now b.accounts.by_processor task k
    → steps_left_at kinds now c.accounts + taken ≤ steps_left_at kinds now b.accounts + 1
wake-left kinds seed periods d e b c from task now taken k deeds reported some
    (begun, placed, drained, to, at, is) leads there less =
    let (
      woke,
      one,
      first,
      rest,
      begins,
      (due, two, second, more, ends, (too, three, third, last, drains, (none, same, kept), whole3), whole2),
      whole,
    ) = subst (λ l. DeedsLead kinds seed periods d b l reported e c) is leads in
    let a : Accounts = of_task progress_woken task b.accounts in
    let mid : Accounts = grown to (count_entered drained) a in
    let its : steps_left_at kinds now c.accounts ≡ steps_left_at kinds now (accounts_switched to (runs_now drained) now periods mid) =
    ap (λ (x : Book). steps_left_at kinds now x.accounts) kept in
    omega (
      arith,
      its,
      task-takes kinds now progress_woken task taken b.accounts k there less,
      sized-left kinds now (λ n. n + count_entered drained) to a,
      switched-one kinds periods now to (runs_now drained) mid some,
    )

-- a task that is woken has no more left than its steps
woken-most : (kinds : List TaskKind) (now : ℕ) (ls : List ProcessorState) (task : ℕ) (k : TaskProgress)
    → left_of_task kinds now ls task (progress_woken k) ≤ steps_ahead kinds k * 2
woken-most kinds now ls task k = at-most Runnable (k.timer == now) (nat_le 0 (0 + uncounted now ls task)) (steps_ahead kinds k) refl

-- a timer that rings takes one at least of what may still come
ring-takes : (kinds : List TaskKind) (seed : ℕ) (periods : Periods) (d e : Driver) (b c : Book) (task now : ℕ)
    (deeds : List Deed) (reported : Reported)
    → 1 ≤ periods.tick → DeedsMeet (due.Wake task) now deeds → DeedsLead kinds seed periods d b deeds reported e c
    → steps_left_at kinds now c.accounts + 1 ≤ steps_left_at kinds now b.accounts
ring-takes kinds seed periods d e b c task now deeds reported some (home, more, is, wake) leads =
    let (k, there, asleep, timer, rest) = subst (λ l. DeedsLead kinds seed periods d b l reported e c) is leads in
    let ls = b.accounts.by_processor in
    let steps = steps_ahead kinds k in
    let has : left_of_task kinds now ls task k ≡ 2 + steps * 2 =
    ap (λ (s : TaskState). left_in s (k.timer == now) (nat_le k.due (k.got + uncounted now ls task)) steps) asleep
    ∙ tests-true (k.timer == now) (2 + steps * 2) 0 (eq-eqb k.timer now timer) in
    omega (
      arith,
      wake-left kinds seed periods d e b c home task now 2 k more reported some wake rest there
          (omega (arith, has, woken-most kinds now ls task k)),
    )

-- a wake that a running task gives, or that is missed, leaves at most one thing more to come
wakes-left : (kinds : List TaskKind) (seed : ℕ) (periods : Periods) (d e : Driver) (b c : Book) (processor task now : ℕ)
    (deeds : List Deed) (reported : Reported)
    → 1 ≤ periods.tick → WakesTask task processor now deeds → DeedsLead kinds seed periods d b deeds reported e c
    → steps_left_at kinds now c.accounts ≤ steps_left_at kinds now b.accounts + 1
wakes-left kinds seed periods d e b c processor task now deeds reported some (inl is) leads =
    let (k, there, waits, rest) = subst (λ l. DeedsLead kinds seed periods d b l reported e c) is leads in
    omega (arith, nothing-left kinds seed periods d e b c now [] reported refl rest)
wakes-left kinds seed periods d e b c processor task now deeds reported some (inr (more, is, wake)) leads =
    let (k, there, waits, rest) = subst (λ l. DeedsLead kinds seed periods d b l reported e c) is leads in
    let ls = b.accounts.by_processor in
    let has : left_of_task kinds now ls task k ≡ steps_ahead kinds k * 2 =
    ap (λ (s : TaskState). left_in s (k.timer == now) (nat_le k.due (k.got + uncounted now ls task)) (steps_ahead kinds k))
    waits in
    omega (
      arith,
      wake-left kinds seed periods d e b c processor task now 0 k more reported some wake rest there
          (omega (arith, has, woken-most kinds now ls task k)),
    )

-- Ends of phases

-- a block, or whatever else follows an action, leaves at most one thing more to come:
block-left : (kinds : List TaskKind) (seed : ℕ) (periods : Periods) (d e : Driver) (b c : Book) (processor now : ℕ)
    (deeds : List Deed) (reported : Reported)
    → 1 ≤ periods.tick → AreJustEvents (Block processor now ∷ []) deeds → DeedsLead kinds seed periods d b deeds reported e c
    → steps_left_at kinds now c.accounts ≤ steps_left_at kinds now b.accounts + 1
block-left kinds seed periods d e b c processor now deeds reported some (reply, more, is, none) leads =
    let whole : deeds ≡ Happens (Block processor now) reply ∷ [] = is ∙ ap (λ l. Happens (Block processor now) reply ∷ l) none in
    let (due, mid, first, rest, does, (nothing, same, kept), all) = subst (λ l. DeedsLead kinds seed periods d b l reported e c) whole leads in
    let its : steps_left_at kinds now c.accounts
    ≡ steps_left_at kinds now (accounts_switched processor (runs_now reply) now periods (shrunk processor b.accounts)) =
    ap (λ (x : Book). steps_left_at kinds now x.accounts) kept in
    omega (
      arith,
      its,
      sized-left kinds now (λ n. n - 1) processor b.accounts,
      switched-one kinds periods now processor (runs_now reply) (shrunk processor b.accounts) some,
    )

follow-left : (action : Option Action) (aim : Option ℕ) (kinds : List TaskKind) (seed : ℕ) (periods : Periods) (d e : Driver)
    (b c : Book) (processor now : ℕ) (deeds : List Deed) (reported : Reported)
    → 1 ≤ periods.tick → FollowsAction action aim processor now deeds → DeedsLead kinds seed periods d b deeds reported e c
    → steps_left_at kinds now c.accounts ≤ steps_left_at kinds now b.accounts + 1
follow-left None aim kinds seed periods d e b c processor now deeds reported some follow leads =
    block-left kinds seed periods d e b c processor now deeds reported some follow leads
follow-left (Some (Run asked)) aim kinds seed periods d e b c processor now deeds reported some follow leads =
    omega (arith, nothing-left kinds seed periods d e b c now deeds reported follow leads)
follow-left (Some (Sleep asked)) aim kinds seed periods d e b c processor now deeds reported some follow leads =
    block-left kinds seed periods d e b c processor now deeds reported some follow leads
follow-left (Some Wait) aim kinds seed periods d e b c processor now deeds reported some follow leads =
    block-left kinds seed periods d e b c processor now deeds reported some follow leads
follow-left (Some (Wake kind)) None kinds seed periods d e b c processor now deeds reported some follow leads = absurd follow
follow-left (Some (Wake kind)) (Some task) kinds seed periods d e b c processor now deeds reported some follow leads =
    wakes-left kinds seed periods d e b c processor task now deeds reported some follow leads

-- a task that runs can run
runs-can : (s : TaskState) → (can_run s ≡ false → ⊥) → s ≡ Runnable
runs-can Asleep h = absurd (h refl)
runs-can Waiting h = absurd (h refl)
runs-can Runnable h = refl
runs-can Over h = absurd (h refl)

-- once it is counted until now it has run no longer uncounted
since-now : (b : Bool) (now since : ℕ) → since ≡ now → (if b then now - since else 0) ≤ 0
since-now true now since is = omega (arith, is)
since-now false now since is = omega arith

-- a task that runs at only one processor has run no time uncounted if that one is counted until now
none-uncounted : (now processor task : ℕ) (a : Accounts) (l : ProcessorState)
    → slice_get a.by_processor processor ≡ Some l → l.run ≡ Some task → l.since ≡ now → RunsAlone a processor
    → uncounted now a.by_processor task ≡ 0
none-uncounted now processor task a l at runs since alone =
    omega (
      arith,
      sum-most (uncounted_at now task) 0 a.by_processor (λ n x there. elim (cases_eq n processor) [
        | inl same ↦
            let its : l ≡ x = same_Some l x (sym at ∙ ap (slice_get a.by_processor) (sym same) ∙ there) in
            since-now (is_same x.run (Some task)) now x.since (sym (ap (λ (y : ProcessorState). y.since) its) ∙ since)
        | inr apart ↦ elim (cases_Bool (is_same x.run (Some task))) [
          | inl is ↦ absurd (apart (alone n task (run_of a processor l at ∙ runs) (run_of a n x there ∙ same_run x.run (Some task) is)))
          | inr not ↦ omega (arith, tests-false (is_same x.run (Some task)) (now - x.since) 0 not)
        ]
      ]),
    )

-- the end of a phase takes one at least of what may still come
end-takes : (w : Workload) (d e : Driver) (b c : Book) (processor now : ℕ) (deeds : List Deed) (reported : Reported)
    → first_flaw w ≡ None → now ≤ LATEST → DeedsMeet (due.End processor) now deeds → DeedsLeadIn w d b deeds reported e c
    → IsKept w.tasks.items now d b
    → steps_left_at w.tasks.items now c.accounts + 1 ≤ steps_left_at w.tasks.items now b.accounts
end-takes w d e b c processor now deeds reported sound early (task, action, aim, more, is, follow) leads h =
    let kinds = w.tasks.items in
    let seed = w.machine.seed in
    let periods = periods_of w.machine in
    let (k, done, its, to, rest) = subst (λ l. DeedsLead kinds seed periods d b l reported e c) is leads in
    let was : Accounts = b.accounts in
    let a : Accounts = accounts_charged processor now was in
    let next : Option Action = next_action kinds k in
    let agrees : AgreesWith (world_of d) a = agrees_charged (world_of d) was processor now h.agrees in
    let runs : runner_at a.by_processor processor ≡ Some task = run_of a processor done.processor_state done.at ∙ done.runs in
    let can : k.task_state ≡ Runnable =
    runs-can k.task_state (λ sleeps. sleeper_rests (world_of d) a task k agrees done.there sleeps processor runs) in
    let stand : AllStand kinds a.by_task =
    charged_keeps (λ x. AllStand kinds x.by_task) (standing_of_places kinds) processor now was h.standing.tasks in
    let stands : StandsAtAction kinds task k = stand task k done.there in
    let of = stands.of_kind in
    let good : IsSoundKind (length kinds) of.kind = sound_kind w k.kind of.kind sound of.there in
    let actions : kind_actions kinds k.kind ≡ of.kind.actions.items =
    ap (λ (o : Option TaskKind). option_map_or (λ (x : TaskKind). x.actions.items) o []) of.there in
    elim (some_or_none (slice_get was.by_processor processor)) [
      | inl none ↦
          let same : a ≡ was =
          ap (λ (o : Option ProcessorState).
          option_map_or (λ (l : ProcessorState). of_processor (λ x. record x { since = now }) processor (runner_charged l now was)) o was)
          none in
          absurd
          (none-some done.processor_state (sym none ∙ ap (λ (x : Accounts). slice_get x.by_processor processor) (sym same) ∙ done.at))
      | inr (l, at) ↦
          let since : done.processor_state.since ≡ now =
          ap (λ (x : ProcessorState). x.since)
          (same_Some done.processor_state (record l { since = now }) (sym done.at ∙ charged_there processor now was l at)) in
          let zero =
          none-uncounted now processor task a done.processor_state done.at done.runs since
          (tasks_run_alone (world_of d) a processor agrees) in
          let takes =
          act-takes kinds now seed task b.drawn a.by_processor k early (ap (list_any takes_time) actions ∙ good.time)
          (λ x there. good.each k.action x (sym (ap (λ (l : List Action). slice_get l k.action) actions) ∙ stands-at kinds k x there))
          stands.woken can done.done zero next refl in
          omega (
            arith,
            charged-left kinds now processor was l at,
            task-takes kinds now (λ _. acted kinds next (length_taken seed task b.drawn (asked_by next)) now k) task 2 a k done.there takes,
            follow-left action aim kinds seed periods d e (after_act kinds seed processor task now k b) c processor now more
                reported (sound_times w sound).tick follow rest,
          )
    ]

-- each thing that is the next takes a step of those that are left, where all is kept
pub meet-takes : (w : Workload) (d e : Driver) (b c : Book) (next : Due) (now : ℕ) (deeds : List Deed) (reported : Reported)
    → first_flaw w ≡ None → now ≤ w.machine.duration → IsNextDue w.machine.duration b.accounts next now → DeedsMeet next now deeds
    → DeedsLeadIn w d b deeds reported e c → IsKept w.tasks.items now d b
    → steps_left_at w.tasks.items now c.accounts + 1 ≤ steps_left_at w.tasks.items now b.accounts
meet-takes w d e b c (due.End processor) now deeds reported sound until is meet leads h =
    end-takes w d e b c processor now deeds reported sound (omega (arith, until, (sound_times w sound).duration)) meet leads h
meet-takes w d e b c (due.Wake task) now deeds reported sound until is meet leads h =
    ring-takes w.tasks.items w.machine.seed (periods_of w.machine) d e b c task now deeds reported
    (sound_times w sound).tick meet leads
meet-takes w d e b c (due.Tick processor) now deeds reported sound until is meet leads h =
    tick-takes w.tasks.items w.machine.seed (periods_of w.machine) d e b c processor now deeds reported
    (sound_times w sound).tick meet leads
meet-takes w d e b c (due.Look processor) now deeds reported sound until is meet leads h =
    look-takes w.tasks.items w.machine.seed (periods_of w.machine) d e b c processor now w.machine.duration deeds reported
    (sound_times w sound).tick (sound_times w sound).balance is meet leads h.agrees
