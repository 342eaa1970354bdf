-- While a simulation goes well no call of its roster goes astray, and those of its machine fail only if memory is wanted.
use Rattle.std.proofs.Common.{◌≡◌, ◌≢◌, ℕ, ◌+◌, ◌-◌, ◌<◌, ◌≤◌, ◌^◌, inl, inr, true, false, length, Option, Some, None, sym, subst, ap, ◌∙◌, arith}
use Rattle.std.specs.Prelude.{Ok, is_some, slice_get}
use Rattle.std.specs.Option.{option_map_or}
use Rattle.std.proofs.lemmas.Bool.{false≢true}
use Rattle.std.proofs.lemmas.Option.{none-some, slice_get_within}
use Rattle.bq_parts.specs.declared.event.Event.TheVariants.{BeginWake, Drain, EndWake, Pull, Tick}
use Rattle.bq_parts.specs.declared.reply.Reply.{Reply}
use Rattle.bq_parts.specs.Choices.{by_programs}
use Rattle.bq_parts.specs.Steps.{WorldStep}
use Rattle.bq_parts.specs.World.{World, count_in}
use Rattle.bq_parts.proofs.OnceLemmas.{few_at}
use Rattle.bq_parts.proofs.RefusalLemmas.{accepted, not_refused_is_there}
use Rattle.bq_core.proofs.SizeLemmas.{step_count}
use Rattle.bq_trace.specs.Machines.{discipline_of}
use Rattle.bq_trace.specs.TraceEvents.{Reported}
use Rattle.bq_workload.specs.declared.progress.TaskState.{TaskState}
use Rattle.bq_workload.specs.declared.progress.TaskState.TheVariants.{Asleep, Waiting, Runnable, Over}
use Rattle.bq_workload.specs.declared.processor_state.ProcessorState.{ProcessorState}
use Rattle.bq_workload.specs.declared.periods.Periods.{Periods}
use Rattle.bq_workload.specs.declared.workload.Workload.{Workload}
use Rattle.bq_workload.specs.Accounts.{Accounts, accounts_of, accounts_entered, grown, of_task, accounts_passed, shrunk}
use Rattle.bq_workload.specs.Dues.{size_at}
use Rattle.bq_workload.specs.TaskProgress.{progress_woken as woken_now}
use Rattle.bq_workload.specs.Strays.{HasNoNext, IsStrayEntry, IsStrayGrowth, IsStrayPass, IsStraySwitch, IsStrayWake}
use Rattle.bq_workload.proofs.ListLemmas.{changed_at-others, some_or_none}
use Rattle.bq_simulate.specs.declared.drive_fault.DriveFault.{DriveFault}
use Rattle.bq_simulate.specs.declared.drive_fault.DriveFault.TheVariants.{OutOfMemory}
use Rattle.bq_simulate.specs.declared.driver.Driver.{Driver}
use Rattle.bq_simulate.specs.declared.simulation.Simulation.{Simulation}
use Rattle.bq_simulate.specs.Agreement.{AgreesWith, can_run}
use Rattle.bq_simulate.specs.AgreementLaws.{FailsForMemory, IsDriverReady}
use Rattle.bq_simulate.specs.Deeds.{IsWokenFrom, IsWoken, is_busy}
use Rattle.bq_simulate.specs.Drives.{DrivesEvent, IsWakeFault, PlacesWoken, count_entered, runs_now, task_pulled}
use Rattle.bq_simulate.specs.GoingWell.{SimulationGoesWell}
use Rattle.bq_simulate.specs.Simulations.{book_of}
use Rattle.bq_simulate.proofs.CallFaultLemmas.{calls_fail_for_memory}
use Rattle.bq_simulate.proofs.EventTakenLemmas.{pulled_from_some}
use Rattle.bq_simulate.proofs.MeetAgreeLemmas.{pull_agrees, same_discipline, sleeps_if_woken, step_of, tick_agrees, world_of}
use Rattle.bq_simulate.proofs.MeetOnTimeLemmas.{sleeper_rests, woken_on_time}
use Rattle.bq_simulate.proofs.MirrorLemmas.{state_there}
use Rattle.bq_simulate.proofs.NoStraySwitchLemmas.{CanSwitch, can_switch, can_switch_sized, next_counted, no_stray_switch, runs_elsewhere}
use Rattle.bq_simulate.proofs.SoundWorkloadLemmas.{sound_times}
use Rattle.bq_simulate.proofs.WakeTakenLemmas.{present_there, sleeper_stands, wakes_are_taken}
use Rattle.bq_disc.specs.declared.clock.TheConstants.{LATEST}

-- an instant of a simulation that goes well can be read
pub well_early : (w : Workload) (now : ℕ) (s : Simulation) → SimulationGoesWell w now s → now ≤ LATEST
well_early w now s h = omega (arith, h.until, (sound_times w h.sound).duration)

-- the machine of a simulation that goes well can be given the instant
pub well_ready : (w : Workload) (now : ℕ) (s : Simulation) → SimulationGoesWell w now s → IsDriverReady s.driver (accounts_of s.roster) now
well_ready w now s h = record { agrees = h.kept.agrees; reading = (h.kept.read, well_early w now s h) }

-- in a simulation that goes well the next tick is counted
pub well_ticks : (w : Workload) (now : ℕ) (s : Simulation) → SimulationGoesWell w now s → HasNoNext s.roster.periods.tick now → ⊥
well_ticks w now s h late =
    let times = sound_times w h.sound in
    next_counted w.machine.tick now times.tick times.tick_counted (well_early w now s h)
    (subst (λ (p : Periods). HasNoNext p.tick now) h.periods late)

-- in a simulation that goes well the next look is counted
pub well_looks : (w : Workload) (now : ℕ) (s : Simulation) → SimulationGoesWell w now s → HasNoNext s.roster.periods.balance now → ⊥
well_looks w now s h late =
    let times = sound_times w h.sound in
    next_counted w.machine.balance now times.balance times.balance_counted (well_early w now s h)
    (subst (λ (p : Periods). HasNoNext p.balance now) h.periods late)

-- a processor of the accounts is one of the machine
pub well_there : (w : Workload) (now : ℕ) (s : Simulation) (processor : ℕ)
    → SimulationGoesWell w now s → processor < length s.roster.by_processor.items
    → processor < count_in (world_of s.driver)
well_there w now s processor h low = omega (arith, low, h.kept.agrees.mirrors.processors.many)

-- in a simulation that goes well another task may begin to run at a processor
pub well_can_switch : (w : Workload) (now : ℕ) (s : Simulation) (processor : ℕ)
    → SimulationGoesWell w now s → processor < count_in (world_of s.driver)
    → CanSwitch s.roster.periods processor now (accounts_of s.roster)
well_can_switch w now s processor h low =
    can_switch s.roster.periods (world_of s.driver) (accounts_of s.roster) processor now h.kept.agrees
    h.kept.on_time h.kept.few low (well_ticks w now s h)

-- Ticks

-- the tick of a processor fails only if memory is wanted
pub tick_fails : (w : Workload) (now : ℕ) (s : Simulation) (processor : ℕ)
    → SimulationGoesWell w now s → processor < length s.roster.by_processor.items
    → FailsForMemory s.driver (Tick processor now)
tick_fails w now s processor h few =
    calls_fail_for_memory.ticks s.driver (accounts_of s.roster) processor now (well_ready w now s h) (well_there w now s processor h few)

-- after its tick a processor runs what it is to run
pub tick_switches : (w : Workload) (now : ℕ) (s : Simulation) (e : Driver) (processor : ℕ) (run : Option ℕ) (reply : Reply)
    (reported : Reported)
    → SimulationGoesWell w now s → processor < length s.roster.by_processor.items
    → runs_now reply ≡ run → DrivesEvent s.driver (Tick processor now) reply reported e
    → IsStraySwitch s.roster.periods processor run now (accounts_of s.roster)
    → ⊥
tick_switches w now s e processor run reply reported h few runs does astray =
    let low = well_there w now s processor h few in
    no_stray_switch s.roster.periods (world_of e) processor (runs_now reply) now
    (accounts_of s.roster) (well_can_switch w now s processor h low)
    (tick_agrees s.roster.periods s.driver e (book_of s h.drawn) processor now reply reported does h.kept.agrees)
    (subst (λ o. IsStraySwitch s.roster.periods processor o now (accounts_of s.roster)) (sym runs) astray)

-- Pulls

-- what a processor is given, and who has run there, is as it may be where a task was pulled, or none
passed_switches : (task : Option ℕ) (periods : Periods) (processor from now : ℕ) (a : Accounts)
    → CanSwitch periods processor now a
    → CanSwitch periods processor now (option_map_or (λ _. accounts_passed from processor a) task a)
passed_switches None periods processor from now a h = h
passed_switches (Some id) periods processor from now a h =
    can_switch_sized periods processor now processor (λ n. n + 1) (shrunk from a)
    (can_switch_sized periods processor now from (λ n. n - 1) a h)

-- a processor of a world that agrees with accounts has few tasks
few_there : (w : World) (a : Accounts) (processor : ℕ) → AgreesWith w a → size_at a.by_processor processor ≤ 1024
few_there w a processor h = omega (arith, h.mirrors.processors.sizes processor, few_at w processor h.entries h.orderly)

-- a processor of a world that agrees with accounts takes a task more
takes_one : (w : World) (a : Accounts) (processor : ℕ) → AgreesWith w a → processor < count_in w → IsStrayGrowth processor 1 a → ⊥
takes_one w a processor h low (inl none) = let l = state_there w a processor h.mirrors.processors low in none-some l.0 (sym none ∙ l.1)
takes_one w a processor h low (inr high) = omega (arith, high, few_there w a processor h)

-- a pull of one processor from another fails only if memory is wanted
pub pull_fails : (w : Workload) (now : ℕ) (s : Simulation) (processor from : ℕ)
    → SimulationGoesWell w now s → processor < length s.roster.by_processor.items
    → from < length s.roster.by_processor.items → processor ≢ from
    → FailsForMemory s.driver (Pull processor from now)
pull_fails w now s processor from h low low' apart =
    calls_fail_for_memory.pulls s.driver (accounts_of s.roster) processor from now (well_ready w now s h)
    (well_there w now s processor h low) (well_there w now s from h low') apart

-- the task that a pull took leaves one queue and enters the other
pub pull_passes : (w : Workload) (now : ℕ) (s : Simulation) (e : Driver) (processor from : ℕ) (task : Option ℕ)
    (reply : Reply) (reported : Reported)
    → SimulationGoesWell w now s → processor < length s.roster.by_processor.items → processor ≢ from
    → task_pulled reply ≡ task → DrivesEvent s.driver (Pull processor from now) reply reported e → task ≢ None
    → IsStrayPass from processor (accounts_of s.roster)
    → ⊥
pull_passes w now s e processor from task reply reported h low apart takes does some (inl empty) =
    let world : World = world_of s.driver in
    let a : Accounts = accounts_of s.roster in
    let step = step_of s.driver (Pull processor from now) reply reported e does in
    let one =
    pulled_from_some (discipline_of s.driver.machine.discipline) world (world_of e) processor from now does.happens.moves.step.calls
    reply h.kept.agrees.orderly (λ none. some (sym takes ∙ none)) step in
    omega (arith, empty, one, h.kept.agrees.mirrors.processors.sizes from)
pull_passes w now s e processor from task reply reported h low apart takes does some (inr growth) =
    let a : Accounts = accounts_of s.roster in
    let l = state_there (world_of s.driver) a processor h.kept.agrees.mirrors.processors (well_there w now s processor h low) in
    let same : slice_get (shrunk from a).by_processor processor ≡ slice_get a.by_processor processor =
    changed_at-others (λ (y : ProcessorState). record y { size = y.size - 1 }) a.by_processor from processor apart in
    takes_one (world_of s.driver) a processor h.kept.agrees (well_there w now s processor h low)
    (elim growth [
      | inl none ↦ inl (sym same ∙ none)
      | inr high ↦
          inr (subst (λ (o : Option ProcessorState). 2 ^ 32 ≤ option_map_or (λ (y : ProcessorState). y.size) o 0 + 1) same high)
    ])

-- after a pull the processor runs what it is to run
pub pull_switches : (w : Workload) (now : ℕ) (s : Simulation) (e : Driver) (processor from : ℕ) (task run : Option ℕ)
    (reply : Reply) (reported : Reported)
    → SimulationGoesWell w now s → processor < length s.roster.by_processor.items → runs_now reply ≡ run → task_pulled reply ≡ task
    → DrivesEvent s.driver (Pull processor from now) reply reported e
    → IsStraySwitch s.roster.periods processor run now
    (option_map_or (λ _. accounts_passed from processor (accounts_of s.roster)) task (accounts_of s.roster))
    → ⊥
pull_switches w now s e processor from task run reply reported h low runs takes does astray =
    let a : Accounts = accounts_of s.roster in
    let periods : Periods = s.roster.periods in
    let after : Option ℕ → Accounts = λ o. option_map_or (λ _. accounts_passed from processor a) o a in
    let mine : IsStraySwitch periods processor (runs_now reply) now (after (task_pulled reply)) =
    subst (λ o. IsStraySwitch periods processor o now (after (task_pulled reply))) (sym runs)
    (subst (λ o. IsStraySwitch periods processor run now (after o)) (sym takes) astray) in
    no_stray_switch periods (world_of e) processor (runs_now reply) now (after (task_pulled reply))
    (passed_switches (task_pulled reply) periods processor from now a
    (well_can_switch w now s processor h (well_there w now s processor h low)))
    (pull_agrees periods s.driver e (book_of s h.drawn) processor from now reply reported does h.kept.agrees) mine

-- Wakes

-- a processor that runs something is one of the accounts
busy_there : (a : Accounts) (processor : ℕ) → is_busy a processor ≡ true → processor < length a.by_processor
busy_there a processor busy = elim (some_or_none (slice_get a.by_processor processor)) [
  | inl none ↦
      absurd
      (false≢true (sym (ap (λ (o : Option ProcessorState). option_map_or (λ (l : ProcessorState). is_some l.run) o false) none) ∙ busy))
  | inr (l, at) ↦ slice_get_within a.by_processor processor l at
]

-- a task that may be woken is woken from one of the processors
from_there : (w : World) (a : Accounts) (state : TaskState) (home from : ℕ)
    → AgreesWith w a → home < count_in w → IsWokenFrom a state home from → from < count_in w
from_there w a Asleep home from h low same = omega (arith, same, low)
from_there w a Waiting home from h low busy = omega (arith, busy_there a from busy, h.mirrors.processors.many)
from_there w a Runnable home from h low none = absurd none
from_there w a Over home from h low none = absurd none

-- a wake that may come is from one of the processors, and of a task that cannot run:
woken_from : (w : World) (a : Accounts) (from task : ℕ) → AgreesWith w a → (woken : IsWoken a from task) → from < count_in w
woken_from w a from task h woken =
    from_there w a woken.progress.task_state woken.progress.home from h (h.homes task woken.progress woken.there) woken.place

woken_sleeps : (a : Accounts) (from task : ℕ) (woken : IsWoken a from task) → can_run woken.progress.task_state ≡ false
woken_sleeps a from task woken = sleeps_if_woken a woken.progress.task_state woken.progress.home from woken.place

-- it rests, and has a number that a timer may have
pub wake_rests : (w : Workload) (now : ℕ) (s : Simulation) (from task : ℕ)
    → SimulationGoesWell w now s → IsWoken (accounts_of s.roster) from task → IsStrayWake task (accounts_of s.roster)
    → ⊥
wake_rests w now s from task h woken (inl moves) =
    let a : Accounts = accounts_of s.roster in
    let nowhere = sleeper_rests (world_of s.driver) a task woken.progress h.kept.agrees woken.there (woken_sleeps a from task woken) in
    moves (record {
      progress = woken.progress;
      there = woken.there;
      still = runs_elsewhere a.by_processor woken.progress.home task (nowhere woken.progress.home);
    })
wake_rests w now s from task h woken (inr high) =
    let world : World = world_of s.driver in
    let stands = sleeper_stands world (accounts_of s.roster) task woken.progress h.kept.agrees woken.there in
    omega (arith, high, present_there world task stands.0, h.kept.agrees.entries)

-- its wake fails only if memory is wanted
pub wake_fails : (w : Workload) (now : ℕ) (s : Simulation) (from task : ℕ) (why : DriveFault)
    → SimulationGoesWell w now s → IsWoken (accounts_of s.roster) from task → IsWakeFault s.driver from task now why
    → why ≡ OutOfMemory
wake_fails w now s from task why h woken fails =
    let a : Accounts = accounts_of s.roster in
    calls_fail_for_memory.wakes s.driver a from task now woken.progress why (well_ready w now s h)
    (woken_from (world_of s.driver) a from task h.kept.agrees woken) woken.there (woken_sleeps a from task woken) fails

-- the drain at the processor where a task was placed fails only if memory is wanted
pub drain_fails : (w : Workload) (now : ℕ) (s : Simulation) (e : Driver) (from task to : ℕ) (reported : Reported)
    → SimulationGoesWell w now s → IsWoken (accounts_of s.roster) from task → PlacesWoken s.driver from task now to reported e
    → FailsForMemory e (Drain to now)
drain_fails w now s e from task to reported h woken places =
    let a : Accounts = accounts_of s.roster in
    calls_fail_for_memory.drains s.driver e a from task to now woken.progress reported (well_ready w now s h)
    (woken_from (world_of s.driver) a from task h.kept.agrees woken) woken.there (woken_sleeps a from task woken) places

-- where a task was placed it is taken in
pub record IsIn (periods : Periods) (d e : Driver) (a : Accounts) (to now : ℕ) (reply : Reply) : Type 0 where
  pub low : to < count_in (world_of d)
  pub one : count_entered reply ≡ 1
  pub agrees : AgreesWith (world_of e) (accounts_entered to (count_entered reply) (runs_now reply) now periods a)

-- where a woken task was placed and taken in, one task has entered, and world and accounts agree
is_in : (periods : Periods) (d mid e : Driver) (a : Accounts) (from task to now : ℕ) (first more : Reported) (reply : Reply)
    → AgreesWith (world_of d) a → (woken : IsWoken a from task) → PlacesWoken d from task now to first mid
    → DrivesEvent mid (Drain to now) reply more e
    → IsIn periods d e (of_task woken_now task a) to now reply
is_in periods d mid e a from task to now first more reply h woken places drains =
    let w : World = world_of d in
    let one : Driver = places.mid in
    let begins = places.begins in
    let ends = places.ends in
    let r = discipline_of d.machine.discipline in
    let begin =
    wakes_are_taken r periods w a from task now woken.progress h (woken_from w a from task h woken) woken.there
    (woken_sleeps a from task woken) in
    let step = step_of d (BeginWake from task) places.begun places.first one begins in
    let end = begin.leaves begins.happens.moves.step.calls places.begun (world_of one) step in
    let rule2 = same_discipline d (BeginWake from task) places.begun places.first one begins in
    let step2 =
    subst
    (λ x. WorldStep (by_programs x) (world_of one) (EndWake from now) ends.happens.moves.step.calls (Ok places.placed) (world_of mid))
    rule2 (step_of one (EndWake from now) places.placed places.more mid ends) in
    let drain = end.leaves ends.happens.moves.step.calls places.placed (world_of mid) step2 to places.place in
    let rule3 = same_discipline one (EndWake from now) places.placed places.more mid ends ∙ rule2 in
    let step3 =
    subst (λ x. WorldStep (by_programs x) (world_of mid) (Drain to now) drains.happens.moves.step.calls (Ok reply) (world_of e))
    rule3 (step_of mid (Drain to now) reply more e drains) in
    let done = drain.leaves drains.happens.moves.step.calls reply (world_of e) step3 in
    let low = (not_refused_is_there (count_in (world_of mid)) to None (accepted (world_of mid) (Drain to now) step3.0).0).0 in
    let count =
    step_count (by_programs r) (world_of one) (EndWake from now) ends.happens.moves.step.calls (Ok places.placed) (world_of mid) step2
    ∙ step_count (by_programs r) w (BeginWake from task) begins.happens.moves.step.calls (Ok places.begun) (world_of one) step in
    record { low = omega (arith, low, count); one = done.0; agrees = done.1 }

-- the processor on which a task was placed runs what it is to run
pub wake_enters : (w : Workload) (now : ℕ) (s : Simulation) (mid e : Driver) (from task to count : ℕ) (run : Option ℕ)
    (first more : Reported) (reply : Reply) (periods : Periods) (b : Accounts)
    → SimulationGoesWell w now s → IsWoken (accounts_of s.roster) from task → PlacesWoken s.driver from task now to first mid
    → DrivesEvent mid (Drain to now) reply more e → runs_now reply ≡ run → count_entered reply ≡ count
    → periods ≡ s.roster.periods → b ≡ of_task woken_now task (accounts_of s.roster) → IsStrayEntry periods to count run now b
    → ⊥
wake_enters w now s mid e from task to count run first more reply periods b h woken places drains runs
    counts costs is astray =
    let a : Accounts = accounts_of s.roster in
    let its : Periods = s.roster.periods in
    let awake : Accounts = of_task woken_now task a in
    let entered = is_in its s.driver mid e a from task to now first more reply h.kept.agrees woken places drains in
    let mine : IsStrayEntry its to (count_entered reply) (runs_now reply) now awake =
    subst (λ o. IsStrayEntry its to (count_entered reply) o now awake) (sym runs)
    (subst (λ n. IsStrayEntry its to n run now awake) (sym counts)
    (subst (λ (p : Periods). IsStrayEntry p to count run now awake) costs
    (subst (λ (x : Accounts). IsStrayEntry periods to count run now x) is astray))) in
    let here : CanSwitch its to now a = well_can_switch w now s to h entered.low in
    let nowhere = sleeper_rests (world_of s.driver) a task woken.progress h.kept.agrees woken.there (woken_sleeps a from task woken) in
    let rises : CanSwitch its to now awake = record {
      state = here.state;
      at = here.at;
      low = here.low;
      alone = here.alone;
      on_time = woken_on_time now task a nowhere here.on_time;
      ticks = here.ticks;
    } in
    elim mine [
      | inl growth ↦ takes_one (world_of s.driver) a to h.kept.agrees entered.low (subst (λ n. IsStrayGrowth to n awake) entered.one growth)
      | inr switch ↦
          no_stray_switch its (world_of e) to (runs_now reply) now (grown to (count_entered reply) awake)
          (can_switch_sized its to now to (λ n. n + count_entered reply) awake rises) entered.agrees switch
    ]
