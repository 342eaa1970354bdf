-- A task that falls asleep while a simulation goes well blocks, unless memory runs out, and no switch goes astray then.
use Rattle.std.proofs.Common.{◌≡◌, ℕ, ◌-◌, ◌<◌, ◌≤◌, inl, inr, List, [], length, Option, Some, None, sym, subst, ap, ◌∙◌, arith}
use Rattle.std.specs.Prelude.{slice_get}
use Rattle.std.specs.Option.{option_map_or}
use Rattle.std.proofs.lemmas.Option.{none-some, same_Some, slice_get_within}
use Rattle.bq_disc.specs.Tasks.{Task, id_of, present}
use Rattle.bq_parts.specs.declared.event.Event.TheVariants.{Block}
use Rattle.bq_parts.specs.declared.reply.Reply.{Reply}
use Rattle.bq_parts.specs.World.{count_in, processor_at}
use Rattle.bq_trace.specs.TraceEvents.{Reported}
use Rattle.bq_workload.specs.declared.processor_state.ProcessorState.{ProcessorState}
use Rattle.bq_workload.specs.declared.periods.Periods.{Periods}
use Rattle.bq_workload.specs.declared.progress.TaskProgress.{TaskProgress}
use Rattle.bq_workload.specs.declared.workload.Workload.{Workload}
use Rattle.bq_workload.specs.Accounts.{Accounts, accounts_of, shrunk}
use Rattle.bq_workload.specs.Next.{HasHome, HaveHomes}
use Rattle.bq_workload.specs.Strays.{HasNoNext, IsStrayLeave, IsStraySwitch}
use Rattle.bq_workload.proofs.ListLemmas.{some_or_none}
use Rattle.bq_simulate.specs.declared.driver.Driver.{Driver}
use Rattle.bq_simulate.specs.declared.simulation.Simulation.{Simulation}
use Rattle.bq_simulate.specs.Agreement.{runner_at}
use Rattle.bq_simulate.specs.AgreementLaws.{FailsForMemory, RunsAlone}
use Rattle.bq_simulate.specs.Drives.{DrivesEvent, runs_now}
use Rattle.bq_simulate.specs.GoingWell.{FallsAsleep}
use Rattle.bq_simulate.specs.Simulations.{book_of}
use Rattle.bq_simulate.proofs.CallFaultLemmas.{calls_fail_for_memory}
use Rattle.bq_simulate.proofs.MeetAgreeLemmas.{block_agrees, world_of}
use Rattle.bq_simulate.proofs.NoStraySwitchLemmas.{CanSwitch, can_switch_sized, next_counted, no_stray_switch}
use Rattle.bq_simulate.proofs.SoundWorkloadLemmas.{sound_times}
use Rattle.bq_disc.specs.declared.clock.TheConstants.{LATEST}

-- what runs at a processor is read where that is there
runs_at_one : (ls : List ProcessorState) (processor task : ℕ)
    → runner_at ls processor ≡ Some task
    → (l : ProcessorState) × (slice_get ls processor ≡ Some l) × (l.run ≡ Some task)
runs_at_one ls processor task runs = elim (some_or_none (slice_get ls processor)) [
  | inl none ↦
      absurd (none-some task (sym (ap (λ (o : Option ProcessorState). option_map_or (λ (l : ProcessorState). l.run) o None) none) ∙ runs))
  | inr (l, at) ↦ (l, at, sym (ap (λ (o : Option ProcessorState). option_map_or (λ (x : ProcessorState). x.run) o None) at) ∙ runs)
]

-- where each task that runs somewhere ran there last it runs nowhere else
alone_by_homes : (a : Accounts) (processor : ℕ) → HaveHomes a → RunsAlone a processor
alone_by_homes a processor homes other task here there =
    let l = runs_at_one a.by_processor processor task here in
    let m = runs_at_one a.by_processor other task there in
    let one : HasHome a task processor = homes processor task l.0 l.1 l.2 in
    let two : HasHome a task other = homes other task m.0 m.1 m.2 in
    sym two.home ∙ ap (λ (c : TaskProgress). c.home) (same_Some two.progress one.progress (sym two.there ∙ one.there)) ∙ one.home

-- the instant can be counted
asleep_early : (w : Workload) (now processor : ℕ) (s : Simulation) → FallsAsleep w now processor s → now ≤ LATEST
asleep_early w now processor s h = omega (arith, h.until, (sound_times w h.sound).duration)

-- the processor is one of the machine
asleep_there : (w : Workload) (now processor : ℕ) (s : Simulation)
    → FallsAsleep w now processor s → processor < count_in (world_of s.driver)
asleep_there w now processor s h =
    let l = runs_at_one s.roster.by_processor.items processor h.task h.runs in
    omega (arith, slice_get_within s.roster.by_processor.items processor l.0 l.1, h.agrees.mirrors.processors.many)

-- the block of a task that falls asleep fails only for memory
pub block_fails : (w : Workload) (now processor : ℕ) (s : Simulation)
    → FallsAsleep w now processor s → FailsForMemory s.driver (Block processor now)
block_fails w now processor s h =
    calls_fail_for_memory.blocks s.driver (accounts_of s.roster) processor h.task now h.agrees
    (h.read, asleep_early w now processor s h) (asleep_there w now processor s h) h.runs

-- where a task falls asleep another may begin to run
asleep_can_switch : (w : Workload) (now processor : ℕ) (s : Simulation)
    → FallsAsleep w now processor s → CanSwitch s.roster.periods processor now (accounts_of s.roster)
asleep_can_switch w now processor s h =
    let l = runs_at_one s.roster.by_processor.items processor h.task h.runs in
    let times = sound_times w h.sound in
    record {
      state = l.0;
      at = l.1;
      low = omega (arith, asleep_there w now processor s h, h.few);
      alone = alone_by_homes (accounts_of s.roster) processor h.agreed.homes;
      on_time = h.on_time;
      ticks = λ late.
          next_counted w.machine.tick now times.tick times.tick_counted (asleep_early w now processor s h)
          (subst (λ (p : Periods). HasNoNext p.tick now) h.periods late);
    }

-- a task that runs is among those that run or wait
one_stands : (o : Option Task) (xs : List Task) (task : ℕ) → id_of o ≡ Some task → 1 ≤ length (present o xs)
one_stands None xs task h = absurd (none-some task h)
one_stands (Some t) xs task h = omega arith

-- the task that falls asleep leaves, and the processor runs what it is to run
pub block_leaves : (w : Workload) (now processor : ℕ) (s : Simulation) (e : Driver) (run : Option ℕ) (reply : Reply)
    (reported : Reported)
    → FallsAsleep w now processor s → runs_now reply ≡ run → DrivesEvent s.driver (Block processor now) reply reported e
    → IsStrayLeave s.roster.periods processor run now (accounts_of s.roster)
    → ⊥
block_leaves w now processor s e run reply reported h runs does (inl empty) =
    let m = h.agrees.mirrors.processors in
    let p = processor_at (world_of s.driver) processor in
    omega (arith, empty, m.sizes processor, one_stands p.running.current p.running.queue h.task (sym (m.runs processor) ∙ h.runs))
block_leaves w now processor s e run reply reported h runs does (inr astray) =
    let periods : Periods = s.roster.periods in
    let a : Accounts = accounts_of s.roster in
    no_stray_switch periods (world_of e) processor (runs_now reply) now (shrunk processor a)
    (can_switch_sized periods processor now processor (λ n. n - 1) a (asleep_can_switch w now processor s h))
    (block_agrees periods s.driver e (book_of s []) processor h.task now reply reported does h.agrees h.runs)
    (subst (λ o. IsStraySwitch periods processor o now (shrunk processor a)) (sym runs) astray)
