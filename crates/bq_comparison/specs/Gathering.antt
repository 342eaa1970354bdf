-- What is kept of the events of a simulation: its schedule, and the latencies of each task, from a wake until it ran.
use Rattle.std.specs.Prelude.{◌≡◌, ◌≤◌, ℕ, ◌==◌, List, [], ◌∷◌, ◌++◌, Option, Some, None, if◌then◌else◌}
use Rattle.bq_workload.specs.declared.workload.Workload.{Workload}
use Rattle.bq_trace.specs.TraceEvents.{TraceEvent, Reported, Answered}
use Rattle.bq_schedule.specs.declared.change.Start.{Start}
use Rattle.bq_schedule.specs.Figures.{Figures}
use Rattle.bq_schedule.specs.Steps.{change}
use Rattle.bq_schedule.specs.WakeLatencies.{Tasks, latencies_of}
use Rattle.bq_simulate.specs.Simulations.{Accepted, IsSimulation}
use Rattle.bq_experiment.specs.Limits.{events_in}
use Rattle.bq_timeline.specs.Watching.{schedule_after, schedule_after_event}

-- the start that an event tells, if it tells one
abbrev pub reported_start : TraceEvent → Option Figures → Option Start
reported_start (Answered event answer m) (Some s) = (change s event answer).start
reported_start traced s = None

-- what a task has of a latency of the task of this number
abbrev pub own_latency : ℕ → ℕ → Option ℕ → List ℕ
own_latency task id None = []
own_latency task id (Some latency) = if id == task then latency ∷ [] else []

-- what a start adds to a task's latencies: its latency, if the start is the task's and has one
abbrev pub latency_in : ℕ → Option Start → List ℕ
latency_in task None = []
latency_in task (Some start) = own_latency task start.task start.latency

-- the latencies that a task's starts tell, one after another
abbrev pub reported_latencies : ℕ → Option Figures → Reported → List ℕ
reported_latencies task s [] = []
reported_latencies task s ((n, traced) ∷ more) = latency_in task (reported_start traced s) ++ reported_latencies task (schedule_after_event s traced) more

-- the schedule and each task's latencies of a simulation of that workload with these policies, of at most this many events
pub record IsGathered (policies : List Accepted) (w : Workload) (event_limit : ℕ) (schedule : Option Figures) (tasks : Tasks) : Type 0 where
  pub reported : Reported
  pub simulation : IsSimulation policies w reported
  pub few : events_in reported ≤ event_limit
  pub schedule_is : schedule ≡ schedule_after None reported
  pub latencies_are : (task : ℕ) → latencies_of tasks task ≡ reported_latencies task None reported
