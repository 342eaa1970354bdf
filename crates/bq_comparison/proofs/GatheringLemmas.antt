-- What is gathered of all events.
use Rattle.std.proofs.Common.{◌≡◌, ℕ, false, List, [], ◌∷◌, ◌++◌, Option, None, Some, IsSome, refl, sym, ap, subst, ◌∙◌, append_assoc, append-nil, arith}
use Rattle.bq_trace.specs.TraceEvents.{TraceEvent, Reported, TakesAll, Gets, Opened, Skipped, Comes, Answered, NotHex, NotLoaded, ProcessorAsked, CounterRead, Bad}
use Rattle.bq_words.specs.Sizes.{processors_in}
use Rattle.bq_workload.specs.declared.workload.Workload.{Workload}
use Rattle.bq_schedule.specs.Figures.{Figures, opening_figures}
use Rattle.bq_schedule.specs.Steps.{figures_after}
use Rattle.bq_schedule.specs.WakeLatencies.{Tasks, TakesStart, latencies_of}
use Rattle.bq_simulate.specs.Simulations.{Accepted, IsSimulation}
use Rattle.bq_experiment.specs.Limits.{PassesWithin}
use Rattle.bq_experiment.specs.declared.limited.Limited.{Limited}
use Rattle.bq_experiment.proofs.LimitLemmas.{lets_through}
use Rattle.bq_comparison.specs.declared.gathering.Gatherer.{Gatherer}
use Rattle.bq_comparison.specs.Gathering.{IsGathered, reported_latencies, latency_in, reported_start}
use Rattle.bq_comparison.proofs.LatencyLemmas.{takes_start}
use Rattle.bq_timeline.specs.Watching.{schedule_after, schedule_after_event}

-- what the sink takes of one event
abbrev pub Takes : Gatherer → ℕ → TraceEvent → Gatherer → Type 0
Takes old n traced new =
    (new.schedule ≡ schedule_after_event old.schedule traced) × TakesStart (reported_start traced old.schedule) old.latencies new.latencies

-- the schedule of a gatherer that took some events is the one after them
pub schedule-after : (old new : Gatherer) (reported : Reported)
    → TakesAll Takes old reported new → new.schedule ≡ schedule_after old.schedule reported
schedule-after old new [] h = ap (λ (g : Gatherer). g.schedule) h
schedule-after old new ((n, x) ∷ more) h = schedule-after h.0 new more h.2 ∙ ap (λ s. schedule_after s more) h.1.0

-- a task's latencies in a gatherer that took some events are the ones before and those of the events
pub latencies-after : (old new : Gatherer) (reported : Reported) → TakesAll Takes old reported new → (task : ℕ)
    → latencies_of new.latencies task ≡ latencies_of old.latencies task ++ reported_latencies task old.schedule reported
latencies-after old new [] h task =
    ap (λ (g : Gatherer). latencies_of g.latencies task) h ∙ sym (append-nil (latencies_of old.latencies task))
latencies-after old new ((n, x) ∷ more) h task =
    latencies-after h.0 new more h.2 task ∙ ap (λ s. latencies_of h.0.latencies task ++ reported_latencies task s more) h.1.0
    ∙ ap (λ l. l ++ reported_latencies task (schedule_after_event old.schedule x) more)
    (takes_start (reported_start x old.schedule) old.latencies h.0.latencies h.1.1 task)
    ∙ append_assoc (latencies_of old.latencies task) (latency_in task (reported_start x old.schedule))
    (reported_latencies task (schedule_after_event old.schedule x) more)

-- the schedule and the latencies of a whole simulation, of at most as many events as were left
pub gathers_simulation : (old new : Limited Gatherer) (policies : List Accepted) (w : Workload)
    → old.sink.schedule ≡ None → ((task : ℕ) → latencies_of old.sink.latencies task ≡ [])
    → Gets (PassesWithin Takes) old new (IsSimulation policies w) → new.is_over ≡ false
    → IsGathered policies w old.left new.sink.schedule new.sink.latencies
gathers_simulation old new policies w none empty g wants =
    let through = lets_through Takes old new g.reported g.taken wants in
    let taken = through.0 in
    let left = through.1 in
    record {
      reported = g.reported;
      simulation = g.holds;
      few = omega (arith, left);
      schedule_is = schedule-after old.sink new.sink g.reported taken ∙ ap (λ s. schedule_after s g.reported) none;
      latencies_are = λ task.
          latencies-after old.sink new.sink g.reported taken task
          ∙ ap (λ s. latencies_of old.sink.latencies task ++ reported_latencies task s g.reported) none
          ∙ ap (λ l. l ++ reported_latencies task None g.reported) (empty task);
    }

-- a schedule that has begun stays
stays : (s : Figures) (reported : Reported) → IsSome (schedule_after (Some s) reported)
stays s [] = refl
stays s ((n, Opened discipline size) ∷ more) = stays (opening_figures (processors_in size)) more
stays s ((n, Answered event answer m) ∷ more) = stays (figures_after s event answer) more
stays s ((n, Skipped line) ∷ more) = stays s more
stays s ((n, Comes event m) ∷ more) = stays s more
stays s ((n, NotHex) ∷ more) = stays s more
stays s ((n, NotLoaded why) ∷ more) = stays s more
stays s ((n, ProcessorAsked c m) ∷ more) = stays s more
stays s ((n, CounterRead i value) ∷ more) = stays s more
stays s ((n, Bad short_line) ∷ more) = stays s more

-- a schedule is gathered of each simulation, whose first event is that of its machine
pub schedule_gathered : (policies : List Accepted) (w : Workload) (event_limit : ℕ) (schedule : Option Figures) (tasks : Tasks)
    → IsGathered policies w event_limit schedule tasks → IsSome schedule
schedule_gathered policies w event_limit schedule tasks g =
    let run = g.simulation in
    let reported : g.reported ≡ (1, Opened w.machine.discipline w.machine.size) ∷ run.more =
    run.whole ∙ ap (λ (l : Reported). l ++ run.more) run.starts.reports in
    let is : schedule ≡ schedule_after (Some (opening_figures (processors_in w.machine.size))) run.more =
    g.schedule_is ∙ ap (schedule_after None) reported in
    subst IsSome (sym is) (stays (opening_figures (processors_in w.machine.size)) run.more)
