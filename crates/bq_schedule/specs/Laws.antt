-- The laws of schedules.
use Rattle.std.specs.Prelude.{◌≡◌, ℕ, ◌+◌, ◌-◌, ◌*◌, ◌^◌, ◌<◌, ◌≤◌, min, true, All, List, [], ◌∷◌, ◌++◌, map, Option, Some, None, IfSome, IsSomeAnd, Result, option_to_list, ◌==◌, if◌then◌else◌}
use Rattle.std.specs.Option.{option_map}
use Rattle.bq_disc.specs.declared.limits.TheConstants.{TASKS}
use Rattle.bq_disc.specs.Tasks.{id_of}
use Rattle.bq_disc.specs.Discipline.{Discipline}
use Rattle.bq_bpf.specs.declared.board.CounterCall.{CounterCall}
use Rattle.bq_parts.specs.declared.event.Event.{Event}
use Rattle.bq_parts.specs.declared.reply.Reply.{Reply}
use Rattle.bq_parts.specs.declared.refusal.Refusal.{Refusal}
use Rattle.bq_parts.specs.World.{World, opening_world, processor_at}
use Rattle.bq_parts.specs.Steps.{WorldRun}
use Rattle.bq_parts.specs.Choices.{under_any_answers}
use Rattle.bq_schedule.specs.declared.slice.Slice.{Slice}
use Rattle.bq_schedule.specs.declared.change.Start.{Start}
use Rattle.bq_schedule.specs.declared.change.Stop.{Stop}
use Rattle.bq_schedule.specs.Histories.{AnsweredEvent, History}
use Rattle.bq_schedule.specs.Figures.{processor_in_figures, task_in_figures}
use Rattle.bq_schedule.specs.Running.{running_task}
use Rattle.bq_schedule.specs.Counts.{parts_per_nanosecond}
use Rattle.bq_schedule.specs.Passing.{parts_per_weight}
use Rattle.bq_schedule.specs.Observed.{observed_time, idle_in}
use Rattle.bq_schedule.specs.Runnable.{fair_of}
use Rattle.bq_schedule.specs.FairTimes.{share, all_fair, all_unshared, all_busy}
use Rattle.bq_schedule.specs.Slices.{ShownByAnswer, shown_by_answer, clock, runner, slices, time_in, is_of, is_slice_at, StandApart, slices_at, runs}
use Rattle.bq_schedule.specs.Wakes.{begins_run, awaited}
use Rattle.bq_schedule.specs.Steps.{change, figures}
use Rattle.bq_schedule.specs.Switches.{BeginsAt, CeasesAt, why_left, starts_reported_at, stops_reported_at}
use Rattle.bq_schedule.specs.Waits.{waits_since, reported_waits}

-- what an answer shows is of one of this many processors
abbrev pub IsShownWithin : ℕ → Option ShownByAnswer → Type 0
IsShownWithin count None = Unit {0}
IsShownWithin count (Some s) = s.processor < count

-- a history of this many processors
abbrev pub IsOfProcessors : ℕ → History → Type 0
IsOfProcessors count [] = Unit {0}
IsOfProcessors count (m ∷ past) = IsShownWithin count (shown_by_answer m.event m.answer) × IsOfProcessors count past

-- a history with some events and their answers on top
abbrev pub history_grown : History → List Event → List (Result Reply Refusal) → History
history_grown past (e ∷ es) (a ∷ answers) = history_grown (record { event = e; answer = a } ∷ past) es answers
history_grown past es answers = past

-- What the world charges is what the slices say. Take any history of a world of this many processors, under any discipline and
-- any answers of policies. Then each processor's last reading is the clock of the history, and its current task is the one that runs.
-- So at each reading the world charges the slice's task, and the clock rises by the slice's length.
abbrev pub IsCharged : Type 0
IsCharged = (d : Discipline) (count : ℕ) (es : List Event) (calls : List (List CounterCall)) (answers : List (Result Reply Refusal)) (w : World) →
    WorldRun (under_any_answers d) (opening_world count) es calls answers w →
    let past = history_grown [] es answers in
    IsOfProcessors count past
    × ((processor : ℕ) → processor < count →
    ((processor_at w processor).running.last ≡ clock processor past) × (id_of (processor_at w processor).running.current ≡ runner processor past))

-- the figures show each processor's last reading and which task runs there
abbrev pub ShowsClocks : Type 0
ShowsClocks = (count : ℕ) (past : History) (processor : ℕ) → IsOfProcessors count past → processor < count →
    ((processor_in_figures (figures count past) processor).last ≡ clock processor past)
    × (running_task (processor_in_figures (figures count past) processor) ≡ runner processor past)

-- each answered event reports the slice that it ends
abbrev pub ReportsSlices : Type 0
ReportsSlices = (count : ℕ) (past : History) (m : AnsweredEvent) → IsOfProcessors count (m ∷ past) →
    slices (m ∷ past) ≡ slices past ++ option_to_list (change (figures count past) m.event m.answer).slice

-- the time of a task is the sum of its slices, and the time of a processor is the sum of its slices
abbrev pub AddsUpSlices : Type 0
AddsUpSlices = (count : ℕ) (past : History) → count ≤ 255 → IsOfProcessors count past →
    ((id : ℕ) → id < TASKS → (task_in_figures (figures count past) id).time ≡ time_in (is_of id) (slices past))
    × ((processor : ℕ) → processor < count → (processor_in_figures (figures count past) processor).busy ≡ time_in (is_slice_at processor) (slices past))

-- the slices of a processor do not overlap, and none ends after its last reading
abbrev pub SlicesStandApart : Type 0
SlicesStandApart = (past : History) (processor : ℕ) → StandApart (slices_at processor past) × All (λ s. s.to ≤ clock processor past) (slices_at processor past)

-- the time from the first reading of a processor's clock to the last
abbrev pub window_since : Option ℕ → ℕ → ℕ
window_since None last = 0
window_since (Some first) last = last - first

-- the slices of a processor take no more than the time from its first reading to its last; together with its idle time they fill the
-- observed time
abbrev pub FillsObservedTime : Type 0
FillsObservedTime = (count : ℕ) (past : History) (processor : ℕ) → count ≤ 255 → IsOfProcessors count past → processor < count →
    let s = figures count past in
    let p = processor_in_figures s processor in
    (time_in (is_slice_at processor) (slices past) ≤ window_since p.first p.last)
    × (time_in (is_slice_at processor) (slices past) + idle_in (observed_time s) p ≡ observed_time s)

-- A start is reported when its task starts running. If the task has not run since its last wake, the start reports the time from the
-- end of that wake. So a wake has at most one latency: the time to its task's first run
abbrev pub ReportsLatencies : Type 0
ReportsLatencies = (count : ℕ) (past : History) (m : AnsweredEvent) (start : Start) → IsOfProcessors count (m ∷ past) → start.task < TASKS →
    (change (figures count past) m.event m.answer).start ≡ Some start →
    (begins_run start.task past (shown_by_answer m.event m.answer) ≡ true)
    × (start.at ≡ clock start.processor (m ∷ past))
    × (start.latency ≡ option_map (λ (woken : ℕ). start.at - woken) (awaited start.task past))

-- the fair time of a task rises at a reading by its share of the slice, and changes at nothing else
abbrev pub SharesOut : Type 0
SharesOut = (count : ℕ) (past : History) (m : AnsweredEvent) (id : ℕ) → count ≤ 255 → IsOfProcessors count (m ∷ past) →
    fair_of (figures count (m ∷ past)) id ≡ fair_of (figures count past) id + share (figures count past) (shown_by_answer m.event m.answer) id

-- all fair times, and the parts that could not be shared out, add up to the time in which any task ran
abbrev pub AddsUpFairTimes : Type 0
AddsUpFairTimes = (count : ℕ) (past : History) → count ≤ 255 → IsOfProcessors count past →
    let s = figures count past in
    all_fair s + all_unshared s ≡ parts_per_nanosecond * all_busy s

-- each slice leaves over fewer parts than there are units of weight
abbrev pub LeavesLittle : Type 0
LeavesLittle = (time weight : ℕ) → 0 < weight → time * parts_per_nanosecond - weight * parts_per_weight time weight < weight

-- the run that an answered event reports, if it is of this processor
abbrev pub reported_if : ℕ → Option ShownByAnswer → Option Slice → List Slice
reported_if processor None run = []
reported_if processor (Some s) run = if s.processor == processor then option_to_list run else []

-- the runs that a history reported of a processor, in their order
abbrev pub reported_runs : ℕ → ℕ → History → List Slice
reported_runs count processor [] = []
reported_runs count processor (m ∷ past) =
    reported_runs count processor past ++ reported_if processor (shown_by_answer m.event m.answer) (change (figures count past) m.event m.answer).run

-- the reported runs of a processor and its last run, which may go on, are the runs that the slices there make
abbrev pub ReportsRuns : Type 0
ReportsRuns = (count : ℕ) (past : History) (processor : ℕ) → IsOfProcessors count past → processor < count →
    reported_runs count processor past ++ option_to_list (processor_in_figures (figures count past) processor).run ≡ runs (slices_at processor past)

-- a start is reported exactly when a task starts running: each task that starts is reported, and each reported start is of a task that
-- starts there, with the reading of that processor's clock
abbrev pub ReportsStarts : Type 0
ReportsStarts = (count : ℕ) (past : History) (m : AnsweredEvent) → IsOfProcessors count (m ∷ past) →
    let reported = (change (figures count past) m.event m.answer).start in
    ((processor task : ℕ) → processor < count → BeginsAt processor task m past → IsSomeAnd reported (λ s. (s.processor ≡ processor) × (s.task ≡ task)))
    × IfSome reported (λ s. (s.processor < count) × BeginsAt s.processor s.task m past × (s.at ≡ clock s.processor (m ∷ past)))

-- a stop is reported exactly when a task stops running, with the reading of the processor's clock and the reason
abbrev pub ReportsStops : Type 0
ReportsStops = (count : ℕ) (past : History) (m : AnsweredEvent) → IsOfProcessors count (m ∷ past) →
    let reported = (change (figures count past) m.event m.answer).stop in
    ((processor task : ℕ) → processor < count → CeasesAt processor task m past → IsSomeAnd reported (λ s. (s.start.processor ≡ processor) × (s.start.task ≡ task)))
    × IfSome reported (λ s.
    (s.start.processor < count)
    × CeasesAt s.start.processor s.start.task m past
    × (s.at ≡ clock s.start.processor (m ∷ past))
    × (s.reason ≡ why_left m.event))

-- the reported starts of a processor are, in their order, those that its stops ended, and then the start of the running task, if one
-- runs: so each start ends with one stop, and starts and stops alternate
abbrev pub EndsStarts : Type 0
EndsStarts = (count : ℕ) (past : History) (processor : ℕ) → IsOfProcessors count past → processor < count →
    starts_reported_at count processor past ≡ map (λ (s : Stop). s.start) (stops_reported_at count processor past) ++ option_to_list (processor_in_figures (figures count past) processor).running

-- a start reports how long its task has waited: from when it was placed, preempted or pulled to the start. A pull reports how long
-- the task had waited until then. A wait that would be negative, because clocks disagree, is 0
abbrev pub ReportsWaits : Type 0
ReportsWaits = (count : ℕ) (past : History) (m : AnsweredEvent) → IsOfProcessors count (m ∷ past) →
    let reported = change (figures count past) m.event m.answer in
    IfSome reported.start (λ s. s.task < TASKS → s.waited ≡ s.at - waits_since s.task (m ∷ past))
    × IfSome reported.pull (λ p. p.task < TASKS → p.waited ≡ p.at - waits_since p.task past)

-- how long a task has waited in all is the sum of the waits in its pulls and starts, up to the greatest number of 64 bits
abbrev pub AddsUpWaits : Type 0
AddsUpWaits = (count : ℕ) (past : History) (id : ℕ) → IsOfProcessors count past → id < TASKS →
    (task_in_figures (figures count past) id).waited ≡ min (reported_waits count id past) (2 ^ 64 - 1)
