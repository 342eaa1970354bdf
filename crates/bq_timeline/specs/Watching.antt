-- What a timeline keeps of a trace's events: the schedule, and how many lines were bad or refused.
use Rattle.std.specs.Prelude.{ℕ, [], ◌∷◌, Option, Some, Err, nat_lt, if◌then◌else◌}
use Rattle.bq_parts.specs.World.{count_in}
use Rattle.bq_words.specs.Sizes.{processors_in}
use Rattle.bq_streams.specs.Counts.{one_more}
use Rattle.bq_trace.specs.TraceEvents.{TraceEvent, Reported, Opened, Answered, NotHex, NotLoaded, ProcessorAsked, Bad}
use Rattle.bq_schedule.specs.Figures.{Figures, opening_figures}
use Rattle.bq_schedule.specs.Steps.{figures_after}

-- the schedule begins with the machine, and takes each event with its answer
abbrev pub schedule_after_event : Option Figures → TraceEvent → Option Figures
schedule_after_event s (Opened discipline size) = Some (opening_figures (processors_in size))
schedule_after_event (Some s) (Answered event answer m) = Some (figures_after s event answer)
schedule_after_event s traced = s

-- the count goes up by one for each line that is bad or refused
abbrev pub bad_or_refused_after_event : ℕ → TraceEvent → ℕ
bad_or_refused_after_event n (Answered event (Err refusal) m) = one_more n
bad_or_refused_after_event n NotHex = one_more n
bad_or_refused_after_event n (NotLoaded why) = one_more n
bad_or_refused_after_event n (ProcessorAsked c m) = if nat_lt c (count_in m.world) then n else one_more n
bad_or_refused_after_event n (Bad line) = one_more n
bad_or_refused_after_event n traced = n

-- the schedule after all these events, one after another
abbrev pub schedule_after : Option Figures → Reported → Option Figures
schedule_after s [] = s
schedule_after s ((line, traced) ∷ more) = schedule_after (schedule_after_event s traced) more

-- the count of bad or refused lines after all these events
abbrev pub bad_or_refused_after : ℕ → Reported → ℕ
bad_or_refused_after n [] = n
bad_or_refused_after n ((line, traced) ∷ more) = bad_or_refused_after (bad_or_refused_after_event n traced) more
