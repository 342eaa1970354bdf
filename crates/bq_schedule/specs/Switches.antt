-- Which task starts running with an answered event, and which stops; and the starts and stops that are reported.
use Rattle.std.specs.Prelude.{◌≡◌, ◌≢◌, ℕ, Bool, List, [], ◌∷◌, ◌++◌, ◌==◌, filter, Some, option_to_list}
use Rattle.bq_parts.specs.declared.event.Event.{Event}
use Rattle.bq_parts.specs.declared.event.Event.TheVariants.{Block}
use Rattle.bq_schedule.specs.declared.change.Start.{Start}
use Rattle.bq_schedule.specs.declared.change.Stop.{Stop}
use Rattle.bq_schedule.specs.declared.change.StopReason.{StopReason}
use Rattle.bq_schedule.specs.declared.change.StopReason.TheVariants.{Preempted, Blocked}
use Rattle.bq_schedule.specs.Histories.{AnsweredEvent, History}
use Rattle.bq_schedule.specs.Slices.{runner}
use Rattle.bq_schedule.specs.Steps.{change, figures}

-- a task starts running at a processor with an answered event: it runs there from then on, and did not before
abbrev pub BeginsAt : ℕ → ℕ → AnsweredEvent → History → Type 0
BeginsAt processor task m past = (runner processor (m ∷ past) ≡ Some task) × (runner processor past ≢ Some task)

-- a task stops running at a processor with an answered event: it ran there before, and does not from then on
abbrev pub CeasesAt : ℕ → ℕ → AnsweredEvent → History → Type 0
CeasesAt processor task m past = (runner processor past ≡ Some task) × (runner processor (m ∷ past) ≢ Some task)

-- why a task stops running: at a block it goes to sleep, and at any other event another task runs instead
abbrev pub why_left : Event → StopReason
why_left (Block processor now) = Blocked
why_left e = Preempted

-- the starts that a history reported of all processors, in their order
abbrev pub reported_starts : ℕ → History → List Start
reported_starts count [] = []
reported_starts count (m ∷ past) = reported_starts count past ++ option_to_list (change (figures count past) m.event m.answer).start

-- the stops that a history reported of all processors, in their order
abbrev pub reported_stops : ℕ → History → List Stop
reported_stops count [] = []
reported_stops count (m ∷ past) = reported_stops count past ++ option_to_list (change (figures count past) m.event m.answer).stop

-- whether a start is at this processor
abbrev pub is_start_at : ℕ → Start → Bool
is_start_at processor s = s.processor == processor

-- the starts that a history reported of one processor, in their order
abbrev pub starts_reported_at : ℕ → ℕ → History → List Start
starts_reported_at count processor past = filter (is_start_at processor) (reported_starts count past)

-- whether a stop is at this processor
abbrev pub is_stop_at : ℕ → Stop → Bool
is_stop_at processor s = is_start_at processor s.start

-- the stops that a history reported of one processor, in their order
abbrev pub stops_reported_at : ℕ → ℕ → History → List Stop
stops_reported_at count processor past = filter (is_stop_at processor) (reported_stops count past)
