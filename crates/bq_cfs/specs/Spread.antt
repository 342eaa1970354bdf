-- The spread of CFS: how far apart the tasks of one processor can come while nothing enters and only the discipline decides
-- who gives way.
use Rattle.std.specs.Prelude.{ℕ, ◌+◌, ◌≤◌, max, List, [], ◌∷◌, Option, Some, None, All, IfSome}
use Rattle.std.specs.Option.{option_map_or}
use Rattle.bq_cfs.specs.declared.discipline.TheConstants.{GRANULARITY}
use Rattle.bq_weights.specs.VirtualTime.{IsWeight, vdelta_of}
use Rattle.bq_disc.specs.Tasks.{Task}
use Rattle.bq_disc.specs.Queues.{HasDistinctIds}
use Rattle.bq_disc.specs.OneProcessor.{Running, present_at, charge, choice_started, rise, ticked}
use Rattle.bq_cfs.specs.Cfs.{cfs, least}
use Rattle.bq_weights.specs.declared.TheConstants.{GREATEST_V, LEAST_WEIGHT}

-- what every processor keeps true of the tasks that are present: their ids differ, their weights are in the table's range,
-- and their virtual times are at most 2^62
pub record AreTasksSound (p : Running) : Type 0 where
  pub distinct : HasDistinctIds (present_at p)
  pub weights : All (λ t. IsWeight t.weight) (present_at p)
  pub ends : All (λ t. t.v ≤ GREATEST_V) (present_at p)

-- the greater of V and 1,000,000 beyond the least v of some tasks; V if there is no task
abbrev pub bound : ℕ → List Task → ℕ
bound V xs = option_map_or (λ (t : Task). max V (t.v + GRANULARITY)) (least xs) V

-- the running task is not beyond the bound, and no task present is beyond it by more than time d takes at the least weight
pub record IsSpreadWithin (V d : ℕ) (p : Running) : Type 0 where
  pub current : IfSome p.current (λ t. t.v ≤ bound V (present_at p))
  pub each : All (λ t. t.v ≤ bound V (present_at p) + vdelta_of d LEAST_WEIGHT) (present_at p)

-- an event, with the reading of the clock at which it comes
pub data SpreadEvent : Type 0 where
  Tick : ℕ → SpreadEvent
  Block : ℕ → SpreadEvent

-- the reading at which an event comes
abbrev pub event_time : SpreadEvent → ℕ
event_time (Tick now) = now
event_time (Block now) = now

-- Block: the current task goes, and the queue's choice runs; if nothing runs, the Block is refused and nothing changes
abbrev pub departed : Running → ℕ → Option Task → Running
departed p now None = p
departed p now (Some t) = choice_started cfs (record (charge cfs p now) { current = None })

-- the processor after an event, if only the discipline decides whether the current task gives way
abbrev pub processor_passed : Running → SpreadEvent → Running
processor_passed p (Tick now) = ticked cfs p now
processor_passed p (Block now) = departed p now p.current

-- the processor after some events, one after another
abbrev pub passed_all : Running → List SpreadEvent → Running
passed_all p [] = p
passed_all p (e ∷ es) = passed_all (processor_passed p e) es

-- the clock rises by at most d at each of the events
abbrev pub EventsRiseByAtMost : ℕ → Running → List SpreadEvent → Type 0
EventsRiseByAtMost d p [] = Unit {0}
EventsRiseByAtMost d p (e ∷ es) = (rise p (event_time e) ≤ d) × EventsRiseByAtMost d (processor_passed p e) es

-- if no v present is beyond V, the processor is within V and d
abbrev pub BeginsWithin : Type 0
BeginsWithin = (V d : ℕ) (p : Running) → All (λ t. t.v ≤ V) (present_at p) → IsSpreadWithin V d p

-- an event at which the clock rises by at most d keeps the processor within V and d
abbrev pub StaysWithin : Type 0
StaysWithin =
    (V d : ℕ) (p : Running) (e : SpreadEvent) → AreTasksSound p → IsSpreadWithin V d p → rise p (event_time e) ≤ d → AreTasksSound (processor_passed p e) × IsSpreadWithin V d (processor_passed p e)

-- any number of such events keep the processor within V and d
abbrev pub HistoryStaysWithin : Type 0
HistoryStaysWithin =
    (V d : ℕ) (p : Running) (es : List SpreadEvent) → AreTasksSound p → IsSpreadWithin V d p → EventsRiseByAtMost d p es → AreTasksSound (passed_all p es) × IsSpreadWithin V d (passed_all p es)
