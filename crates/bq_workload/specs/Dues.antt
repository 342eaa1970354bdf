-- What comes due, when, and its rank among the things of one instant.
use Rattle.std.specs.Prelude.{◌≡◌, ℕ, ◌+◌, ◌-◌, ◌*◌, ◌/◌, ◌^◌, ◌<◌, ◌≤◌, ◌==◌, ◌&&◌, min, nat_lt, nat_le, List, Option, Some, None, slice_get, if◌then◌else◌}
use Rattle.std.specs.Option.{option_map_or}
use Rattle.bq_disc.specs.declared.limits.TheConstants.{PROCESSORS, TASKS}
use Rattle.bq_workload.specs.declared.progress.TaskProgress.{TaskProgress}
use Rattle.bq_workload.specs.declared.due.TheConstants.{FIRST_LOOK, FIRST_TICK, FIRST_WAKE, RANKS}
use Rattle.bq_workload.specs.declared.event_queue.TheConstants.{LEAVES}
use Rattle.bq_workload.specs.declared.due.Due.{Due}
use Rattle.bq_workload.specs.declared.due.Due.TheVariants.{End, Wake, Tick, Look}
use Rattle.bq_workload.specs.declared.processor_state.ProcessorState.{ProcessorState}
use Rattle.bq_workload.specs.Minima.{at_rank, never_due, due_number, ChangesOnly}
use Rattle.bq_disc.specs.declared.clock.TheConstants.{LATEST}

-- the number of a processor is below the most that a machine has, and that of a task below the most tasks
abbrev pub IsDue : Due → Type 0
IsDue (End processor) = processor < PROCESSORS
IsDue (Wake task) = task < TASKS
IsDue (Tick processor) = processor < PROCESSORS
IsDue (Look processor) = processor < PROCESSORS

-- the rank of a thing among those of one instant: phase ends first, then wakes, ticks and looks
abbrev pub due_rank : Due → ℕ
due_rank (End processor) = processor
due_rank (Wake task) = FIRST_WAKE + task
due_rank (Tick processor) = FIRST_TICK + processor
due_rank (Look processor) = FIRST_LOOK + processor

-- the thing at a rank, if there is such a rank
abbrev pub due_at : ℕ → Option Due
due_at n =
    if nat_lt n FIRST_WAKE then Some (End n)
    else if nat_lt n FIRST_TICK then Some (Wake (n - FIRST_WAKE))
    else if nat_lt n FIRST_LOOK then Some (Tick (n - FIRST_TICK))
    else if nat_lt n RANKS then Some (Look (n - FIRST_LOOK))
    else None

-- the first multiple of the time between two things that comes after an instant
abbrev pub next_multiple : ℕ → ℕ → ℕ
next_multiple between now = (now / between + 1) * between

-- what would come after the end, or after the latest instant, never does
abbrev pub until : ℕ → ℕ → Option ℕ
until end time = if nat_le time end && nat_le time LATEST then Some time else None

-- this thing is due at a time, or never if that is after the end; nothing else changes in the event queue
pub record IsPlanned (end : ℕ) (due : Due) (time : ℕ) (old new : List ℕ) : Type 0 where
  pub there : IsDue due
  pub at : at_rank new (due_rank due) ≡ due_number (due_rank due) (until end time)
  pub others : ChangesOnly (due_rank due) old new

-- this thing is never due; nothing else changes in the event queue
pub record IsDropped (due : Due) (old new : List ℕ) : Type 0 where
  pub there : IsDue due
  pub at : at_rank new (due_rank due) ≡ never_due
  pub others : ChangesOnly (due_rank due) old new

-- when the thing at a rank comes due, if each of this many processors looks at this time and nothing else comes
abbrev pub look_of : ℕ → Option ℕ → ℕ → Option ℕ
look_of processors time rank = if nat_le (due_rank (Look 0)) rank && nat_lt rank (due_rank (Look processors)) then time else None

-- each of this many processors looks for a task then, if ever, and nothing else comes due
abbrev pub AreLooks : ℕ → Option ℕ → List ℕ → Type 0
AreLooks processors time event_queue = (rank : ℕ) → rank < LEAVES → at_rank event_queue rank ≡ due_number rank (look_of processors time rank)

-- when a task that runs from now on has got what its phase takes, as far as 64 bits count
abbrev pub phase_end : ℕ → TaskProgress → ℕ
phase_end now progress = min (now + (progress.due - progress.got)) (2 ^ 64 - 1)

-- how many tasks a processor has; 0 if there is no such processor
abbrev pub size_at : List ProcessorState → ℕ → ℕ
size_at by_processor processor = option_map_or (λ (processor_state : ProcessorState). processor_state.size) (slice_get by_processor processor) 0

-- of this many processors this one has the most tasks, and more than one; it is the first of those that have as many
pub record IsLargest (by_processor : List ProcessorState) (count processor : ℕ) : Type 0 where
  pub within : processor < count
  pub several : 1 < size_at by_processor processor
  pub most : (other : ℕ) → other < count → size_at by_processor other ≤ size_at by_processor processor
  pub first : (other : ℕ) → other < processor → size_at by_processor other < size_at by_processor processor

-- the largest of this many processors; none if no processor has more than one task
abbrev pub HasLargest : List ProcessorState → ℕ → Option ℕ → Type 0
HasLargest by_processor count None = (processor : ℕ) → processor < count → size_at by_processor processor ≤ 1
HasLargest by_processor count (Some processor) = IsLargest by_processor count processor

-- the largest of some processors and the next one, if the largest of the others is known
abbrev pub larger : List ProcessorState → Option ℕ → ℕ → Option ℕ
larger by_processor None next = if nat_lt 1 (size_at by_processor next) then Some next else None
larger by_processor (Some best) next = if nat_lt (size_at by_processor best) (size_at by_processor next) then Some next else Some best

-- a processor, if it is another than this one
abbrev pub other_than : ℕ → Option ℕ → Option ℕ
other_than processor None = None
other_than processor (Some other) = if other == processor then None else Some other

-- the processor from which this one pulls a task: the largest, if that is another
pub record IsSource (by_processor : List ProcessorState) (processor : ℕ) (source : Option ℕ) : Type 0 where
  pub largest : Option ℕ
  pub has : HasLargest by_processor PROCESSORS largest
  pub other : source ≡ other_than processor largest
