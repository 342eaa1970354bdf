-- The event that a sink gets, without its borrows.
use Rattle.std.specs.Prelude.{ℕ, List, Option}
use Rattle.std.specs.Borrow.{Bor}
use Rattle.std.specs.Option.{option_map}
use Rattle.bq_trace.specs.TraceEvents.{TraceEvent, Opened, Skipped, Comes, Answered, NotHex, NotLoaded, ProcessorAsked, CounterRead, Bad}
use Rattle.bq_trace.specs.declared.trace_event.TraceEvent.{TraceEvent as Given}
use Rattle.bq_trace.specs.declared.trace_event.TraceEvent.TheVariants as given

-- the bytes of an optional borrow, as it holds them now
abbrev pub optional_bytes : Option (Bor (List ℕ)) → Option (List ℕ)
optional_bytes bytes = option_map (λ (b : Bor (List ℕ)). b.now) bytes

-- the event with the values that its borrows hold now
abbrev pub event_of : Given → TraceEvent
event_of (given.Opened discipline size) = Opened discipline size
event_of (given.Skipped line) = Skipped line.now
event_of (given.Comes event m) = Comes event.now m.now
event_of (given.Answered event answer m) = Answered event.now answer.now m.now
event_of given.NotHex = NotHex
event_of (given.NotLoaded why) = NotLoaded why
event_of (given.ProcessorAsked c m) = ProcessorAsked c m.now
event_of (given.CounterRead i value) = CounterRead i value
event_of (given.Bad line) = Bad (optional_bytes line)
