-- What the lines of a trace lead to, for any receiver, and the text that answers it.
use Rattle.std.specs.Prelude.{◌≡◌, ℕ, List, [], ◌∷◌, ◌++◌, Option, Result}
use Rattle.bq_load.specs.declared.fault.LoadFault.{LoadFault}
use Rattle.bq_parts.specs.declared.event.Event.{Event}
use Rattle.bq_parts.specs.declared.reply.Reply.{Reply}
use Rattle.bq_parts.specs.declared.refusal.Refusal.{Refusal}
use Rattle.bq_words.specs.declared.discipline_name.DisciplineName.{DisciplineName}
use Rattle.bq_words.specs.declared.processor_count.ProcessorCount.{ProcessorCount}
use Rattle.bq_trace.specs.Machines.{TraceMachine}
use Rattle.bq_trace.specs.Loading.{load_fault_line, no_hex_line}
use Rattle.bq_trace.specs.Texts.{event_line, bad_line, show_line, counter_line}

-- what a line of a trace leads to
pub data TraceEvent : Type 0 where
  -- a machine is made
  Opened : DisciplineName → ProcessorCount → TraceEvent
  -- the line says nothing: it has no words, or is a comment; a line that is too long is Bad, even if it is a comment
  Skipped : List ℕ → TraceEvent
  -- this event is about to be done in the machine
  Comes : Event → TraceMachine → TraceEvent
  -- the event of the last Comes was done or refused, and the machine is the one after the event
  Answered : Event → Result Reply Refusal → TraceMachine → TraceEvent
  -- the word of an image is not hex
  NotHex : TraceEvent
  -- an image does not load
  NotLoaded : LoadFault → TraceEvent
  -- a processor is asked for, which the machine may not have
  ProcessorAsked : ℕ → TraceMachine → TraceEvent
  -- a counter has this value
  CounterRead : ℕ → ℕ → TraceEvent
  -- the line is bad: what was kept of it, unless it is too long
  Bad : Option (List ℕ) → TraceEvent

-- events, each with the number of its line
abbrev pub Reported : Type 0
Reported = List (ℕ × TraceEvent)

-- the text that answers one event, by the number of its line
abbrev pub text_of : ℕ → TraceEvent → List ℕ
text_of n (Opened discipline size) = []
text_of n (Skipped line) = []
text_of n (Comes event m) = []
text_of n (Answered event answer m) = event_line answer
text_of n NotHex = no_hex_line
text_of n (NotLoaded why) = load_fault_line why
text_of n (ProcessorAsked c m) = show_line m.world c
text_of n (CounterRead i value) = counter_line i value
text_of n (Bad short_line) = bad_line n

-- the text that answers all of these events
abbrev pub texts : Reported → List ℕ
texts [] = []
texts ((n, x) ∷ more) = text_of n x ++ texts more

-- a receiver takes these events, one after another
abbrev pub TakesAll : {S : Type 0} → (S → ℕ → TraceEvent → S → Type 0) → S → Reported → S → Type 0
TakesAll takes old [] new = new ≡ old
TakesAll {S} takes old ((n, x) ∷ more) new = (mid : S) × takes old n x mid × TakesAll takes mid more new

-- a receiver takes some events for which this holds
pub record Gets {S : Type 0} (takes : S → ℕ → TraceEvent → S → Type 0) (old new : S) (Holds : Reported → Type 0) : Type 0 where
  pub reported : Reported
  pub taken : TakesAll takes old reported new
  pub holds : Holds reported
