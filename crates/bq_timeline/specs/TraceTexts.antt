-- The whole text of a trace: what its form adds for each of its events, in order. Nothing is said of the text of `why`.
use Rattle.std.specs.Prelude.{◌≡◌, ℕ, List, [], ◌∷◌, Option, Some, None, Result}
use Rattle.bq_parts.specs.declared.event.Event.{Event}
use Rattle.bq_parts.specs.declared.refusal.Refusal.{Refusal}
use Rattle.bq_parts.specs.declared.reply.Reply.{Reply}
use Rattle.bq_trace.specs.TraceEvents.{TraceEvent, Reported, Opened, Skipped, Comes, Answered, CounterRead}
use Rattle.bq_schedule.specs.Figures.{Figures}
use Rattle.bq_schedule.specs.Steps.{change, figures_after}
use Rattle.bq_report.specs.Names.{Learns, name_of}
use Rattle.bq_timeline.specs.ScreenTexts.{ScreenAnswers, ScreenBegins, ScreenComes, ScreenEnds, ScreenState}
use Rattle.bq_timeline.specs.Watching.{schedule_after, schedule_after_event}
use Rattle.bq_timeline.specs.declared.settings.Settings.{Settings}

-- an event was done or refused; nothing is shown without a machine
abbrev pub AnswerShows : Option Figures → Event → Result Reply Refusal → ScreenState → ScreenState → List ℕ → List ℕ → Type 0
AnswerShows None event answer old new before after = (new ≡ old) × (after ≡ before)
AnswerShows (Some s) event answer old new before after =
    ScreenAnswers event answer (change s event answer) (figures_after s event answer) old new before after

-- A trace event, with the schedule before it: what the screen holds, and its text, before and after. The form begins at the first line that
-- is not a comment, not the machine's, and does not read a counter.
abbrev pub ScreenTakes : Option Figures → TraceEvent → ScreenState → ScreenState → List ℕ → List ℕ → Type 0
ScreenTakes s (Opened discipline size) old new before after = (new ≡ record old { discipline = Some discipline }) × (after ≡ before)
ScreenTakes s (Skipped line) old new before after =
    Learns line old.names new.names × (new ≡ record old { names = new.names }) × (after ≡ before)
ScreenTakes s (Comes event machine) old new before after =
    (begun : ScreenState) × ScreenBegins s old begun before after × ScreenComes begun new
ScreenTakes s (Answered event answer machine) old new before after = AnswerShows s event answer old new before after
ScreenTakes s (CounterRead counter value) old new before after = (new ≡ old) × (after ≡ before)
ScreenTakes s noted old new before after = ScreenBegins s old new before after

-- these trace events, one after another
abbrev pub ScreenTakesAll : Option Figures → ScreenState → Reported → ScreenState → List ℕ → List ℕ → Type 0
ScreenTakesAll s old [] new before after = (new ≡ old) × (after ≡ before)
ScreenTakesAll s old ((line, traced) ∷ more) new before after =
    (mid : ScreenState) × (text : List ℕ) × ScreenTakes s traced old mid before text
    × ScreenTakesAll (schedule_after_event s traced) mid more new text after

-- a screen on which nothing is written yet
pub record IsBlank (asked : Settings) (state : ScreenState) : Type 0 where
  pub settings : state.asked ≡ Some asked
  pub names : (task : ℕ) → name_of state.names task ≡ None
  pub discipline : state.discipline ≡ None
  pub shown : state.shown ≡ None
  pub bounds : state.bounds ≡ None

-- the form ends, if there is a machine
abbrev pub TextEnds : Option Figures → ScreenState → List ℕ → List ℕ → Type 0
TextEnds None old before after = after ≡ before
TextEnds (Some s) old before after = ScreenEnds s old before after

-- The trace is over: the form begins, if it has not, and ends.
pub record TextCloses (s : Option Figures) (old : ScreenState) (before after : List ℕ) : Type 0 where
  pub begun : ScreenState
  pub opened : List ℕ
  pub begins : ScreenBegins s old begun before opened
  pub ends : TextEnds s begun opened after

-- The text is what the form adds for these trace events, in order, and at the end.
pub record IsTimelineText (asked : Settings) (reported : Reported) (text : List ℕ) : Type 0 where
  pub first : ScreenState
  pub last : ScreenState
  pub taken : List ℕ
  pub blank : IsBlank asked first
  pub takes : ScreenTakesAll None first reported last [] taken
  pub closes : TextCloses (schedule_after None reported) last taken text
