-- A timeline of a whole trace.
use Rattle.std.specs.Prelude.{◌≡◌, ◌==◌, ℕ, List, ◌++◌, Option, None, string_bytes}
use Rattle.std.specs.Io.KnownBytes.{Appends, Consumes, IsAtEnd}
use Rattle.std.specs.Str.Lines.{lines}
use Rattle.bq_trace.specs.TraceEvents.{TraceEvent, Reported}
use Rattle.bq_trace.specs.Reporting.{Story}
use Rattle.bq_trace.specs.Trace.{opening_progress}
use Rattle.bq_trace.specs.declared.progress.Progress.{Progress}
use Rattle.bq_timeline.specs.Notes.{last_notes}
use Rattle.bq_timeline.specs.ScreenTexts.{ScreenState, state_of}
use Rattle.bq_timeline.specs.TraceTexts.{IsTimelineText, ScreenTakes, ScreenTakesAll, TextCloses}
use Rattle.bq_timeline.specs.Watching.{schedule_after, bad_or_refused_after_event, bad_or_refused_after, schedule_after_event}
use Rattle.bq_timeline.specs.declared.settings.Settings.{Settings}
use Rattle.bq_timeline.specs.declared.whole_timeline.Outcome.{Outcome}
use Rattle.bq_timeline.specs.declared.whole_timeline.TimelineSoFar.{TimelineSoFar}
use Rattle.bq_timeline.specs.declared.viewer.Viewer.{Viewer}

-- The schedule of a viewer went on with a trace event, and the event was counted if its line was bad or refused.
abbrev pub WatchesEvent : Viewer → TraceEvent → Viewer → Type 0
WatchesEvent old traced new = (new.schedule ≡ schedule_after_event old.schedule traced) × (new.bad_or_refused ≡ bad_or_refused_after_event old.bad_or_refused traced)

-- The screen of a viewer took a trace event, with the schedule before it.
abbrev pub ShowsEvent : Viewer → TraceEvent → Viewer → Type 0
ShowsEvent old traced new =
    ScreenTakes old.schedule traced (state_of old.screen) (state_of new.screen) (string_bytes old.screen.text) (string_bytes new.screen.text)

-- A viewer took a trace event.
pub record TakesEvent (old : Viewer) (traced : TraceEvent) (new : Viewer) : Type 0 where
  pub watches : WatchesEvent old traced new
  pub shows : ShowsEvent old traced new

-- The viewer took some trace events for which this holds: it has the schedule after them, has counted the lines that were bad or refused, and
-- its text became this one.
pub record Watches (old new : Viewer) (text : List ℕ) (Holds : Reported → Type 0) : Type 0 where
  pub reported : Reported
  pub schedule : new.schedule ≡ schedule_after old.schedule reported
  pub bad_or_refused : new.bad_or_refused ≡ bad_or_refused_after old.bad_or_refused reported
  pub shows : ScreenTakesAll old.schedule (state_of old.screen) reported (state_of new.screen) (string_bytes old.screen.text) text
  pub holds : Holds reported

-- The viewer took such trace events, and the output got its text.
pub record WatchesAndWrites (old new : Viewer) (was now : Option (List ℕ)) (Holds : Reported → Type 0) : Type 0 where
  pub text : List ℕ
  pub watches : Watches old new text Holds
  pub wrote : Appends was now text

-- The line that has begun is the last one. The outcome is clean if no line of the trace was bad or refused, and its last notes are those
-- for the schedule of the whole trace. The output got the rest of the text.
pub record Closes (timeline : TimelineSoFar) (begun : List ℕ) (was now : Option (List ℕ)) (outcome : Outcome) : Type 0 where
  pub reported : Reported
  pub final : Progress
  pub story : Story timeline.position.progress (lines begun) reported final
  pub clean : outcome.clean ≡ (bad_or_refused_after timeline.viewer.bad_or_refused reported == 0)
  pub before : List ℕ
  pub notes : string_bytes outcome.notes ≡ before ++ last_notes (schedule_after timeline.viewer.schedule reported) (bad_or_refused_after timeline.viewer.bad_or_refused reported)
  pub last : ScreenState
  pub taken : List ℕ
  pub text : List ℕ
  pub takes : ScreenTakesAll timeline.viewer.schedule (state_of timeline.viewer.screen) reported last (string_bytes timeline.viewer.screen.text) taken
  pub closes : TextCloses (schedule_after timeline.viewer.schedule reported) last taken text
  pub wrote : Appends was now text

-- The reader gave these bytes and has no more. The outcome is clean if no line of theirs was bad or refused, and its last notes are those for
-- the schedule after these lines. The output got the text of these lines, in the form that the settings ask for, and nothing else.
pub record IsTimeline (asked : Settings) (from to was now : Option (List ℕ)) (outcome : Outcome) : Type 0 where
  pub input : List ℕ
  pub reported : Reported
  pub final : Progress
  pub consumed : Consumes from to input
  pub at_end : IsAtEnd to
  pub story : Story opening_progress (lines input) reported final
  pub clean : outcome.clean ≡ (bad_or_refused_after 0 reported == 0)
  pub before : List ℕ
  pub notes : string_bytes outcome.notes ≡ before ++ last_notes (schedule_after None reported) (bad_or_refused_after 0 reported)
  pub text : List ℕ
  pub shown : IsTimelineText asked reported text
  pub wrote : Appends was now text
