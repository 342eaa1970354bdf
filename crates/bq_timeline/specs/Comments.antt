-- What a comment of a trace changes in a viewer: the names of tasks, and nothing else.
use Rattle.std.specs.Prelude.{◌≡◌}
use Rattle.bq_report.specs.Names.{Learns, NamedTasks}
use Rattle.bq_timeline.specs.declared.viewer.Viewer.{Viewer}
use Rattle.bq_trace.specs.TraceEvents.{TraceEvent, Skipped}

-- the trace event is a line that says nothing
abbrev pub IsSkipped : TraceEvent → Type 0
IsSkipped (Skipped line) = Unit {0}
IsSkipped traced = ⊥

-- if the trace event is a comment, it may name a task
abbrev pub ReadsComment : TraceEvent → NamedTasks → NamedTasks → Type 0
ReadsComment (Skipped line) old new = Learns line old new
ReadsComment traced old new = Unit {0}

-- the schedule, the count of bad or refused lines and the settings stay the same
pub record ViewerRests (old new : Viewer) : Type 0 where
  pub schedule : new.schedule ≡ old.schedule
  pub bad_or_refused : new.bad_or_refused ≡ old.bad_or_refused
  pub asked : new.screen.asked ≡ old.screen.asked
