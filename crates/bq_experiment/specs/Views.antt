-- The simulation of a workload with a viewer as its sink.
use Rattle.std.specs.Prelude.{◌≡◌, ◌≤◌, ℕ, List, ◌++◌, None, false}
use Rattle.bq_workload.specs.Soundness.{first_flaw}
use Rattle.bq_workload.specs.declared.workload.Workload.{Workload}
use Rattle.bq_simulate.specs.Simulations.{Accepted, IsSimulation}
use Rattle.bq_timeline.specs.Notes.{last_notes}
use Rattle.bq_timeline.specs.Watching.{schedule_after}
use Rattle.bq_timeline.specs.declared.viewer.Viewer.{Viewer}
use Rattle.bq_trace.specs.TraceEvents.{Reported}
use Rattle.bq_experiment.specs.Limits.{events_in}
use Rattle.bq_experiment.specs.declared.limited.Limited.{Limited}
use Rattle.bq_experiment.specs.declared.offset_viewer.OffsetViewer.{OffsetViewer}
use Rattle.bq_experiment.specs.declared.passing.Passing.{Passing}

-- The viewer of a run has seen no machine and no line that is bad or refused, and the limit of events is not passed.
pub record IsUnviewed {W E : Type 0} (run : Limited (Passing OffsetViewer W E)) : Type 0 where
  pub schedule : run.sink.sink.viewer.schedule ≡ None
  pub bad_or_refused : run.sink.sink.viewer.bad_or_refused ≡ 0
  pub over : run.is_over ≡ false

-- The workload has no flaw. The viewer has the schedule of a simulation of it with these policies, of at most this many events, and has
-- counted no line of it as bad or refused.
pub record IsViewed (policies : List Accepted) (w : Workload) (event_limit : ℕ) (viewer : Viewer) : Type 0 where
  pub reported : Reported
  pub sound : first_flaw w ≡ None
  pub few : events_in reported ≤ event_limit
  pub simulation : IsSimulation policies w reported
  pub schedule : viewer.schedule ≡ schedule_after None reported
  pub clean : viewer.bad_or_refused ≡ 0

-- What goes to standard error ends with the last notes at the schedule that a viewer has of it.
pub record AreNotesOf (policies : List Accepted) (w : Workload) (event_limit : ℕ) (notes : List ℕ) : Type 0 where
  pub viewer : Viewer
  pub viewed : IsViewed policies w event_limit viewer
  pub before : List ℕ
  pub whole : notes ≡ before ++ last_notes viewer.schedule 0
