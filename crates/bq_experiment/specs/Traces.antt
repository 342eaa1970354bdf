-- What is written of a workload that is run, as a trace.
use Rattle.std.specs.Prelude.{◌≡◌, ◌≤◌, ℕ, List, [], ◌++◌, Option, None, map}
use Rattle.std.specs.Io.KnownBytes.{Appends}
use Rattle.bq_workload.specs.Soundness.{first_flaw}
use Rattle.bq_workload.specs.declared.workload.Workload.{Workload}
use Rattle.bq_simulate.specs.Replays.{ReplaysTo, AreOfImages}
use Rattle.bq_simulate.specs.Texts.{AreFitting, ByHook, reported_lines}
use Rattle.bq_simulate.specs.Simulations.{Accepted, IsSimulation}
use Rattle.bq_experiment.specs.Names.{comments_of}
use Rattle.bq_experiment.specs.declared.asked.ShownAs.{ShownAs}
use Rattle.bq_experiment.specs.declared.asked.ShownAs.TheVariants.{Trace, Timeline}
use Rattle.bq_experiment.specs.declared.policies.Policies.{Policies}
use Rattle.bq_experiment.specs.Limits.{events_in}
use Rattle.bq_experiment.specs.PoliciesAndImages.{image_for}
use Rattle.bq_experiment.specs.Views.{AreNotesOf}
use Rattle.bq_trace.specs.Feeding.{with_feeds}
use Rattle.bq_trace.specs.TraceEvents.{TraceEvent, Reported, Skipped, texts}

-- a comment that is reported beside the lines of the trace
abbrev pub skipped : List ℕ → ℕ × TraceEvent
skipped line = (0, Skipped line)

-- the comments that name the tasks of a workload, and then more, of which this holds
pub record IsNamed (w : Workload) (Holds : Reported → Type 0) (reported : Reported) : Type 0 where
  pub more : Reported
  pub holds : Holds more
  pub whole : reported ≡ map skipped (comments_of w) ++ more

-- The workload has no flaw. The text has the comments that name its tasks, in order, and then the line of each event of a
-- simulation of it with these policies, in order, written with the images that they are of.
pub record IsTrace (w : Workload) (policies : List Accepted) (images : ByHook) (text : List ℕ) : Type 0 where
  pub reported : Reported
  pub sound : first_flaw w ≡ None
  pub simulation : IsSimulation policies w reported
  pub fits : AreFitting reported
  pub of_images : AreOfImages images policies
  pub whole : text ≡ with_feeds (comments_of w ++ reported_lines images reported)

-- The writer got the whole text of a trace of at most this many events, beyond what it had.
pub record WritesTrace (w : Workload) (policies : List Accepted) (images : ByHook) (event_limit : ℕ) (old new : Option (List ℕ)) : Type 0 where
  pub text : List ℕ
  pub trace : IsTrace w policies images text
  pub few : events_in trace.reported ≤ event_limit
  pub added : Appends old new text

-- What is written of a workload that is run with these policies. As a trace, it is the whole text, and no notes. In another
-- form, it is notes that end with a viewer's last notes on a simulation; the crate that makes the form promises its text.
abbrev pub IsWritten : ShownAs → Workload → Policies → ℕ → Option (List ℕ) → Option (List ℕ) → List ℕ → Type 0
IsWritten Trace w policies event_limit old new notes = WritesTrace w policies.loaded (image_for policies.images) event_limit old new × (notes ≡ [])
IsWritten (Timeline settings) w policies event_limit old new notes = AreNotesOf policies.loaded w event_limit notes

-- A replay of the text gets the answers that the simulation got, and leaves the same machine.
abbrev pub TracesAreReplayed : Type 0
TracesAreReplayed =
    (w : Workload) (policies : List Accepted) (images : ByHook) (text : List ℕ) (t : IsTrace w policies images text)
    → ReplaysTo text (texts t.reported) t.simulation.closing
