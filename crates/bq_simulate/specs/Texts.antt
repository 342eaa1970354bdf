-- The text of a trace that events write: a line for each machine, event and comment, in order.
use Rattle.std.specs.Prelude.{◌≡◌, ℕ, List, [], ◌∷◌, ◌++◌, Option, None, if◌then◌else◌}
use Rattle.std.specs.Str.{is_utf8}
use Rattle.bq_parts.specs.declared.event.Event.{Event}
use Rattle.bq_parts.specs.declared.event.Event.TheVariants.{Install}
use Rattle.bq_simulate.specs.Spelling.{HasFittingNumbers, asking_line, machine_line}
use Rattle.bq_trace.specs.Borrowed.{optional_bytes}
use Rattle.bq_trace.specs.Feeding.{with_feeds}
use Rattle.bq_trace.specs.TraceEvents.{TraceEvent, Reported, Opened, Skipped, Comes}
use Rattle.bq_hooks.specs.declared.hook.Hook.{Hook}
use Rattle.bq_hooks.specs.declared.hook.Hook.TheVariants as hooks
use Rattle.bq_simulate.specs.declared.images.Images.{Images}

-- what is installed at each hook of all processors: the bytes of an image, or nothing
abbrev pub ByHook : Type 0
ByHook = Hook → Option (List ℕ)

-- the bytes of the image at a hook, if there is one
abbrev pub image_at : Images → ByHook
image_at images hooks.Place = optional_bytes images.place
image_at images hooks.Preempt = optional_bytes images.preempt
image_at images hooks.Pull = optional_bytes images.pull

-- the image that an event brings
abbrev pub brought : ByHook → Event → Option (List ℕ)
brought images (Install processor hook generation policy) = images hook
brought images event = None

-- the lines that an event writes: one, or none
abbrev pub traced_lines : ByHook → TraceEvent → List (List ℕ)
traced_lines images (Opened discipline size) = machine_line discipline size ∷ []
traced_lines images (Skipped line) = if is_utf8 line then line ∷ [] else []
traced_lines images (Comes event m) = asking_line (brought images event) event ∷ []
traced_lines images traced = []

-- the lines that all of it writes
abbrev pub reported_lines : ByHook → Reported → List (List ℕ)
reported_lines images [] = []
reported_lines images ((n, x) ∷ more) = traced_lines images x ++ reported_lines images more

-- an event that comes has numbers of their types
abbrev pub IsFitting : TraceEvent → Type 0
IsFitting (Comes event m) = HasFittingNumbers event
IsFitting traced = Unit {0}

-- the numbers of each event, and of its answer, fit their lines
abbrev pub AreFitting : Reported → Type 0
AreFitting [] = Unit {0}
AreFitting ((n, x) ∷ more) = IsFitting x × AreFitting more

-- A text grows by the lines of an event, and a line feed after each.
pub record WritesEvent (images : ByHook) (old : List ℕ) (traced : TraceEvent) (new : List ℕ) : Type 0 where
  pub text : new ≡ old ++ with_feeds (traced_lines images traced)
  pub fits : IsFitting traced

-- The text has grown by the lines of all that was reported.
pub record WritesAll (images : ByHook) (old : List ℕ) (reported : Reported) (new : List ℕ) : Type 0 where
  pub text : new ≡ old ++ with_feeds (reported_lines images reported)
  pub fits : AreFitting reported
