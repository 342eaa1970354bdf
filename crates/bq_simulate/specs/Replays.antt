-- What a replay answers to the text of events that were done.
use Rattle.std.specs.Prelude.{◌≡◌, ℕ, true, List, ◌++◌, Option, Some, None}
use Rattle.std.specs.List.{AllByRecursion}
use Rattle.hex.specs.Hex.{IsBytes}
use Rattle.bq_simulate.specs.Drives.{Drives, Starts}
use Rattle.bq_simulate.specs.declared.driver.Driver.{Driver}
use Rattle.bq_lines.specs.Lines.{reading_of}
use Rattle.bq_lines.specs.declared.command.LineReading.TheVariants as reads
use Rattle.bq_load.specs.Answers.{Loads}
use Rattle.bq_parts.specs.declared.event.Event.{Event}
use Rattle.bq_parts.specs.declared.event.Event.TheVariants.{Install}
use Rattle.bq_simulate.specs.Texts.{AreFitting, ByHook, reported_lines}
use Rattle.bq_words.specs.declared.discipline_name.DisciplineName.{DisciplineName}
use Rattle.bq_words.specs.declared.processor_count.ProcessorCount.{ProcessorCount}
use Rattle.bq_simulate.specs.LineLaws.{IsWholeLine}
use Rattle.bq_trace.specs.Feeding.{with_feeds}
use Rattle.bq_trace.specs.TraceEvents.{Reported, texts}
use Rattle.bq_trace.specs.Trace.{TraceText}
use Rattle.bq_trace.specs.declared.phase.Phase.TheVariants.{Running}
use Rattle.bq_verify.specs.Accepted.{Accepted}

-- a policy is that of an image: the image's bytes load as this policy
pub record IsLoadedFromImage (image : Option (List ℕ)) (policy : Accepted) : Type 0 where
  pub bytes : List ℕ
  pub there : image ≡ Some bytes
  pub each : IsBytes bytes
  pub loads : Loads bytes policy

-- each of these policies is that of the image at its hook
abbrev pub AreOfImages : ByHook → List Accepted → Type 0
AreOfImages images policies = AllByRecursion (λ (policy : Accepted). IsLoadedFromImage (images policy.hook) policy) policies

-- a policy that is installed is that of the image at its hook; and a policy is taken away only at a hook without an image
abbrev pub IsFromImages : ByHook → Event → Type 0
IsFromImages images (Install processor hook generation None) = images hook ≡ None
IsFromImages images (Install processor hook generation (Some policy)) = IsLoadedFromImage (images hook) policy
IsFromImages images event = Unit {0}

-- a line that a trace skips
pub record IsComment (line : List ℕ) : Type 0 where
  pub whole : IsWholeLine line
  pub reads : reading_of line ≡ reads.Skipped

-- A text has those answers, none of which calls a line bad, and leaves that machine.
pub record ReplaysTo (text answers : List ℕ) (d : Driver) : Type 0 where
  pub trace : TraceText text answers true
  pub machine : trace.final.phase ≡ Running d.machine

-- Some comments, a machine, and events that were done in it one after another, none of them refused: the lines that ask for them
-- are a text that is answered by the answers that the events got.
abbrev pub TextsAreReplayed : Type 0
TextsAreReplayed =
    (images : ByHook) (comments : List (List ℕ)) (discipline : DisciplineName) (size : ProcessorCount) (d e : Driver) (events : List Event) (first more : Reported)
    → AllByRecursion IsComment comments → Starts discipline size first d → Drives d events more e
    → AllByRecursion (IsFromImages images) events → AreFitting more
    → ReplaysTo (with_feeds (comments ++ reported_lines images (first ++ more))) (texts (first ++ more)) e
