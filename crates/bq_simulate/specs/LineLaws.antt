-- Laws of lines: what a line asks for is what it was written for.
use Rattle.std.specs.Prelude.{◌≡◌, ℕ, ◌<◌, ◌≤◌, List, length, Option, Some, None, Ok}
use Rattle.std.specs.Str.Lines.{strip_carriage_return}
use Rattle.hex.specs.Hex.{IsBytes, decode_of, encode_lower}
use Rattle.bq_parts.specs.declared.event.Event.{Event}
use Rattle.bq_parts.specs.declared.event.Event.TheVariants.{Install}
use Rattle.bq_hooks.specs.declared.hook.Hook.{Hook}
use Rattle.bq_words.specs.declared.discipline_name.DisciplineName.{DisciplineName}
use Rattle.bq_words.specs.declared.processor_count.ProcessorCount.{ProcessorCount}
use Rattle.bq_lines.specs.Kept.{IsOneLine}
use Rattle.bq_lines.specs.Lines.{reading_of}
use Rattle.bq_lines.specs.declared.command.LineCommand.{LineCommand}
use Rattle.bq_lines.specs.declared.command.LineCommand.TheVariants.{Does, Load, Machine}
use Rattle.bq_lines.specs.declared.command.LineReading.TheVariants.{Asks}
use Rattle.bq_simulate.specs.Spelling.{HasFittingNumbers, asking_line, machine_line}

-- some bytes, and no more than a line has room for
pub record IsImageOfLine (bytes : List ℕ) : Type 0 where
  pub each : IsBytes bytes
  pub some : 0 < length bytes
  pub room : length bytes ≤ 65472

-- an image that a line can have, or none
abbrev pub CanStandInLine : Option (List ℕ) → Type 0
CanStandInLine None = Unit {0}
CanStandInLine (Some bytes) = IsImageOfLine bytes

-- an install with an image asks to load it; an install without one takes away the policy at the hook
abbrev pub install_asked : Option (List ℕ) → ℕ → Hook → ℕ → LineCommand
install_asked None processor hook generation = Does (Install processor hook generation None)
install_asked (Some bytes) processor hook generation = Load processor hook generation (encode_lower bytes)

-- what the line of an event asks for: any other is asked for as it is
abbrev pub event_command : Option (List ℕ) → Event → LineCommand
event_command image (Install processor hook generation policy) = install_asked image processor hook generation
event_command image event = Does event

-- The line of an event is read as exactly that event.
abbrev pub EventsAreRead : Type 0
EventsAreRead = (image : Option (List ℕ)) (event : Event) → CanStandInLine image → HasFittingNumbers event → reading_of (asking_line image event) ≡ Asks (event_command image event)

-- The line of a machine says that machine.
abbrev pub MachinesAreRead : Type 0
MachinesAreRead = (discipline : DisciplineName) (size : ProcessorCount) → reading_of (machine_line discipline size) ≡ Asks (Machine discipline size)

-- The hex of an image spells its bytes.
abbrev pub ImagesAreRead : Type 0
ImagesAreRead = (bytes : List ℕ) → IsBytes bytes → decode_of (encode_lower bytes) ≡ Ok bytes

-- a text is one line, from which nothing is taken away if a line feed ends it
pub record IsWholeLine (line : List ℕ) : Type 0 where
  pub one : IsOneLine line
  pub same : strip_carriage_return line ≡ line

-- Each of these lines is one.
pub record AreLines : Type 0 where
  pub events : (image : Option (List ℕ)) (event : Event) → CanStandInLine image → HasFittingNumbers event → IsWholeLine (asking_line image event)
  pub machines : (discipline : DisciplineName) (size : ProcessorCount) → IsWholeLine (machine_line discipline size)
