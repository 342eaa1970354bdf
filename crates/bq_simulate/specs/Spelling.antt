-- The lines of a trace that ask for a machine and for events (this project's own trace format).
use Rattle.std.specs.Prelude.{ℕ, ◌^◌, ◌<◌, List, [], ◌∷◌, Option, Some, None, codes}
use Rattle.std.specs.Fmt.{decimal, signed_decimal}
use Rattle.std.specs.Int.{w8}
use Rattle.std.specs.Int.RustNames.{FitsSigned}
use Rattle.std.specs.List.{join_with_byte}
use Rattle.hex.specs.Hex.{encode_lower}
use Rattle.bq_hooks.specs.Hooks.{hook_word}
use Rattle.bq_hooks.specs.declared.hook.Hook.{Hook}
use Rattle.bq_parts.specs.declared.event.Event.{Event}
use Rattle.bq_parts.specs.declared.event.Event.TheVariants.{Admit, Retire, Draw, Install, BeginWake, EndWake, Drain, Tick, Block, Pull}
use Rattle.bq_lines.specs.Keywords.{keyword_of_event, keyword_word}
use Rattle.bq_lines.specs.declared.keyword.Keyword.TheVariants as keywords
use Rattle.bq_words.specs.Sizes.{processors_in, discipline_word}
use Rattle.bq_words.specs.declared.discipline_name.DisciplineName.{DisciplineName}
use Rattle.bq_words.specs.declared.processor_count.ProcessorCount.{ProcessorCount}

-- words, a space between each two
abbrev pub spaced_words : List (List ℕ) → List ℕ
spaced_words words = join_with_byte 32 words

-- the word of an image: its bytes in hex, or `none` if there is no image
abbrev pub image_word : Option (List ℕ) → List ℕ
image_word None = codes "none"
image_word (Some bytes) = encode_lower bytes

-- the words after the keyword of the line that asks for an event; an install brings this image
abbrev pub event_operands : Option (List ℕ) → Event → List (List ℕ)
event_operands image (Admit task nice mask slice) = decimal task ∷ signed_decimal nice ∷ decimal mask ∷ decimal slice ∷ []
event_operands image (Retire task) = decimal task ∷ []
event_operands image Draw = []
event_operands image (Install processor hook generation policy) = decimal processor ∷ decimal generation ∷ hook_word hook ∷ image_word image ∷ []
event_operands image (BeginWake processor task) = decimal processor ∷ decimal task ∷ []
event_operands image (EndWake processor now) = decimal processor ∷ decimal now ∷ []
event_operands image (Drain processor now) = decimal processor ∷ decimal now ∷ []
event_operands image (Tick processor now) = decimal processor ∷ decimal now ∷ []
event_operands image (Block processor now) = decimal processor ∷ decimal now ∷ []
event_operands image (Pull processor from now) = decimal processor ∷ decimal from ∷ decimal now ∷ []

-- the words that ask for an event
abbrev pub event_words : Option (List ℕ) → Event → List (List ℕ)
event_words image event = keyword_word (keyword_of_event event) ∷ event_operands image event

-- the line that asks for an event, without what ends it
abbrev pub asking_line : Option (List ℕ) → Event → List ℕ
asking_line image event = spaced_words (event_words image event)

-- the line that asks for a machine
abbrev pub machine_line : DisciplineName → ProcessorCount → List ℕ
machine_line discipline size = spaced_words (keyword_word keywords.Machine ∷ discipline_word discipline ∷ decimal (processors_in size) ∷ [])

-- the line that asks for an install of this image
abbrev pub install_line : ℕ → ℕ → Hook → Option (List ℕ) → List ℕ
install_line processor generation hook image = spaced_words (keyword_word keywords.Install ∷ decimal processor ∷ decimal generation ∷ hook_word hook ∷ image_word image ∷ [])

-- each number of the event fits its type
abbrev pub HasFittingNumbers : Event → Type 0
HasFittingNumbers (Admit task nice mask slice) = (task < 2 ^ 16) × FitsSigned w8 nice × (mask < 2 ^ 64) × (slice < 2 ^ 64)
HasFittingNumbers (Retire task) = task < 2 ^ 16
HasFittingNumbers Draw = Unit {0}
HasFittingNumbers (Install processor hook generation policy) = (processor < 2 ^ 8) × (generation < 2 ^ 64)
HasFittingNumbers (BeginWake processor task) = (processor < 2 ^ 8) × (task < 2 ^ 16)
HasFittingNumbers (EndWake processor now) = (processor < 2 ^ 8) × (now < 2 ^ 64)
HasFittingNumbers (Drain processor now) = (processor < 2 ^ 8) × (now < 2 ^ 64)
HasFittingNumbers (Tick processor now) = (processor < 2 ^ 8) × (now < 2 ^ 64)
HasFittingNumbers (Block processor now) = (processor < 2 ^ 8) × (now < 2 ^ 64)
HasFittingNumbers (Pull processor from now) = (processor < 2 ^ 8) × (from < 2 ^ 8) × (now < 2 ^ 64)
