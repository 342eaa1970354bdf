-- The disciplines by their words, and the numbers of processors that there may be.
use Rattle.std.specs.Prelude.{ℕ, ◌==◌, List, Option, Some, None, codes, if◌then◌else◌}
use Rattle.std.specs.Str.{bytes_eq}
use Rattle.bq_words.specs.declared.discipline_name.DisciplineName.{DisciplineName}
use Rattle.bq_words.specs.declared.discipline_name.DisciplineName.TheVariants.{Cfs, Eevdf}
use Rattle.bq_words.specs.declared.processor_count.ProcessorCount.{ProcessorCount}
use Rattle.bq_words.specs.declared.processor_count.ProcessorCount.TheVariants.{One, Two, Four, Eight, Sixteen, ThirtyTwo, SixtyFour}

-- the word of a discipline
abbrev pub discipline_word : DisciplineName → List ℕ
discipline_word Cfs = codes "cfs"
discipline_word Eevdf = codes "eevdf"

-- the discipline that a word names
abbrev pub discipline_named : List ℕ → Option DisciplineName
discipline_named word = if bytes_eq word (codes "cfs") then Some Cfs else if bytes_eq word (codes "eevdf") then Some Eevdf else None

-- the size with this many processors, if there is one
abbrev pub size_numbered : ℕ → Option ProcessorCount
size_numbered n =
    if n == 1 then Some One
    else if n == 2 then Some Two
    else if n == 4 then Some Four
    else if n == 8 then Some Eight
    else if n == 16 then Some Sixteen
    else if n == 32 then Some ThirtyTwo
    else if n == 64 then Some SixtyFour
    else None

-- how many processors a size has
abbrev pub processors_in : ProcessorCount → ℕ
processors_in One = 1
processors_in Two = 2
processors_in Four = 4
processors_in Eight = 8
processors_in Sixteen = 16
processors_in ThirtyTwo = 32
processors_in SixtyFour = 64
