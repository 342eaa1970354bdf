-- The words that say what is known of a word.
use Rattle.std.specs.Prelude.{ℕ, ◌-◌, ◌^◌, ◌==◌, ◌&&◌, nat_lt, Bool, false, List, [], ◌++◌, Option, Some, None, codes, count_by, slice_get, if◌then◌else◌}
use Rattle.std.specs.Fmt.{decimal}
use Rattle.bq_bpf.specs.declared.shape.MapShape.{MapShape}
use Rattle.bq_bpf.specs.Memory.{stack_size}
use Rattle.bq_ranges.specs.declared.range.Range.{Range}
use Rattle.bq_states.specs.declared.abstract_state.ValueKind.{ValueKind}
use Rattle.bq_states.specs.declared.abstract_state.ValueKind.TheVariants.{Number, Context, Stack, Entry, EntryOrNull, Map}
use Rattle.bq_states.specs.declared.abstract_state.AbstractValue.{AbstractValue}

-- one number, or both if they differ
abbrev pub between : ℕ → ℕ → List ℕ
between a b = if a == b then decimal a else decimal a ++ (codes ".." ++ decimal b)

-- the words of a range
abbrev pub range_text : Range → List ℕ
range_text r = between r.lo r.hi

-- numbers below zero, by their distances from it, the furthest first; a distance of 0 is printed as 0
abbrev pub minus_text : ℕ → ℕ → List ℕ
minus_text far near =
    if far == near then codes "-" ++ decimal far
    else if near == 0 then codes "-" ++ (decimal far ++ codes "..0") else codes "-" ++ (decimal far ++ (codes "..-" ++ decimal near))

-- how far a pointer is below what it counts from: by one distance, or by two
abbrev pub below_text : ℕ → ℕ → List ℕ
below_text far near = if far == near then codes " - " ++ decimal far else codes " " ++ minus_text far near

-- a number; of one of which nothing else is known it says so, and a word of the upper half is a number below zero
abbrev pub number_text : Range → List ℕ
number_text r =
    if (r.lo == 0) && (r.hi == 2 ^ 64 - 1) then codes "any number" else if nat_lt r.lo (2 ^ 63) then range_text r else minus_text (2 ^ 64 - r.lo) (2 ^ 64 - r.hi)

-- how far a pointer is above what it counts from; or how far below, if its offset is so great that the sum wraps
abbrev pub offset_text : Range → List ℕ
offset_text r =
    if r.hi == 0 then [] else if nat_lt r.lo (2 ^ 63) then codes " + " ++ range_text r else below_text (2 ^ 64 - r.lo) (2 ^ 64 - r.hi)

-- a pointer into the stack: how far it is below the stack's end, unless it may be beyond the end
abbrev pub stack_pointer_text : Range → List ℕ
stack_pointer_text r =
    if nat_lt stack_size r.hi then codes "stack begin" ++ offset_text r
    else if r.lo == stack_size then codes "stack end" else codes "stack end" ++ below_text (stack_size - r.lo) (stack_size - r.hi)

-- two maps have equal sizes of values and equal numbers of entries
abbrev pub same_shape : MapShape → MapShape → Bool
same_shape a b = (a.value_size == b.value_size) && (a.entries == b.entries)

-- more than one of the maps has that shape
abbrev pub is_shared : List MapShape → Option MapShape → Bool
is_shared shapes None = false
is_shared shapes (Some shape) = nat_lt 1 (count_by (same_shape shape) shapes)

-- a map by its number; if another map has its shape, that it may be that one
abbrev pub map_name : List MapShape → ℕ → List ℕ
map_name shapes map =
    if is_shared shapes (slice_get shapes map) then codes "map " ++ (decimal map ++ codes " or a map like it") else codes "map " ++ decimal map

-- a word of a kind, by the range of its offset
abbrev pub kind_text : List MapShape → ValueKind → Range → List ℕ
kind_text shapes Number r = number_text r
kind_text shapes Context r = codes "context" ++ offset_text r
kind_text shapes Stack r = stack_pointer_text r
kind_text shapes (Entry map) r = codes "entry of " ++ (map_name shapes map ++ offset_text r)
kind_text shapes (EntryOrNull map) r = codes "entry of " ++ (map_name shapes map ++ (codes " or null" ++ (offset_text r ++ codes ", not tested")))
kind_text shapes (Map map) r = map_name shapes map ++ offset_text r

-- what is known of a word
abbrev pub known_text : List MapShape → AbstractValue → List ℕ
known_text shapes k = kind_text shapes k.kind k.offset
