-- The discipline's own choice of a place for a woken task (this project's own rule).
use Rattle.std.specs.Prelude.{◌≢◌, ℕ, ◌<◌, ◌^◌, Bool, false, ◌==◌, ◌||◌, ◌&&◌, not, nat_lt, List, [], ◌∷◌, Option, Some, None, slice_index, filter, if◌then◌else◌}
use Rattle.std.specs.List.{range_with_len}
use Rattle.bq_disc.specs.Masks.{allows}
use Rattle.bq_disc.specs.Tasks.{Task}

-- whether a processor is the previous one, if there is a previous one
abbrev pub is_previous : Option ℕ → ℕ → Bool
is_previous None p = false
is_previous (Some q) p = q == p

-- whether p is a better place than q: by load; of equal loads the previous processor, else the least number
abbrev pub place_before : List ℕ → Option ℕ → ℕ → ℕ → Bool
place_before loads previous p q =
    nat_lt (slice_index loads p) (slice_index loads q)
    || (slice_index loads p == slice_index loads q && (is_previous previous p || (not (is_previous previous q) && nat_lt p q)))

-- p, unless there is another place and it is better
abbrev pub former_place : List ℕ → Option ℕ → ℕ → Option ℕ → ℕ
former_place loads previous p None = p
former_place loads previous p (Some q) = if place_before loads previous q p then q else p

-- the best of some places, if there are any
abbrev pub first_place : List ℕ → Option ℕ → List ℕ → Option ℕ
first_place loads previous [] = None
first_place loads previous (p ∷ ps) = Some (former_place loads previous p (first_place loads previous ps))

-- the best place of the task's mask among the first `count` processors
abbrev pub own_place : ℕ → List ℕ → Task → Option ℕ
own_place count loads t = first_place loads t.prev (filter (allows t.mask) (range_with_len 0 count))

-- the mask has only bits of the machine's processors, and at least one
abbrev pub HasPlace : ℕ → Task → Type 0
HasPlace count t = (t.mask < 2 ^ count) × (t.mask ≢ 0)
