-- Array maps: the bytes of all values of a map follow one after another, the first entry first.
use Rattle.std.specs.Prelude.{ℕ, ◌+◌, ◌*◌, ◌<◌, List, [], Option, Some, None, slice_get, slice_index_or, slice_range, slice_set}
use Rattle.bq_bpf.specs.declared.shape.MapShape.{MapShape}
use Rattle.bq_bpf.specs.Memory.{overwrite}

-- the maps of a program: their shapes, and the bytes of each
pub record Arrays : Type 0 where
  pub shapes : List MapShape
  pub bytes : List (List ℕ)

-- the bytes of a value of this shape, or 0 if there is no shape
abbrev pub value_size_in : Option MapShape → ℕ
value_size_in None = 0
value_size_in (Some shape) = shape.value_size

-- the entries of this shape, or 0 if there is no shape
abbrev pub entries_in : Option MapShape → ℕ
entries_in None = 0
entries_in (Some shape) = shape.entries

-- how many bytes a value of map `m` has, or 0 if there is no such map
abbrev pub value_size_of : Arrays → ℕ → ℕ
value_size_of a m = value_size_in (slice_get a.shapes m)

-- there is a map `m`, and it has an entry `k`
abbrev pub HasEntry : Arrays → ℕ → ℕ → Type 0
HasEntry a m k = k < entries_in (slice_get a.shapes m)

-- the bytes of map `m`
abbrev pub bytes_of : Arrays → ℕ → List ℕ
bytes_of a m = slice_index_or a.bytes m []

-- the byte of map `m` at which entry `k` begins
abbrev pub entry_begin : Arrays → ℕ → ℕ → ℕ
entry_begin a m k = k * value_size_of a m

-- the bytes of entry `k` of map `m`
abbrev pub entry_of : Arrays → ℕ → ℕ → List ℕ
entry_of a m k = slice_range (bytes_of a m) (entry_begin a m k) (entry_begin a m k + value_size_of a m)

-- the maps with these bytes written into map `m` from its byte `at` on; all else stays
abbrev pub with_bytes : Arrays → ℕ → ℕ → List ℕ → Arrays
with_bytes a m at bytes = record a { bytes = slice_set a.bytes m (overwrite (bytes_of a m) at bytes) }
