-- The fields of contexts by their names, as docs/CONTEXTS.md lists them.
use Rattle.std.specs.Prelude.{◌≡◌, ℕ, ◌+◌, ◌*◌, ◌^◌, ◌<◌, ◌≤◌, List, [], ◌∷◌, length, ◌⊎◌, Option, Some, codes}
use Rattle.std.specs.Int.{bytes_low_first}
use Rattle.std.specs.List.{find}
use Rattle.std.specs.Str.{bytes_eq}
use Rattle.bq_bpf.specs.Memory.{overwrite}
use Rattle.bq_hooks.specs.Hooks.{context_length_of}
use Rattle.bq_hooks.specs.declared.hook.Hook.{Hook}
use Rattle.bq_hooks.specs.declared.hook.Hook.TheVariants.{Place, Preempt, Pull}
use Rattle.bq_hooks.specs.declared.hook.Version.{Version}
use Rattle.bq_policy_run.specs.declared.fields.Field.{Field}
use Rattle.bq_policy_run.specs.declared.fields.FieldRow.{FieldRow}
use Rattle.bq_policy_run.specs.declared.fields.FieldWidth.{FieldWidth}
use Rattle.bq_policy_run.specs.declared.fields.FieldWidth.TheVariants.{Four, Eight}
use Rattle.bq_console.specs.Words.{IsSplitAtMark, IsNumber}

-- the number of bytes of a field
abbrev pub bytes_in : FieldWidth → ℕ
bytes_in Four = 4
bytes_in Eight = 8

-- a row of the table: the name, the first byte and the width; for a field that comes several times, the distance between two and
-- their number
pub record NamedField : Type 0 where
  pub name : List ℕ
  pub at : ℕ
  pub width : FieldWidth
  pub apart : ℕ
  pub count : ℕ

-- a row of a field that comes once
abbrev pub once : List ℕ → ℕ → FieldWidth → NamedField
once name at width = record { name = name; at = at; width = width; apart = 0; count = 1 }

-- a row of a field that comes several times
abbrev pub several : List ℕ → ℕ → FieldWidth → ℕ → ℕ → NamedField
several name at width apart count = record { name = name; at = at; width = width; apart = apart; count = count }

-- the fields of a hook's context
abbrev pub fields_of : Hook → List NamedField
fields_of Place =
    once (codes "task") 0 Four
    ∷ once (codes "weight") 4 Four
    ∷ once (codes "mask") 8 Eight
    ∷ once (codes "slice") 16 Eight
    ∷ once (codes "waker") 24 Four
    ∷ once (codes "previous") 28 Four
    ∷ once (codes "processors") 32 Four
    ∷ once (codes "own") 36 Four
    ∷ several (codes "load") 40 Four 4 64
    ∷ []
fields_of Preempt =
    once (codes "processor") 0 Four
    ∷ once (codes "queued") 4 Four
    ∷ once (codes "task") 8 Four
    ∷ once (codes "weight") 12 Four
    ∷ once (codes "v") 16 Eight
    ∷ once (codes "deadline") 24 Eight
    ∷ once (codes "next") 32 Four
    ∷ once (codes "next_weight") 36 Four
    ∷ once (codes "next_v") 40 Eight
    ∷ once (codes "own") 48 Four
    ∷ []
fields_of Pull =
    once (codes "puller") 0 Four
    ∷ once (codes "other") 4 Four
    ∷ once (codes "size") 8 Four
    ∷ once (codes "other_size") 12 Four
    ∷ once (codes "movable") 16 Four
    ∷ once (codes "shown") 20 Four
    ∷ once (codes "own") 24 Four
    ∷ several (codes "task") 32 Four 16 8
    ∷ several (codes "weight") 36 Four 16 8
    ∷ several (codes "v") 40 Eight 16 8
    ∷ []

-- the first row of that name
abbrev pub row_named : List NamedField → List ℕ → Option NamedField
row_named rows name = find (λ r. bytes_eq r.name name) rows

-- a row as the code has it
abbrev pub field_of_row : FieldRow → NamedField
field_of_row r = record { name = r.name.now; at = r.at; width = r.width; apart = r.apart; count = r.count }

-- the field is that of a row whose field comes once
pub record IsSingle (row : NamedField) (field : Field) : Type 0 where
  pub count : row.count ≡ 1
  pub at : field.at ≡ row.at
  pub width : field.width ≡ row.width

-- the field has this number among those of a row whose field comes several times
pub record IsNumbered (row : NamedField) (number : ℕ) (field : Field) : Type 0 where
  pub count : 1 < row.count
  pub below : number < row.count
  pub at : field.at ≡ row.at + number * row.apart
  pub width : field.width ≡ row.width

-- the field of that name
pub record GoesByName (hook : Hook) (name : List ℕ) (field : Field) : Type 0 where
  pub row : NamedField
  pub named : row_named (fields_of hook) name ≡ Some row
  pub single : IsSingle row field

-- the field is the one with the number that the digits write, of those with that name
pub record HasNumber (hook : Hook) (stem digits : List ℕ) (field : Field) : Type 0 where
  pub row : NamedField
  pub named : row_named (fields_of hook) stem ≡ Some row
  pub number : ℕ
  pub is_number : IsNumber digits number
  pub numbered : IsNumbered row number field

-- a name, the first dot and a number
pub record GoesByNumber (hook : Hook) (name : List ℕ) (field : Field) : Type 0 where
  pub stem : List ℕ
  pub digits : List ℕ
  pub splits : IsSplitAtMark 46 name stem digits
  pub has : HasNumber hook stem digits field

-- a field has a name: its row's own, or with a dot and a number
abbrev pub GoesBy : Hook → List ℕ → Field → Type 0
GoesBy hook name field = GoesByName hook name field ⊎ GoesByNumber hook name field

-- the field of that name, within the context of the hook and the version
pub record IsField (hook : Hook) (version : Version) (name : List ℕ) (field : Field) : Type 0 where
  pub named : GoesBy hook name field
  pub within : field.at + bytes_in field.width ≤ context_length_of hook version

-- the bytes are at this place, and all else is as before
pub record IsPasted (at : ℕ) (bytes before after : List ℕ) : Type 0 where
  pub inside : at + length bytes ≤ length before
  pub pasted : after ≡ overwrite before at bytes

-- the field holds the word, low byte first, and all else is as before
pub record IsFieldPut (field : Field) (word : ℕ) (before after : List ℕ) : Type 0 where
  pub fits : word < 256 ^ bytes_in field.width
  pub pasted : IsPasted field.at (bytes_low_first 0 (bytes_in field.width) word) before after
