-- The fields of an image from left to right: which fields have come, and which field is next.
use Rattle.std.specs.Prelude.{◌≢◌, ℕ, ◌*◌, ◌<◌, ◌≤◌, List, [], ◌∷◌, ◌++◌, length}
use Rattle.std.specs.Int.{w16, to_le_bytes}
use Rattle.bq_bpf.specs.declared.shape.MapShape.{MapShape}
use Rattle.bq_hooks.specs.declared.hook.Hook.{Hook}
use Rattle.bq_hooks.specs.declared.hook.Version.{Version}
use Rattle.bq_hooks.specs.Hooks.{version_number}
use Rattle.bq_load.specs.declared.fault.LoadFault.{LoadFault}
use Rattle.bq_load.specs.declared.fault.LoadFault.TheVariants as fault
use Rattle.bq_load.specs.Layout.{magic, hook_byte, shape_bytes, shapes_bytes, image_opening, Header, header_bytes, IsHeader}
use Rattle.bq_bpf.specs.declared.shape.TheConstants.{MAPS}

-- the fields at the front: none; the letters; also the version; also the hook; also the number of maps and some shapes;
-- or the whole header
pub data Front : Type 0 where
  Nothing : Front
  Marked : Front
  Versioned : Version → Front
  Hooked : Version → Hook → Front
  Mapped : Version → Hook → (count : ℕ) → (shapes : List MapShape) → Front
  Headed : Header → Front

-- all fields at the front are good
abbrev pub AreGoodFields : Front → Type 0
AreGoodFields (Mapped version hook count shapes) = (count ≤ MAPS) × (length shapes ≤ count)
AreGoodFields (Headed h) = IsHeader h
AreGoodFields _ = Unit {0}

-- the bytes of the fields at the front
abbrev pub front_bytes : Front → List ℕ
front_bytes Nothing = []
front_bytes Marked = magic
front_bytes (Versioned version) = magic ++ (version_number version ∷ [])
front_bytes (Hooked version hook) = magic ++ (version_number version ∷ hook_byte hook ∷ [])
front_bytes (Mapped version hook count shapes) = image_opening version hook count ++ shapes_bytes shapes
front_bytes (Headed h) = header_bytes h

-- how many bytes the next field has. After the last shape the next field is the number of slots, and after the header
-- it is the program
abbrev pub next_width : Front → ℕ
next_width Nothing = 4
next_width Marked = 1
next_width (Versioned version) = 1
next_width (Hooked version hook) = 2
next_width (Mapped version hook count shapes) = 4
next_width (Headed h) = 8 * h.slots

-- the next field spells nothing that may come there, and this is the fault
abbrev pub IsBadNext : Front → List ℕ → LoadFault → Type 0
IsBadNext Nothing field fault.Magic = field ≢ magic
IsBadNext Marked field fault.Version = (version : Version) → field ≢ version_number version ∷ []
IsBadNext (Versioned _) field fault.Hook = (hook : Hook) → field ≢ hook_byte hook ∷ []
IsBadNext (Hooked _ _) field fault.Shape = (count : ℕ) → count ≤ MAPS → field ≢ to_le_bytes w16 count
IsBadNext (Mapped _ _ count shapes) field fault.Shape = (length shapes < count) × ((shape : MapShape) → field ≢ shape_bytes shape)
IsBadNext _ field _ = ⊥
