-- The layout of an image, numbers little-endian: the letters BQPI, the version, the hook, the number of maps, their
-- shapes, the number of slots, and the program, eight bytes for each slot.
use Rattle.std.specs.Prelude.{◌≡◌, ℕ, ◌*◌, ◌^◌, ◌<◌, ◌≤◌, List, [], ◌∷◌, ◌++◌, length}
use Rattle.std.specs.Int.{w16, w32, to_le_bytes}
use Rattle.std.specs.List.{flat_map}
use Rattle.bq_bpf.specs.declared.shape.MapShape.{MapShape}
use Rattle.bq_hooks.specs.declared.hook.Hook.{Hook}
use Rattle.bq_hooks.specs.declared.hook.Hook.TheVariants.{Place, Preempt, Pull}
use Rattle.bq_hooks.specs.declared.hook.Version.{Version}
use Rattle.bq_hooks.specs.Hooks.{version_number}
use Rattle.bq_bpf.specs.declared.shape.TheConstants.{MAPS}

-- BQPI
abbrev pub magic : List ℕ
magic = 0x42 ∷ 0x51 ∷ 0x50 ∷ 0x49 ∷ []

-- the byte that names a hook
abbrev pub hook_byte : Hook → ℕ
hook_byte Place = 0
hook_byte Preempt = 1
hook_byte Pull = 2

-- the four bytes of a shape: the size of a value, and the number of entries
abbrev pub shape_bytes : MapShape → List ℕ
shape_bytes s = to_le_bytes w16 s.value_size ++ to_le_bytes w16 s.entries

-- the bytes of shapes, one after another
abbrev pub shapes_bytes : List MapShape → List ℕ
shapes_bytes shapes = flat_map shape_bytes shapes

-- the eight bytes before the shapes: the letters, the version, the hook and the number of maps
abbrev pub image_opening : Version → Hook → ℕ → List ℕ
image_opening version hook count = magic ++ (version_number version ∷ hook_byte hook ∷ to_le_bytes w16 count)

-- a header: all that an image has before its program
pub record Header : Type 0 where
  pub version : Version
  pub hook : Hook
  pub shapes : List MapShape
  pub slots : ℕ

-- the bytes of a header
abbrev pub header_bytes : Header → List ℕ
header_bytes h = image_opening h.version h.hook (length h.shapes) ++ (shapes_bytes h.shapes ++ to_le_bytes w32 h.slots)

-- the header has at most 8 maps, and its number of slots fits four bytes
pub record IsHeader (h : Header) : Type 0 where
  pub few : length h.shapes ≤ MAPS
  pub slots : h.slots < 2 ^ 32

-- the bytes are this header and a program of as many slots as the header says, and nothing more
pub record IsFramed (bytes : List ℕ) (h : Header) (program : List ℕ) : Type 0 where
  pub header : IsHeader h
  pub whole : length program ≡ 8 * h.slots
  pub bytes_are : bytes ≡ header_bytes h ++ program

-- the bytes are an image with this version, hook, shapes and program, which has 1 to 4096 slots
pub record IsImage (bytes : List ℕ) (version : Version) (hook : Hook) (shapes : List MapShape) (program : List ℕ) : Type 0 where
  pub slots : ℕ
  pub some : 1 ≤ slots
  pub most : slots ≤ 4096
  pub framed : IsFramed bytes (record { version = version; hook = hook; shapes = shapes; slots = slots }) program
