-- Reading field after field, as the code does. Each function answers the value of a field and the bytes after it, or
-- the first fault.
use Rattle.std.specs.Prelude.{◌≡◌, ℕ, zero, suc, ◌*◌, Bool, ◌&&◌, List, [], ◌∷◌, length, take, drop, Result, Ok, Err, nat_lt, nat_le, ◌==◌, ◌%◌, if◌then◌else◌}
use Rattle.std.specs.Str.{bytes_eq}
use Rattle.byteorder.specs.Endian.{little_number}
use Rattle.bq_hooks.specs.declared.hook.Hook.{Hook}
use Rattle.bq_hooks.specs.declared.hook.Hook.TheVariants.{Place, Preempt, Pull}
use Rattle.bq_hooks.specs.declared.hook.Version.{Version}
use Rattle.bq_hooks.specs.declared.hook.Version.TheVariants.{First, Second}
use Rattle.bq_load.specs.declared.fault.LoadFault.{LoadFault}
use Rattle.bq_load.specs.declared.fault.LoadFault.TheVariants as fault
use Rattle.bq_load.specs.Layout.{magic}
use Rattle.bq_bpf.specs.declared.shape.TheConstants.{ENTRIES, GREATEST_SIZE, LEAST_SIZE, MAPS}

infixl 10 ◌>>=◌
-- goes on with what was read, or keeps the first fault
abbrev pub ◌>>=◌ : {A B : Type 0} → Result A LoadFault → (A → Result B LoadFault) → Result B LoadFault
(Ok x) >>= f = f x
(Err e) >>= f = Err e

-- the answer of a function, seen through `view`, is what reading answers
abbrev pub Gives : {X Y : Type 0} → (X → Y) → Result X LoadFault → Result Y LoadFault → Type 0
Gives view (Ok x) read = read ≡ Ok (view x)
Gives view (Err e) read = read ≡ Err e

-- the bytes after the letters BQPI
unfoldable pub magic_at : List ℕ → Result (List ℕ) LoadFault
magic_at bytes =
    if nat_lt (length bytes) 4 then Err fault.Cut
    else if bytes_eq (take 4 bytes) magic then Ok (drop 4 bytes)
    else Err fault.Magic

-- the version and the bytes after it
unfoldable pub version_at : List ℕ → Result (Version × List ℕ) LoadFault
version_at [] = Err fault.Cut
version_at (b ∷ rest) = if b == 1 then Ok (First, rest) else if b == 2 then Ok (Second, rest) else Err fault.Version

-- the hook and the bytes after it
unfoldable pub hook_at : List ℕ → Result (Hook × List ℕ) LoadFault
hook_at [] = Err fault.Cut
hook_at (b ∷ rest) =
    if b == 0 then Ok (Place, rest) else if b == 1 then Ok (Preempt, rest) else if b == 2 then Ok (Pull, rest) else Err fault.Hook

-- a little-endian number of this many bytes, and the bytes after it
unfoldable pub read_number : ℕ → List ℕ → Result (ℕ × List ℕ) LoadFault
read_number width bytes = if nat_lt (length bytes) width then Err fault.Cut else Ok (little_number width bytes, drop width bytes)

-- the number of maps, at most `MAPS`, and the bytes after it
unfoldable pub count_at : List ℕ → Result (ℕ × List ℕ) LoadFault
count_at bytes = do
  count ← read_number 2 bytes
  if nat_le count.0 MAPS then Ok count else Err fault.Shape

-- whether the size of a value and the number of entries are within their limits
abbrev pub is_shape : ℕ → ℕ → Bool
is_shape size entries = (nat_le LEAST_SIZE size && (nat_le size GREATEST_SIZE && (size % LEAST_SIZE == 0))) && (nat_le 1 entries && nat_le entries ENTRIES)

-- the bytes after a shape that is within its limits
unfoldable pub shape_at : List ℕ → Result (List ℕ) LoadFault
shape_at bytes = do
  size ← read_number 2 bytes
  entries ← read_number 2 size.1
  if is_shape size.0 entries.0 then Ok entries.1 else Err fault.Shape

-- the bytes after this many shapes
unfoldable pub shapes_at : ℕ → List ℕ → Result (List ℕ) LoadFault
shapes_at zero bytes = Ok bytes
shapes_at (suc n) bytes = do
  rest ← shape_at bytes
  shapes_at n rest

-- a header whose shapes are still the bytes of the image, four for each shape
pub record Spelled : Type 0 where
  pub version : Version
  pub hook : Hook
  pub shapes : List ℕ
  pub slots : ℕ

-- the header and the bytes after it
unfoldable pub header_at : List ℕ → Result (Spelled × List ℕ) LoadFault
header_at bytes = do
  rest ← magic_at bytes
  version ← version_at rest
  hook ← hook_at version.1
  count ← count_at hook.1
  after ← shapes_at count.0 count.1
  slots ← read_number 4 after
  Ok (record { version = version.0; hook = hook.0; shapes = take (4 * count.0) count.1; slots = slots.0 }, slots.1)

-- the program is as long as the header says; else the bytes are cut, or bytes are left after it
abbrev pub ended : (Spelled × List ℕ) → Result (Spelled × List ℕ) LoadFault
ended x =
    if nat_lt (length x.1) (8 * x.0.slots) then Err fault.Cut
    else if nat_lt (8 * x.0.slots) (length x.1) then Err fault.Rest
    else Ok x

-- the header and the program, and nothing after them
unfoldable pub frame_at : List ℕ → Result (Spelled × List ℕ) LoadFault
frame_at bytes = header_at bytes >>= ended
