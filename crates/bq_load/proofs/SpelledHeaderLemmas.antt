-- What is spelled is read again: good fields give what stands after them, and a bad or cut field its fault.
use Rattle.std.proofs.Common.{◌≡◌, ℕ, suc, ◌*◌, ◌^◌, ◌<◌, ◌≤◌, Bool, true, false, cond, ltb, List, [], ◌∷◌, ◌++◌, length, take, drop, Result, Ok, Err, refl, sym, ap, ◌∙◌, append_assoc, arith, length-append}
use Rattle.std.specs.Prelude.{nat_le}
use Rattle.std.specs.Int.{w16, w32, to_le_bytes}
use Rattle.std.proofs.lemmas.Bool.{le-ltb, le-leb}
use Rattle.std.proofs.lemmas.List.{take_at}
use Rattle.std.proofs.lemmas.List.Concat.{flat_map-cons}
use Rattle.byteorder.specs.Endian.{little_number}
use Rattle.byteorder.specs.Numbers.{little_number-reads_back}
use Rattle.bq_bpf.specs.declared.shape.MapShape.{MapShape}
use Rattle.bq_hooks.specs.declared.hook.Hook.{Hook}
use Rattle.bq_hooks.specs.declared.hook.Hook.TheVariants.{Place, Preempt, Pull}
use Rattle.bq_hooks.specs.declared.hook.Version.{Version}
use Rattle.bq_hooks.specs.declared.hook.Version.TheVariants.{First, Second}
use Rattle.bq_hooks.specs.Hooks.{version_number}
use Rattle.bq_load.specs.declared.fault.LoadFault.{LoadFault}
use Rattle.bq_load.specs.declared.fault.LoadFault.TheVariants as fault
use Rattle.bq_load.specs.Layout.{magic, hook_byte, shape_bytes, shapes_bytes, image_opening, Header, header_bytes, IsHeader}
use Rattle.bq_load.specs.Reading.{◌>>=◌, magic_at, version_at, hook_at, read_number, count_at, is_shape, shape_at, shapes_at, Spelled, header_at}
use Rattle.bq_load.proofs.FieldLemmas.{is_shape-met, shape_facts}
use Rattle.bq_load.proofs.HeaderLemmas.{length-shapes_bytes, regroup_header, after_shapes, after_count, after_hook, after_version, after_magic}

-- a number with enough bytes
pub number_again : (width : ℕ) (bytes : List ℕ) → width ≤ length bytes
    → read_number width bytes ≡ Ok (little_number width bytes, drop width bytes)
unfolding read_number
number_again width bytes h = rw (le-ltb _ _ h) refl

-- a number below 2 to the 16th that two bytes spell is read again, and the rest is left
pub half_again : (n : ℕ) (rest : List ℕ) → n < 2 ^ 16 → read_number 2 (to_le_bytes w16 n ++ rest) ≡ Ok (n, rest)
half_again n rest lt =
    number_again 2 (to_le_bytes w16 n ++ rest) (omega (arith, length-append (to_le_bytes w16 n) rest))
    ∙ ap (λ (m : ℕ). Ok (m, rest)) (little_number-reads_back 2 n rest lt)

-- a number below 2 to the 32nd that four bytes spell is read again, and the rest is left
pub word_again : (n : ℕ) (rest : List ℕ) → n < 2 ^ 32 → read_number 4 (to_le_bytes w32 n ++ rest) ≡ Ok (n, rest)
word_again n rest lt =
    number_again 4 (to_le_bytes w32 n ++ rest) (omega (arith, length-append (to_le_bytes w32 n) rest))
    ∙ ap (λ (m : ℕ). Ok (m, rest)) (little_number-reads_back 4 n rest lt)

-- the letters are read again, and what stands after them is left
pub magic_again : (rest : List ℕ) → magic_at (magic ++ rest) ≡ Ok rest
unfolding magic_at
magic_again rest =
    let long : ltb (length (magic ++ rest)) 4 ≡ false = le-ltb _ _ (omega (arith, length-append magic rest)) in
    rw long refl

-- a version's number is read again as that version, and the rest is left
pub version_again : (v : Version) (rest : List ℕ) → version_at (version_number v ∷ rest) ≡ Ok (v, rest)
unfolding version_at
version_again First rest = refl
version_again Second rest = refl

-- a hook's byte is read again as that hook, and the rest is left
pub hook_again : (h : Hook) (rest : List ℕ) → hook_at (hook_byte h ∷ rest) ≡ Ok (h, rest)
unfolding hook_at
hook_again Place rest = refl
hook_again Preempt rest = refl
hook_again Pull rest = refl

-- a number of at most 8 maps is read again, and the rest is left
pub count_again : (n : ℕ) (rest : List ℕ) → n ≤ 8 → count_at (to_le_bytes w16 n ++ rest) ≡ Ok (n, rest)
unfolding count_at
count_again n rest few =
    let read = half_again n rest (omega arith) in
    let met : nat_le n 8 ≡ true = le-leb _ _ few in
    ap (λ (r : Result (ℕ × List ℕ) LoadFault). r >>= λ count. cond (nat_le count.0 8) (Ok count) (Err fault.Shape)) read ∙ rw met refl

-- the bytes of a shape are read again as one, and the rest is left
pub shape_again : (s : MapShape) (rest : List ℕ) → shape_at (shape_bytes s ++ rest) ≡ Ok rest
unfolding shape_at
shape_again s rest =
    let facts = shape_facts s in
    let size = half_again s.value_size (to_le_bytes w16 s.entries ++ rest) (omega (arith, facts.greatest_size)) in
    let entries = half_again s.entries rest (omega (arith, facts.greatest_entries)) in
    let met : is_shape s.value_size s.entries ≡ true = is_shape-met s.value_size s.entries facts in
    ap (λ (r : Result (ℕ × List ℕ) LoadFault).
    r >>= λ size. read_number 2 size.1 >>= λ entries. cond (is_shape size.0 entries.0) (Ok entries.1) (Err fault.Shape)) size
    ∙ ap (λ (r : Result (ℕ × List ℕ) LoadFault). r >>= λ entries. cond (is_shape s.value_size entries.0) (Ok entries.1) (Err fault.Shape))
    entries
    ∙ ap (λ (b : Bool). cond b (Ok rest) (Err fault.Shape)) met

-- the bytes of some shapes are read again as this many, and the rest is left
pub shapes_again : (shapes : List MapShape) (rest : List ℕ) → shapes_at (length shapes) (shapes_bytes shapes ++ rest) ≡ Ok rest
unfolding shapes_at
shapes_again [] rest = refl
shapes_again (s ∷ shapes) rest =
    let regrouped : shapes_bytes (s ∷ shapes) ++ rest ≡ shape_bytes s ++ (shapes_bytes shapes ++ rest) =
    ap (λ (x : List ℕ). x ++ rest) (flat_map-cons shape_bytes s shapes) ∙ append_assoc (shape_bytes s) (shapes_bytes shapes) rest in
    ap (shapes_at (suc (length shapes))) regrouped
    ∙ ap (λ (r : Result (List ℕ) LoadFault). r >>= shapes_at (length shapes)) (shape_again s (shapes_bytes shapes ++ rest))
    ∙ shapes_again shapes rest

-- ---- the fields so far give what is read of the rest

-- where the letters stand, the header is read on from the version
pub read_marked : (rest : List ℕ) → header_at (magic ++ rest) ≡ after_magic rest
unfolding header_at
read_marked rest = ap (λ (r : Result (List ℕ) LoadFault). r >>= after_magic) (magic_again rest)

-- where letters and version stand, the header is read on from the hook
pub read_versioned : (v : Version) (rest : List ℕ) → header_at (magic ++ (version_number v ∷ rest)) ≡ after_version (v, rest)
read_versioned v rest =
    read_marked (version_number v ∷ rest) ∙ ap (λ (r : Result (Version × List ℕ) LoadFault). r >>= after_version) (version_again v rest)

-- where letters, version and hook stand, the header is read on from the number of maps
pub read_hooked : (v : Version) (h : Hook) (rest : List ℕ)
    → header_at (magic ++ (version_number v ∷ hook_byte h ∷ rest)) ≡ after_hook v (h, rest)
read_hooked v h rest =
    read_versioned v (hook_byte h ∷ rest) ∙ ap (λ (r : Result (Hook × List ℕ) LoadFault). r >>= after_hook v) (hook_again h rest)

-- where all up to a number of at most 8 maps stands, the header is read on from the shapes
pub read_counted : (v : Version) (h : Hook) (n : ℕ) (rest : List ℕ) → n ≤ 8 → header_at (image_opening v h n ++ rest) ≡ after_count v h (n, rest)
read_counted v h n rest few =
    read_hooked v h (to_le_bytes w16 n ++ rest) ∙ ap (λ (r : Result (ℕ × List ℕ) LoadFault). r >>= after_count v h) (count_again n rest few)

-- a header with its shapes as they stand
abbrev pub spelled : Header → Spelled
spelled h = record { version = h.version; hook = h.hook; shapes = shapes_bytes h.shapes; slots = h.slots }

-- the bytes of a good header are read again as what it spells, and the rest is left
pub header_again : (h : Header) (rest : List ℕ) → IsHeader h → header_at (header_bytes h ++ rest) ≡ Ok (spelled h, rest)
header_again h rest good =
    let n = length h.shapes in
    let maps : List ℕ = shapes_bytes h.shapes ++ (to_le_bytes w32 h.slots ++ rest) in
    let front : take (4 * n) maps ≡ shapes_bytes h.shapes =
    take_at (shapes_bytes h.shapes) (to_le_bytes w32 h.slots ++ rest) (4 * n) (length-shapes_bytes h.shapes) in
    ap header_at (sym (regroup_header h rest)) ∙ read_counted h.version h.hook n maps good.few
    ∙ ap (λ (r : Result (List ℕ) LoadFault). r >>= after_shapes h.version h.hook n maps)
    (shapes_again h.shapes (to_le_bytes w32 h.slots ++ rest))
    ∙ ap (λ (r : Result (ℕ × List ℕ) LoadFault).
    r >>= λ slots. Ok (record { version = h.version; hook = h.hook; shapes = take (4 * n) maps; slots = slots.0 }, slots.1))
    (word_again h.slots rest good.slots)
    ∙ ap (λ (s : List ℕ). Ok (record { version = h.version; hook = h.hook; shapes = s; slots = h.slots }, rest)) front
