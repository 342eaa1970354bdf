-- Bytes with a fault are refused for it, and no image has a fault.
use Rattle.std.proofs.Common.{◌≡◌, ◌≢◌, ℕ, zero, suc, ◌*◌, ◌^◌, ◌<◌, ◌≤◌, Bool, false, cond, ltb, List, [], ◌∷◌, ◌++◌, length, take, drop, Result, Ok, Err, refl, sym, ap, subst, ◌∙◌, inl, inr, append_assoc, arith, length-append, length-drop}
use Rattle.std.specs.Prelude.{◌==◌, nat_le}
use Rattle.std.specs.Str.{bytes_eq}
use Rattle.std.specs.Int.{w16, to_le_bytes}
use Rattle.std.proofs.lemmas.Bool.{le-ltb, lt-ltb, leb-true, ne_eqb, false_from_ne_true, cases_lt}
use Rattle.std.proofs.lemmas.List.{take_at, nil_from_length, append-nil}
use Rattle.std.proofs.lemmas.List.Concat.{flat_map-cons}
use Rattle.std.proofs.lemmas.Slice.Eq.{bytes_eq-Decides}
use Rattle.byteorder.specs.Endian.{little_number}
use Rattle.bq_insn.specs.declared.fault.DecodeCause.TheVariants.{Length, Opcode, Register, Field, Offset, Imm, WideCut}
use Rattle.bq_bpf.specs.declared.shape.MapShape.{MapShape}
use Rattle.bq_hooks.specs.declared.hook.Hook.{Hook}
use Rattle.bq_hooks.specs.declared.hook.Hook.TheVariants.{Place, Preempt, Pull}
use Rattle.bq_hooks.specs.declared.hook.Version.{Version}
use Rattle.bq_hooks.specs.declared.hook.Version.TheVariants.{First, Second}
use Rattle.bq_hooks.specs.Hooks.{version_number}
use Rattle.bq_load.specs.declared.fault.LoadFault.{LoadFault}
use Rattle.bq_load.specs.declared.fault.LoadFault.TheVariants as fault
use Rattle.bq_load.specs.Layout.{magic, hook_byte, shape_bytes, shapes_bytes, image_opening, Header, header_bytes, IsHeader}
use Rattle.bq_load.specs.Fields.{Front, Nothing, Marked, Versioned, Hooked, Mapped, Headed, AreGoodFields, front_bytes, next_width, IsBadNext}
use Rattle.bq_load.specs.Faults.{HasBadField, HasFaultyProgram, IsLoadFault}
use Rattle.bq_load.specs.Reading.{◌>>=◌, magic_at, version_at, hook_at, read_number, count_at, is_shape, shape_at, shapes_at, Spelled, header_at, ended, frame_at}
use Rattle.bq_load.proofs.FieldLemmas.{AreBytes, AreBytes-front, AreBytes-after, half_ok, is_shape-limits, shape_of, shape_of-bytes}
use Rattle.bq_load.proofs.HeaderLemmas.{after_shapes, after_count, after_hook, after_version, after_magic}
use Rattle.bq_load.proofs.SpelledHeaderLemmas.{spelled, number_again, half_again, shape_again, shapes_again, read_marked, read_versioned, read_hooked, read_counted, header_again}

-- ---- a bad or cut field gives its fault

-- fewer bytes than a number has are cut
number_cut : (width : ℕ) (bytes : List ℕ) → length bytes < width → read_number width bytes ≡ Err fault.Cut
unfolding read_number
number_cut width bytes h = rw (lt-ltb _ _ h) refl

-- fewer than four bytes are cut, and four bytes other than the letters are bad:
magic_cut : (bytes : List ℕ) → length bytes < 4 → magic_at bytes ≡ Err fault.Cut
unfolding magic_at
magic_cut bytes h = rw (lt-ltb _ _ h) refl

magic_bad : (field rest : List ℕ) → length field ≡ 4 → field ≢ magic → magic_at (field ++ rest) ≡ Err fault.Magic
unfolding magic_at
magic_bad field rest four bad =
    let long : ltb (length (field ++ rest)) 4 ≡ false = le-ltb _ _ (omega (arith, length-append field rest)) in
    let is : take 4 (field ++ rest) ≡ field = take_at field rest 4 four in
    let no : bytes_eq field magic ≡ false = false_from_ne_true _ (λ e. bad ((bytes_eq-Decides field magic).0 e)) in
    rw (long, is, no) refl

-- a byte that is no version's number is bad, and a missing byte is a cut:
version_bad : (b : ℕ) (rest : List ℕ) → ((v : Version) → b ∷ [] ≢ version_number v ∷ []) → version_at (b ∷ rest) ≡ Err fault.Version
unfolding version_at
version_bad b rest bad =
    let one : (b == 1) ≡ false = ne_eqb _ _ (λ e. bad First (ap (λ (x : ℕ). x ∷ []) e)) in
    let two : (b == 2) ≡ false = ne_eqb _ _ (λ e. bad Second (ap (λ (x : ℕ). x ∷ []) e)) in
    rw (one, two) refl

version_cut : (bytes : List ℕ) → length bytes < 1 → version_at bytes ≡ Err fault.Cut
unfolding version_at
version_cut [] h = refl
version_cut (b ∷ bytes) h = absurd (omega arith)

-- a byte that names no hook is bad, and a missing byte is a cut:
hook_bad : (b : ℕ) (rest : List ℕ) → ((h : Hook) → b ∷ [] ≢ hook_byte h ∷ []) → hook_at (b ∷ rest) ≡ Err fault.Hook
unfolding hook_at
hook_bad b rest bad =
    let none : (b == 0) ≡ false = ne_eqb _ _ (λ e. bad Place (ap (λ (x : ℕ). x ∷ []) e)) in
    let one : (b == 1) ≡ false = ne_eqb _ _ (λ e. bad Preempt (ap (λ (x : ℕ). x ∷ []) e)) in
    let two : (b == 2) ≡ false = ne_eqb _ _ (λ e. bad Pull (ap (λ (x : ℕ). x ∷ []) e)) in
    rw (none, one, two) refl

hook_cut : (bytes : List ℕ) → length bytes < 1 → hook_at bytes ≡ Err fault.Cut
unfolding hook_at
hook_cut [] h = refl
hook_cut (b ∷ bytes) h = absurd (omega arith)

-- a number that was read from two bytes is spelled by them
two_bytes : (field rest : List ℕ) → AreBytes field → length field ≡ 2
    → (n : ℕ) × (n < 2 ^ 16) × (field ≡ to_le_bytes w16 n) × (read_number 2 (field ++ rest) ≡ Ok (n, rest))
two_bytes field rest fits two =
    let made = half_ok field (little_number 2 field) (drop 2 field) fits (record { long = omega (arith, two); is = refl; after = refl }) in
    let none : drop 2 field ≡ [] = nil_from_length (drop 2 field) (omega (arith, length-drop 2 field, two)) in
    let is : field ≡ to_le_bytes w16 (little_number 2 field) =
    made.0 ∙ ap (λ (x : List ℕ). to_le_bytes w16 (little_number 2 field) ++ x) none
    ∙ append-nil (to_le_bytes w16 (little_number 2 field)) in (
      little_number 2 field,
      made.1,
      is,
      ap (λ (x : List ℕ). read_number 2 (x ++ rest)) is ∙ half_again (little_number 2 field) rest made.1,
    )

-- two bytes that are no number of maps up to 8 are bad, and fewer than two are cut:
count_bad : (field rest : List ℕ) → AreBytes field → length field ≡ 2
    → ((count : ℕ) → count ≤ 8 → field ≢ to_le_bytes w16 count)
    → count_at (field ++ rest) ≡ Err fault.Shape
unfolding count_at
count_bad field rest fits two bad =
    let n = two_bytes field rest fits two in
    let over : nat_le n.0 8 ≡ false = false_from_ne_true _ (λ e. bad n.0 (leb-true _ _ e) n.2) in
    ap (λ (r : Result (ℕ × List ℕ) LoadFault). r >>= λ count. cond (nat_le count.0 8) (Ok count) (Err fault.Shape)) n.3 ∙ rw over refl

count_cut : (bytes : List ℕ) → length bytes < 2 → count_at bytes ≡ Err fault.Cut
unfolding count_at
count_cut bytes h =
    ap (λ (r : Result (ℕ × List ℕ) LoadFault). r >>= λ count. cond (nat_le count.0 8) (Ok count) (Err fault.Shape))
    (number_cut 2 bytes h)

-- four bytes that are no shape's are bad, and fewer than four are cut:
shape_bad : (field rest : List ℕ) → AreBytes field → length field ≡ 4 → ((s : MapShape) → field ≢ shape_bytes s)
    → shape_at (field ++ rest) ≡ Err fault.Shape
unfolding shape_at
shape_bad (a ∷ b ∷ c ∷ d ∷ []) rest fits four bad =
    let size = two_bytes (a ∷ b ∷ []) (c ∷ d ∷ rest) (AreBytes-front (a ∷ b ∷ []) (c ∷ d ∷ []) fits) refl in
    let entries = two_bytes (c ∷ d ∷ []) rest (AreBytes-after (a ∷ b ∷ []) (c ∷ d ∷ []) fits) refl in
    let joined : a ∷ b ∷ c ∷ d ∷ [] ≡ to_le_bytes w16 size.0 ++ to_le_bytes w16 entries.0 =
    ap (λ (x : List ℕ). x ++ (c ∷ d ∷ [])) size.2 ∙ ap (λ (x : List ℕ). to_le_bytes w16 size.0 ++ x) entries.2 in
    let out : is_shape size.0 entries.0 ≡ false =
    false_from_ne_true _ (λ e.
    bad (shape_of size.0 entries.0 (is_shape-limits size.0 entries.0 e))
    (joined ∙ sym (shape_of-bytes size.0 entries.0 (is_shape-limits size.0 entries.0 e)))) in
    ap (λ (r : Result (ℕ × List ℕ) LoadFault).
    r >>= λ size. read_number 2 size.1 >>= λ entries. cond (is_shape size.0 entries.0) (Ok entries.1) (Err fault.Shape)) size.3
    ∙ ap (λ (r : Result (ℕ × List ℕ) LoadFault). r >>= λ entries. cond (is_shape size.0 entries.0) (Ok entries.1) (Err fault.Shape))
    entries.3
    ∙ ap (λ (t : Bool). cond t (Ok rest) (Err fault.Shape)) out
shape_bad [] rest fits four bad = absurd (omega arith)
shape_bad (a ∷ []) rest fits four bad = absurd (omega arith)
shape_bad (a ∷ b ∷ []) rest fits four bad = absurd (omega arith)
shape_bad (a ∷ b ∷ c ∷ []) rest fits four bad = absurd (omega arith)
shape_bad (a ∷ b ∷ c ∷ d ∷ e ∷ more) rest fits four bad = absurd (omega arith)

shape_cut : (bytes : List ℕ) → length bytes < 4 → shape_at bytes ≡ Err fault.Cut
unfolding shape_at
shape_cut bytes h =
    elim (cases_lt (length bytes) 2) [
      | inl lt ↦
          ap (λ (r : Result (ℕ × List ℕ) LoadFault).
          r >>= λ size. read_number 2 size.1 >>= λ entries. cond (is_shape size.0 entries.0) (Ok entries.1) (Err fault.Shape))
          (number_cut 2 bytes lt)
      | inr le ↦
          ap (λ (r : Result (ℕ × List ℕ) LoadFault).
          r >>= λ size. read_number 2 size.1 >>= λ entries. cond (is_shape size.0 entries.0) (Ok entries.1) (Err fault.Shape))
          (number_again 2 bytes le)
          ∙ ap (λ (r : Result (ℕ × List ℕ) LoadFault).
          r >>= λ entries. cond (is_shape (little_number 2 bytes) entries.0) (Ok entries.1) (Err fault.Shape))
          (number_cut 2 (drop 2 bytes) (omega (arith, length-drop 2 bytes)))
    ]

-- some of the shapes, and then a fault
shapes_stop : (n : ℕ) (shapes : List MapShape) (rest : List ℕ) (f : LoadFault)
    → length shapes < n → shape_at rest ≡ Err f → shapes_at n (shapes_bytes shapes ++ rest) ≡ Err f
unfolding shapes_at
shapes_stop zero shapes rest f h e = absurd (omega arith)
shapes_stop (suc n) [] rest f h e = ap (λ (r : Result (List ℕ) LoadFault). r >>= shapes_at n) e
shapes_stop (suc n) (s ∷ shapes) rest f h e =
    let regrouped : shapes_bytes (s ∷ shapes) ++ rest ≡ shape_bytes s ++ (shapes_bytes shapes ++ rest) =
    ap (λ (x : List ℕ). x ++ rest) (flat_map-cons shape_bytes s shapes) ∙ append_assoc (shape_bytes s) (shapes_bytes shapes) rest in
    ap (shapes_at (suc n)) regrouped
    ∙ ap (λ (r : Result (List ℕ) LoadFault). r >>= shapes_at n) (shape_again s (shapes_bytes shapes ++ rest))
    ∙ shapes_stop n shapes rest f (omega arith) e

-- all shapes are there, and then less than the number of slots
slots_cut : (v : Version) (h : Hook) (n : ℕ) (shapes : List MapShape) (part : List ℕ)
    → n ≡ length shapes → length part < 4 → after_count v h (n, shapes_bytes shapes ++ part) ≡ Err fault.Cut
slots_cut v h n shapes part is short =
    let maps : List ℕ = shapes_bytes shapes ++ part in
    ap (λ (r : Result (List ℕ) LoadFault). r >>= after_shapes v h n maps) (ap (λ (m : ℕ). shapes_at m maps) is ∙ shapes_again shapes part)
    ∙ ap (λ (r : Result (ℕ × List ℕ) LoadFault).
    r >>= λ slots. Ok (record { version = v; hook = h; shapes = take (4 * n) maps; slots = slots.0 }, slots.1))
    (number_cut 4 part short)

-- a field of one byte is that byte
one_byte : (field : List ℕ) → length field ≡ 1 → (b : ℕ) × (field ≡ b ∷ [])
one_byte [] h = absurd (omega arith)
one_byte (b ∷ []) h = (b, refl)
one_byte (b ∷ c ∷ more) h = absurd (omega arith)

-- good fields and then a bad one
bad_at : (front : Front) (field rest : List ℕ) (f : LoadFault)
    → AreBytes field → AreGoodFields front → length field ≡ next_width front → IsBadNext front field f
    → header_at (front_bytes front ++ (field ++ rest)) ≡ Err f
unfolding header_at
bad_at Nothing field rest fault.Magic fits good whole bad =
    ap (λ (r : Result (List ℕ) LoadFault). r >>= after_magic) (magic_bad field rest whole bad)
bad_at Marked field rest fault.Version fits good whole bad =
    let one = one_byte field whole in
    let worse : (v : Version) → one.0 ∷ [] ≢ version_number v ∷ [] = λ v e. bad v (one.1 ∙ e) in
    ap (λ (x : List ℕ). header_at (magic ++ (x ++ rest))) one.1 ∙ read_marked (one.0 ∷ rest)
    ∙ ap (λ (r : Result (Version × List ℕ) LoadFault). r >>= after_version) (version_bad one.0 rest worse)
bad_at (Versioned v) field rest fault.Hook fits good whole bad =
    let one = one_byte field whole in
    let worse : (h : Hook) → one.0 ∷ [] ≢ hook_byte h ∷ [] = λ h e. bad h (one.1 ∙ e) in
    ap (λ (x : List ℕ). header_at (magic ++ (version_number v ∷ (x ++ rest)))) one.1 ∙ read_versioned v (one.0 ∷ rest)
    ∙ ap (λ (r : Result (Hook × List ℕ) LoadFault). r >>= after_hook v) (hook_bad one.0 rest worse)
bad_at (Hooked v h) field rest fault.Shape fits good whole bad =
    read_hooked v h (field ++ rest)
    ∙ ap (λ (r : Result (ℕ × List ℕ) LoadFault). r >>= after_count v h) (count_bad field rest fits whole bad)
bad_at (Mapped v h n shapes) field rest fault.Shape fits good whole bad =
    ap header_at (append_assoc (image_opening v h n) (shapes_bytes shapes) (field ++ rest))
    ∙ read_counted v h n (shapes_bytes shapes ++ (field ++ rest)) good.0
    ∙ ap (λ (r : Result (List ℕ) LoadFault). r >>= after_shapes v h n (shapes_bytes shapes ++ (field ++ rest)))
    (shapes_stop n shapes (field ++ rest) fault.Shape bad.0 (shape_bad field rest fits whole bad.1))
bad_at front field rest f fits good whole bad = absurd bad

-- good fields and then less than the next; behind the header that is the program
abbrev IsCutAt : Front → List ℕ → Type 0
IsCutAt (Headed h) part = header_at (header_bytes h ++ part) ≡ Ok (spelled h, part)
IsCutAt front part = header_at (front_bytes front ++ part) ≡ Err fault.Cut

-- after good fields, fewer bytes than the next field has are cut; after a header they are left for the program
cut_at : (front : Front) (part : List ℕ) → AreGoodFields front → length part < next_width front → IsCutAt front part
unfolding header_at
cut_at Nothing part good short = ap (λ (r : Result (List ℕ) LoadFault). r >>= after_magic) (magic_cut part short)
cut_at Marked part good short =
    read_marked part ∙ ap (λ (r : Result (Version × List ℕ) LoadFault). r >>= after_version) (version_cut part short)
cut_at (Versioned v) part good short =
    read_versioned v part ∙ ap (λ (r : Result (Hook × List ℕ) LoadFault). r >>= after_hook v) (hook_cut part short)
cut_at (Hooked v h) part good short =
    read_hooked v h part ∙ ap (λ (r : Result (ℕ × List ℕ) LoadFault). r >>= after_count v h) (count_cut part short)
cut_at (Mapped v h n shapes) part good short =
    ap header_at (append_assoc (image_opening v h n) (shapes_bytes shapes) part)
    ∙ read_counted v h n (shapes_bytes shapes ++ part) good.0
    ∙ elim (cases_lt (length shapes) n) [
      | inl lt ↦
          ap (λ (r : Result (List ℕ) LoadFault). r >>= after_shapes v h n (shapes_bytes shapes ++ part))
          (shapes_stop n shapes part fault.Cut lt (shape_cut part short))
      | inr le ↦ slots_cut v h n shapes part (omega (arith, good.1)) short
    ]
cut_at (Headed h) part good short = header_again h part good

-- ---- the first fault of bytes is what reading them gives

-- a good header with less behind it than its program has is read as cut
pub frame_short : (h : Header) (rest : List ℕ) → IsHeader h → length rest < 8 * h.slots → frame_at (header_bytes h ++ rest) ≡ Err fault.Cut
unfolding frame_at
frame_short h rest good short =
    ap (λ (r : Result (Spelled × List ℕ) LoadFault). r >>= ended) (header_again h rest good) ∙ rw (lt-ltb _ _ short) refl

-- a good header with more behind it than its program has is read as one with bytes after the end
frame_long : (h : Header) (rest : List ℕ) → IsHeader h → 8 * h.slots < length rest → frame_at (header_bytes h ++ rest) ≡ Err fault.Rest
unfolding frame_at
frame_long h rest good long =
    let low : ltb (length rest) (8 * h.slots) ≡ false = le-ltb _ _ (omega arith) in
    ap (λ (r : Result (Spelled × List ℕ) LoadFault). r >>= ended) (header_again h rest good) ∙ rw (low, lt-ltb _ _ long) refl

-- a fault in reading the header is the fault of reading all
frame_stop : (bytes : List ℕ) (f : LoadFault) → header_at bytes ≡ Err f → frame_at bytes ≡ Err f
unfolding frame_at
frame_stop bytes f e = ap (λ (r : Result (Spelled × List ℕ) LoadFault). r >>= ended) e

-- bytes with a bad field are read as having its fault
bad_again : (bytes : List ℕ) (f : LoadFault) → AreBytes bytes → HasBadField bytes f → header_at bytes ≡ Err f
bad_again bytes f fits b =
    let after : AreBytes (b.field ++ b.rest) = AreBytes-after (front_bytes b.front) (b.field ++ b.rest) (subst AreBytes b.bytes_are fits) in
    ap header_at b.bytes_are ∙ bad_at b.front b.field b.rest f (AreBytes-front b.field b.rest after) b.good b.whole b.bad

-- good fields, followed by less than the next field has, are read as cut
cut_again : (front : Front) (part : List ℕ) → AreGoodFields front → length part < next_width front
    → frame_at (front_bytes front ++ part) ≡ Err fault.Cut
cut_again (Headed h) part good short = frame_short h part good short
cut_again Nothing part good short = frame_stop part fault.Cut (cut_at Nothing part good short)
cut_again Marked part good short = frame_stop (magic ++ part) fault.Cut (cut_at Marked part good short)
cut_again (Versioned v) part good short = frame_stop _ fault.Cut (cut_at (Versioned v) part good short)
cut_again (Hooked v h) part good short = frame_stop _ fault.Cut (cut_at (Hooked v h) part good short)
cut_again (Mapped v h n shapes) part good short = frame_stop _ fault.Cut (cut_at (Mapped v h n shapes) part good short)

-- a fault is found by reading, or is one of the program
abbrev pub IsFound : List ℕ → LoadFault → Type 0
IsFound bytes (fault.Decode slot Length) = HasFaultyProgram bytes slot Length
IsFound bytes f = frame_at bytes ≡ Err f

-- a fault of the bytes is found: reading them gives it, or it is that of the program's length
pub fault_again : (bytes : List ℕ) (f : LoadFault) → AreBytes bytes → IsLoadFault bytes f → IsFound bytes f
fault_again bytes fault.Cut fits b = ap frame_at b.bytes_are ∙ cut_again b.front b.part b.good b.short
fault_again bytes fault.Rest fits b = ap frame_at b.bytes_are ∙ frame_long b.header b.rest b.good b.more
fault_again bytes (fault.Decode slot Length) fits b = b
fault_again bytes (fault.Decode slot Opcode) fits b = frame_stop bytes _ (bad_again bytes _ fits b)
fault_again bytes (fault.Decode slot Register) fits b = frame_stop bytes _ (bad_again bytes _ fits b)
fault_again bytes (fault.Decode slot Field) fits b = frame_stop bytes _ (bad_again bytes _ fits b)
fault_again bytes (fault.Decode slot Offset) fits b = frame_stop bytes _ (bad_again bytes _ fits b)
fault_again bytes (fault.Decode slot Imm) fits b = frame_stop bytes _ (bad_again bytes _ fits b)
fault_again bytes (fault.Decode slot WideCut) fits b = frame_stop bytes _ (bad_again bytes _ fits b)
fault_again bytes fault.Magic fits b = frame_stop bytes _ (bad_again bytes _ fits b)
fault_again bytes fault.Version fits b = frame_stop bytes _ (bad_again bytes _ fits b)
fault_again bytes fault.Hook fits b = frame_stop bytes _ (bad_again bytes _ fits b)
fault_again bytes fault.Shape fits b = frame_stop bytes _ (bad_again bytes _ fits b)
fault_again bytes (fault.Refused slot cause) fits b = frame_stop bytes _ (bad_again bytes _ fits b)
fault_again bytes fault.OutOfMemory fits b = frame_stop bytes _ (bad_again bytes _ fits b)
