-- A header that was read is in the bytes; one that was refused has a first field that is bad or cut.
use Rattle.std.proofs.Common.{◌≡◌, ℕ, ◌*◌, ◌≤◌, List, [], ◌∷◌, ◌++◌, length, take, Result, Ok, Err, refl, sym, ap, subst, ◌∙◌, inl, inr, append_assoc, arith, length-append}
use Rattle.std.specs.Int.{w16, w32, to_le_bytes}
use Rattle.std.proofs.lemmas.List.{take_at}
use Rattle.std.proofs.lemmas.List.Concat.{flat_map-cons}
use Rattle.bq_insn.specs.declared.fault.DecodeCause.{DecodeCause}
use Rattle.bq_bpf.specs.declared.shape.MapShape.{MapShape}
use Rattle.bq_hooks.specs.declared.hook.Hook.{Hook}
use Rattle.bq_hooks.specs.declared.hook.Version.{Version}
use Rattle.bq_hooks.specs.Hooks.{version_number}
use Rattle.bq_load.specs.declared.fault.LoadFault.{LoadFault}
use Rattle.bq_load.specs.declared.fault.LoadFault.TheVariants as fault
use Rattle.bq_load.specs.Layout.{magic, hook_byte, shape_bytes, shapes_bytes, image_opening, Header, header_bytes}
use Rattle.bq_load.specs.Fields.{Front, Nothing, Marked, Versioned, Hooked, Mapped, Headed, AreGoodFields, front_bytes, IsBadNext}
use Rattle.bq_load.specs.Faults.{HasBadField, IsLoadFault}
use Rattle.bq_load.specs.Headers.{HasHeader}
use Rattle.bq_load.specs.Reading.{◌>>=◌, magic_at, version_at, hook_at, read_number, count_at, shapes_at, Spelled, header_at}
use Rattle.bq_load.proofs.ReadingLemmas.{bind_ok, ok_is, number_ok}
use Rattle.bq_load.proofs.FieldLemmas.{AreBytes, AreBytes-after, IsRefusedField, IsRefusedShape, HasRefusedShape, bind_err, magic_ok, magic_err, version_ok, version_err, hook_ok, hook_err, number_err, word_ok, count_ok, count_err, shapes_ok, shapes_err}

-- a shape has four bytes
pub length-shapes_bytes : (shapes : List MapShape) → length (shapes_bytes shapes) ≡ 4 * length shapes
length-shapes_bytes [] = refl
length-shapes_bytes (s ∷ shapes) = omega (
  arith,
  ap length (flat_map-cons shape_bytes s shapes),
  length-append (shape_bytes s) (shapes_bytes shapes),
  length-shapes_bytes shapes,
)

-- the parts of a header, one after the other, are the bytes of the header
pub regroup_header : (h : Header) (rest : List ℕ)
    → image_opening h.version h.hook (length h.shapes) ++ (shapes_bytes h.shapes ++ (to_le_bytes w32 h.slots ++ rest)) ≡ header_bytes h ++ rest
regroup_header h rest =
    ap (λ (x : List ℕ). image_opening h.version h.hook (length h.shapes) ++ x)
    (sym (append_assoc (shapes_bytes h.shapes) (to_le_bytes w32 h.slots) rest))
    ∙ sym (append_assoc (image_opening h.version h.hook (length h.shapes)) (shapes_bytes h.shapes ++ to_le_bytes w32 h.slots) rest)

-- the shapes and the number of slots behind what stands before them
spelled_maps : (v : Version) (h : Hook) (n : ℕ) (maps : List ℕ) (shapes : List MapShape) (slots : ℕ) (after rest : List ℕ)
    → length shapes ≡ n → maps ≡ shapes_bytes shapes ++ after → after ≡ to_le_bytes w32 slots ++ rest
    → image_opening v h n ++ maps ≡ header_bytes (record { version = v; hook = h; shapes = shapes; slots = slots }) ++ rest
spelled_maps v h n maps shapes slots after rest count maps-is after-is =
    let counted : image_opening v h n ++ maps ≡ image_opening v h (length shapes) ++ maps = ap (λ (m : ℕ). image_opening v h m ++ maps) (sym count) in
    let whole : maps ≡ shapes_bytes shapes ++ (to_le_bytes w32 slots ++ rest) =
    maps-is ∙ ap (λ (y : List ℕ). shapes_bytes shapes ++ y) after-is in
    counted ∙ ap (λ (y : List ℕ). image_opening v h (length shapes) ++ y) whole
    ∙ regroup_header (record { version = v; hook = h; shapes = shapes; slots = slots }) rest

-- good fields and then one that is refused
pub record IsRefused (bytes : List ℕ) (f : LoadFault) : Type 0 where
  pub front : Front
  pub rest : List ℕ
  pub good : AreGoodFields front
  pub bytes_are : bytes ≡ front_bytes front ++ rest
  pub refused : IsRefusedField front rest f

-- from a refused shape
from_shape : (v : Version) (h : Hook) (n : ℕ) (rest : List ℕ) (f : LoadFault)
    → n ≤ 8 → HasRefusedShape n rest f → IsRefused (image_opening v h n ++ rest) f
from_shape v h n rest f few r = record {
  front = Mapped v h n r.shapes;
  rest = r.rest;
  good = (few, omega (arith, r.few));
  bytes_are = ap (λ (x : List ℕ). image_opening v h n ++ x) r.bytes_are ∙ sym (append_assoc (image_opening v h n) (shapes_bytes r.shapes) r.rest);
  refused = refuse r.refused;
}
  where
    refuse : IsRefusedShape r.rest f → IsRefusedField (Mapped v h n r.shapes) r.rest f
    refuse x = elim x [
      | inl p ↦ inl p
      | inr p ↦ inr (p.0, p.1, p.2, p.3, subst (λ (d : LoadFault). IsBadNext (Mapped v h n r.shapes) p.0 d) (sym p.4) (r.few, p.5))
    ]

-- ---- what is read after each field

-- behind the shapes: the number of slots, and the header is whole
abbrev pub after_shapes : Version → Hook → ℕ → List ℕ → List ℕ → Result (Spelled × List ℕ) LoadFault
after_shapes v h n maps after =
    read_number 4 after >>= λ slots. Ok (record { version = v; hook = h; shapes = take (4 * n) maps; slots = slots.0 }, slots.1)

-- behind the number of maps: as many shapes, and what follows them
abbrev pub after_count : Version → Hook → (ℕ × List ℕ) → Result (Spelled × List ℕ) LoadFault
after_count v h count = shapes_at count.0 count.1 >>= λ after. after_shapes v h count.0 count.1 after

-- behind the hook: the number of maps, and what follows it
abbrev pub after_hook : Version → (Hook × List ℕ) → Result (Spelled × List ℕ) LoadFault
after_hook v hook = count_at hook.1 >>= λ count. after_count v hook.0 count

-- behind the version: the hook, and what follows it
abbrev pub after_version : (Version × List ℕ) → Result (Spelled × List ℕ) LoadFault
after_version version = hook_at version.1 >>= λ hook. after_hook version.0 hook

-- behind the letters: the version, and what follows it
abbrev pub after_magic : List ℕ → Result (Spelled × List ℕ) LoadFault
after_magic rest = version_at rest >>= λ version. after_version version

-- ---- a header that is refused

-- what fails after the number of maps, the hook, the version or the letters is a field that is cut or bad:
refused_maps : (v : Version) (h : Hook) (n : ℕ) (maps : List ℕ) (f : LoadFault)
    → AreBytes maps → n ≤ 8 → after_count v h (n, maps) ≡ Err f → IsRefused (image_opening v h n ++ maps) f
refused_maps v h n maps f fits few e =
    elim (bind_err (shapes_at n maps) (after_shapes v h n maps) f e) [
      | inl p ↦ from_shape v h n maps f few (shapes_err n maps f fits p)
      | inr p ↦
          let s = shapes_ok n maps p.0 fits p.1 in
          elim (bind_err (read_number 4 p.0)
          (λ slots. Ok (record { version = v; hook = h; shapes = take (4 * n) maps; slots = slots.0 }, slots.1)) f p.2) [
            | inl q ↦
                record {
                  front = Mapped v h n s.0;
                  rest = p.0;
                  good = (few, omega (arith, s.1));
                  bytes_are = ap (λ (x : List ℕ). image_opening v h n ++ x) s.2 ∙ sym (append_assoc (image_opening v h n) (shapes_bytes s.0) p.0);
                  refused = inl (number_err 4 p.0 f q);
                }
            | inr q ↦ absurd (let r = q.2 in cc)
          ]
    ]

refused_count : (v : Version) (h : Hook) (rest : List ℕ) (f : LoadFault)
    → AreBytes rest → after_hook v (h, rest) ≡ Err f
    → IsRefused (magic ++ (version_number v ∷ hook_byte h ∷ rest)) f
refused_count v h rest f fits e =
    elim (bind_err (count_at rest) (after_count v h) f e) [
      | inl p ↦ record { front = Hooked v h; rest = rest; good = tt; bytes_are = refl; refused = count_err v h rest f fits p }
      | inr p ↦
          let c = count_ok rest p.0.0 p.0.1 fits p.1 in
          let after : AreBytes p.0.1 = AreBytes-after (to_le_bytes w16 p.0.0) p.0.1 (subst AreBytes c.0 fits) in
          subst (λ (x : List ℕ). IsRefused (magic ++ (version_number v ∷ hook_byte h ∷ x)) f) (sym c.0)
          (refused_maps v h p.0.0 p.0.1 f after c.1 p.2)
    ]

refused_hook : (v : Version) (rest : List ℕ) (f : LoadFault) → AreBytes rest → after_version (v, rest) ≡ Err f
    → IsRefused (magic ++ (version_number v ∷ rest)) f
refused_hook v rest f fits e =
    elim (bind_err (hook_at rest) (after_hook v) f e) [
      | inl p ↦ record { front = Versioned v; rest = rest; good = tt; bytes_are = refl; refused = hook_err v rest f p }
      | inr p ↦
          let is = hook_ok rest p.0.0 p.0.1 p.1 in
          let after : AreBytes p.0.1 = AreBytes-after (hook_byte p.0.0 ∷ []) p.0.1 (subst AreBytes is fits) in
          subst (λ (x : List ℕ). IsRefused (magic ++ (version_number v ∷ x)) f) (sym is) (refused_count v p.0.0 p.0.1 f after p.2)
    ]

refused_version : (rest : List ℕ) (f : LoadFault) → AreBytes rest → after_magic rest ≡ Err f → IsRefused (magic ++ rest) f
refused_version rest f fits e =
    elim (bind_err (version_at rest) after_version f e) [
      | inl p ↦ record { front = Marked; rest = rest; good = tt; bytes_are = refl; refused = version_err rest f p }
      | inr p ↦
          let is = version_ok rest p.0.0 p.0.1 p.1 in
          let after : AreBytes p.0.1 = AreBytes-after (version_number p.0.0 ∷ []) p.0.1 (subst AreBytes is fits) in
          subst (λ (x : List ℕ). IsRefused (magic ++ x) f) (sym is) (refused_hook p.0.0 p.0.1 f after p.2)
    ]

-- if reading a header fails, the bytes begin with good fields, and the next one is cut or bad
pub header_err : (bytes : List ℕ) (f : LoadFault) → AreBytes bytes → header_at bytes ≡ Err f → IsRefused bytes f
unfolding header_at
header_err bytes f fits e =
    elim (bind_err (magic_at bytes) after_magic f e) [
      | inl p ↦ record { front = Nothing; rest = bytes; good = tt; bytes_are = refl; refused = magic_err bytes f p }
      | inr p ↦
          let is = magic_ok bytes p.0 p.1 in
          let after : AreBytes p.0 = AreBytes-after magic p.0 (subst AreBytes is fits) in
          subst (λ (x : List ℕ). IsRefused x f) (sym is) (refused_version p.0 f after p.2)
    ]

-- ---- a header that is read

-- what is read after the number of maps, the hook, the version or the letters is the rest of a header:
read_maps : (v : Version) (h : Hook) (n : ℕ) (maps : List ℕ) (x : Spelled × List ℕ)
    → AreBytes maps → n ≤ 8 → after_count v h (n, maps) ≡ Ok x → HasHeader (image_opening v h n ++ maps) x.0 x.1
read_maps v h n maps x fits few e =
    let g = bind_ok (shapes_at n maps) (after_shapes v h n maps) x e in
    let s = shapes_ok n maps g.0 fits g.1 in
    let after : AreBytes g.0 = AreBytes-after (shapes_bytes s.0) g.0 (subst AreBytes s.2 fits) in
    let k =
    bind_ok (read_number 4 g.0)
    (λ slots. Ok (record { version = v; hook = h; shapes = take (4 * n) maps; slots = slots.0 }, slots.1)) x g.2 in
    let w = word_ok g.0 k.0.0 k.0.1 after (number_ok 4 g.0 k.0.0 k.0.1 k.1) in
    let made : Spelled = record { version = v; hook = h; shapes = take (4 * n) maps; slots = k.0.0 } in
    let long : length (shapes_bytes s.0) ≡ 4 * n = omega (arith, length-shapes_bytes s.0, s.1) in
    subst (λ (y : Spelled × List ℕ). HasHeader (image_opening v h n ++ maps) y.0 y.1) (ok_is (made, k.0.1) x k.2)
    (record {
      shapes = s.0;
      shapes_are = ap (take (4 * n)) s.2 ∙ take_at (shapes_bytes s.0) g.0 (4 * n) long;
      good = record { few = omega (arith, s.1, few); slots = w.1 };
      bytes_are = spelled_maps v h n maps s.0 k.0.0 g.0 k.0.1 s.1 s.2 w.0;
    })

read_count : (v : Version) (h : Hook) (rest : List ℕ) (x : Spelled × List ℕ)
    → AreBytes rest → after_hook v (h, rest) ≡ Ok x
    → HasHeader (magic ++ (version_number v ∷ hook_byte h ∷ rest)) x.0 x.1
read_count v h rest x fits e =
    let p = bind_ok (count_at rest) (after_count v h) x e in
    let c = count_ok rest p.0.0 p.0.1 fits p.1 in
    let after : AreBytes p.0.1 = AreBytes-after (to_le_bytes w16 p.0.0) p.0.1 (subst AreBytes c.0 fits) in
    subst (λ (y : List ℕ). HasHeader (magic ++ (version_number v ∷ hook_byte h ∷ y)) x.0 x.1) (sym c.0)
    (read_maps v h p.0.0 p.0.1 x after c.1 p.2)

read_hook : (v : Version) (rest : List ℕ) (x : Spelled × List ℕ)
    → AreBytes rest → after_version (v, rest) ≡ Ok x → HasHeader (magic ++ (version_number v ∷ rest)) x.0 x.1
read_hook v rest x fits e =
    let p = bind_ok (hook_at rest) (after_hook v) x e in
    let is = hook_ok rest p.0.0 p.0.1 p.1 in
    let after : AreBytes p.0.1 = AreBytes-after (hook_byte p.0.0 ∷ []) p.0.1 (subst AreBytes is fits) in
    subst (λ (y : List ℕ). HasHeader (magic ++ (version_number v ∷ y)) x.0 x.1) (sym is) (read_count v p.0.0 p.0.1 x after p.2)

read_version : (rest : List ℕ) (x : Spelled × List ℕ) → AreBytes rest → after_magic rest ≡ Ok x → HasHeader (magic ++ rest) x.0 x.1
read_version rest x fits e =
    let p = bind_ok (version_at rest) after_version x e in
    let is = version_ok rest p.0.0 p.0.1 p.1 in
    let after : AreBytes p.0.1 = AreBytes-after (version_number p.0.0 ∷ []) p.0.1 (subst AreBytes is fits) in
    subst (λ (y : List ℕ). HasHeader (magic ++ y) x.0 x.1) (sym is) (read_hook p.0.0 p.0.1 x after p.2)

-- if reading a header succeeds, the bytes are the header followed by the rest
pub header_ok : (bytes : List ℕ) (x : Spelled × List ℕ) → AreBytes bytes → header_at bytes ≡ Ok x → HasHeader bytes x.0 x.1
unfolding header_at
header_ok bytes x fits e =
    let p = bind_ok (magic_at bytes) after_magic x e in
    let is = magic_ok bytes p.0 p.1 in
    let after : AreBytes p.0 = AreBytes-after magic p.0 (subst AreBytes is fits) in
    subst (λ (y : List ℕ). HasHeader y x.0 x.1) (sym is) (read_version p.0 x after p.2)

-- ---- which fault that is

-- no bad field is named as cut
pub no_cut : (front : Front) (field : List ℕ) → IsBadNext front field fault.Cut → ⊥
no_cut Nothing field h = h
no_cut Marked field h = h
no_cut (Versioned v) field h = h
no_cut (Hooked v k) field h = h
no_cut (Mapped v k n s) field h = h
no_cut (Headed k) field h = h

-- no bad field is named as bytes after the end
pub no_rest : (front : Front) (field : List ℕ) → IsBadNext front field fault.Rest → ⊥
no_rest Nothing field h = h
no_rest Marked field h = h
no_rest (Versioned v) field h = h
no_rest (Hooked v k) field h = h
no_rest (Mapped v k n s) field h = h
no_rest (Headed k) field h = h

-- no bad field is named as a fault of the program
pub no_decode : (slot : ℕ) (cause : DecodeCause) (front : Front) (field : List ℕ) → IsBadNext front field (fault.Decode slot cause) → ⊥
no_decode slot cause Nothing field h = h
no_decode slot cause Marked field h = h
no_decode slot cause (Versioned v) field h = h
no_decode slot cause (Hooked v k) field h = h
no_decode slot cause (Mapped v k n s) field h = h
no_decode slot cause (Headed k) field h = h

-- a bad field is a fault of the bytes
pub bad_field : (bytes : List ℕ) (f : LoadFault) → HasBadField bytes f → IsLoadFault bytes f
bad_field bytes fault.Magic b = b
bad_field bytes fault.Version b = b
bad_field bytes fault.Hook b = b
bad_field bytes fault.Shape b = b
bad_field bytes fault.Cut b = absurd (no_cut b.front b.field b.bad)
bad_field bytes fault.Rest b = absurd (no_rest b.front b.field b.bad)
bad_field bytes (fault.Decode slot cause) b = absurd (no_decode slot cause b.front b.field b.bad)
bad_field bytes (fault.Refused slot cause) b = b
bad_field bytes fault.OutOfMemory b = b

-- if a field behind good ones is cut or bad, that is a fault of the bytes
pub refused_is : (bytes : List ℕ) (f : LoadFault) → IsRefused bytes f → IsLoadFault bytes f
refused_is bytes f r =
    elim r.refused [
      | inl p ↦
          subst (IsLoadFault bytes) (sym p.0)
          (record { front = r.front; part = r.rest; good = r.good; bytes_are = r.bytes_are; short = p.1 })
      | inr p ↦
          bad_field bytes f (record {
            front = r.front;
            field = p.0;
            rest = p.1;
            good = r.good;
            bytes_are = r.bytes_are ∙ ap (λ (x : List ℕ). front_bytes r.front ++ x) p.2;
            whole = p.3;
            bad = p.4;
          })
    ]
