-- Bytes are at most one header with its program, and at most one list of shapes.
use Rattle.std.proofs.Common.{◌≡◌, ℕ, ◌*◌, ◌^◌, ◌<◌, ltb, false, List, [], ◌∷◌, ◌++◌, length, Result, Ok, refl, sym, ap, subst, ◌∙◌, arith}
use Rattle.std.specs.Int.{w16, to_le_bytes}
use Rattle.std.proofs.Props.{props}
use Rattle.std.proofs.lemmas.Bool.{le-ltb}
use Rattle.std.proofs.lemmas.List.Concat.{flat_map-cons}
use Rattle.bq_bpf.specs.declared.shape.MapShape.{MapShape}
use Rattle.bq_bpf.specs.Limits.{IsShape}
use Rattle.bq_hooks.specs.declared.hook.Hook.{Hook}
use Rattle.bq_hooks.specs.declared.hook.Version.{Version}
use Rattle.bq_load.specs.declared.fault.LoadFault.{LoadFault}
use Rattle.bq_load.specs.Layout.{shape_bytes, shapes_bytes, Header, IsFramed}
use Rattle.bq_load.specs.Reading.{◌>>=◌, Spelled, header_at, ended, frame_at}
use Rattle.bq_load.proofs.ReadingLemmas.{ok_is}
use Rattle.bq_load.proofs.FieldLemmas.{shape_of, shape_facts, one_half}
use Rattle.bq_load.proofs.HeaderLemmas.{length-shapes_bytes}
use Rattle.bq_load.proofs.SpelledHeaderLemmas.{spelled, header_again}

-- that numbers are within limits has one proof
one_proof : (size entries : ℕ) (g h : IsShape size entries) → g ≡ h
one_proof size entries = hlevel props

-- a shape is that of its two numbers
pub same_shape : (s t : MapShape) → s.value_size ≡ t.value_size → s.entries ≡ t.entries → s ≡ t
unfolding shape_of shape_facts
same_shape s t e f =
    let P : ℕ → Type 0 = λ n. (h : IsShape n s.entries) → s ≡ shape_of n s.entries h in
    let first : P s.value_size = λ h. ap (shape_of s.value_size s.entries) (one_proof s.value_size s.entries (shape_facts s) h) in
    let second : P t.value_size = subst P e first in
    let Q : ℕ → Type 0 = λ n. (h : IsShape t.value_size n) → s ≡ shape_of t.value_size n h in
    subst Q f second (shape_facts t)

-- the size of a value and the number of entries of a shape are below 2^16:
small_size : (s : MapShape) → s.value_size < 2 ^ 16
small_size s = omega (arith, s.greatest_size)

small_entries : (s : MapShape) → s.entries < 2 ^ 16
small_entries s = omega (arith, s.greatest_entries)

-- bytes are the shapes of one list
pub one_shapes : (a b : List MapShape) → shapes_bytes a ≡ shapes_bytes b → a ≡ b
one_shapes [] [] e = refl
one_shapes [] (t ∷ ts) e = absurd (let f : 0 ≡ length (shapes_bytes (t ∷ ts)) = ap length e in omega (arith, length-shapes_bytes (t ∷ ts)))
one_shapes (s ∷ ss) [] e = absurd (let f : length (shapes_bytes (s ∷ ss)) ≡ 0 = ap length e in omega (arith, length-shapes_bytes (s ∷ ss)))
one_shapes (s ∷ ss) (t ∷ ts) e =
    let f : shape_bytes s ++ shapes_bytes ss ≡ shape_bytes t ++ shapes_bytes ts =
    sym (flat_map-cons shape_bytes s ss) ∙ e ∙ flat_map-cons shape_bytes t ts in
    let sizes : to_le_bytes w16 s.value_size ≡ to_le_bytes w16 t.value_size = cc in
    let counts : to_le_bytes w16 s.entries ≡ to_le_bytes w16 t.entries = cc in
    let rest : shapes_bytes ss ≡ shapes_bytes ts = cc in
    let first : s ≡ t =
    same_shape s t (one_half s.value_size t.value_size (small_size s) (small_size t) sizes)
    (one_half s.entries t.entries (small_entries s) (small_entries t) counts) in
    ap (λ (x : MapShape). x ∷ ss) first ∙ ap (λ (x : List MapShape). t ∷ x) (one_shapes ss ts rest)

-- a header is determined by what is spelled
pub one_spelled : (h k : Header) → spelled h ≡ spelled k → h ≡ k
one_spelled h k e =
    let version : h.version ≡ k.version = ap (λ (s : Spelled). s.version) e in
    let hook : h.hook ≡ k.hook = ap (λ (s : Spelled). s.hook) e in
    let shapes : h.shapes ≡ k.shapes = one_shapes h.shapes k.shapes (ap (λ (s : Spelled). s.shapes) e) in
    let slots : h.slots ≡ k.slots = ap (λ (s : Spelled). s.slots) e in
    ap (λ (v : Version). record h { version = v }) version
    ∙ ap (λ (x : Hook). record h { version = k.version; hook = x }) hook
    ∙ ap (λ (x : List MapShape). record h { version = k.version; hook = k.hook; shapes = x }) shapes
    ∙ ap (λ (n : ℕ). record { version = k.version; hook = k.hook; shapes = k.shapes; slots = n }) slots

-- header and program are read again
pub frame_again : (bytes : List ℕ) (h : Header) (program : List ℕ) → IsFramed bytes h program → frame_at bytes ≡ Ok (spelled h, program)
unfolding frame_at
frame_again bytes h program framed =
    let low : ltb (length program) (8 * h.slots) ≡ false = le-ltb _ _ (omega (arith, framed.whole)) in
    let high : ltb (8 * h.slots) (length program) ≡ false = le-ltb _ _ (omega (arith, framed.whole)) in
    ap (λ (x : List ℕ). header_at x >>= ended) framed.bytes_are
    ∙ ap (λ (r : Result (Spelled × List ℕ) LoadFault). r >>= ended) (header_again h program framed.header)
    ∙ rw (low, high) refl

-- bytes are at most one header with its program
pub one_frame : (bytes : List ℕ) (h k : Header) (p q : List ℕ) → IsFramed bytes h p → IsFramed bytes k q → (h ≡ k) × (p ≡ q)
one_frame bytes h k p q a b =
    let same : (spelled h, p) ≡ (spelled k, q) =
    ok_is (spelled h, p) (spelled k, q) (sym (frame_again bytes h p a) ∙ frame_again bytes k q b) in
    (one_spelled h k (ap (λ (x : Spelled × List ℕ). x.0) same), ap (λ (x : Spelled × List ℕ). x.1) same)
