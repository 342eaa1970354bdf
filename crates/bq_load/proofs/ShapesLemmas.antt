-- The bytes of shapes are read one shape after another.
use Rattle.std.proofs.Common.{◌≡◌, ℕ, ◌<◌, List, [], ◌∷◌, ◌++◌, length, Ok, Err, sym, ap, ◌∙◌, append_assoc, arith}
use Rattle.std.proofs.lemmas.Grind.{flat_map-append}
use Rattle.std.proofs.lemmas.List.{append-nil}
use Rattle.std.proofs.lemmas.List.Concat.{flat_map-cons}
use Rattle.bq_bpf.specs.declared.shape.MapShape.{MapShape}
use Rattle.bq_load.specs.declared.fault.LoadFault.{LoadFault}
use Rattle.bq_load.specs.Layout.{shape_bytes, shapes_bytes}
use Rattle.bq_load.specs.Headers.{AreShapes}
use Rattle.bq_load.specs.Reading.{shape_at}
use Rattle.bq_load.proofs.ReadingLemmas.{ok_is}
use Rattle.bq_load.proofs.SpelledHeaderLemmas.{shape_again}

-- the first of them stands there
shape_there : (shapes : List MapShape) (rest : List ℕ) → 0 < length rest → rest ≡ shapes_bytes shapes
    → (s : MapShape) × (t : List MapShape) × (rest ≡ shape_bytes s ++ shapes_bytes t)
shape_there [] rest some is = absurd (omega (arith, ap length is))
shape_there (s ∷ shapes) rest some is = (s, shapes, is ∙ flat_map-cons shape_bytes s shapes)

-- where a shape was read of the bytes of shapes, those of shapes are left
pub shape_read : (rest after : List ℕ) → 0 < length rest → AreShapes rest → shape_at rest ≡ Ok after → AreShapes after
shape_read rest after some are e =
    let there = shape_there are.0 rest some are.1 in
    let same : shapes_bytes there.1 ≡ after =
    ok_is (shapes_bytes there.1) after (sym (ap shape_at there.2 ∙ shape_again there.0 (shapes_bytes there.1)) ∙ e) in
    (there.1, sym same)

-- of the bytes of shapes, if there are any, reading a shape does not fail
pub shape_not_refused : (rest : List ℕ) (f : LoadFault) → 0 < length rest → AreShapes rest → shape_at rest ≡ Err f → ⊥
shape_not_refused rest f some are e =
    let there = shape_there are.0 rest some are.1 in
    let ok : shape_at rest ≡ Ok (shapes_bytes there.1) = ap shape_at there.2 ∙ shape_again there.0 (shapes_bytes there.1) in
    absurd cc

-- shapes that stand first, and one that stands behind them, are more shapes that stand first
pub shapes_more : (bytes rest after : List ℕ) (shapes : List MapShape) (s : MapShape)
    → bytes ≡ shapes_bytes shapes ++ rest → rest ≡ shape_bytes s ++ after
    → bytes ≡ shapes_bytes (shapes ++ s ∷ []) ++ after
shapes_more bytes rest after shapes s so_far is =
    let one : shapes_bytes (s ∷ []) ≡ shape_bytes s = flat_map-cons shape_bytes s [] ∙ append-nil (shape_bytes s) in
    so_far ∙ ap (λ (x : List ℕ). shapes_bytes shapes ++ x) is ∙ sym (append_assoc (shapes_bytes shapes) (shape_bytes s) after)
    ∙ ap (λ (x : List ℕ). (shapes_bytes shapes ++ x) ++ after) (sym one)
    ∙ ap (λ (x : List ℕ). x ++ after) (sym (flat_map-append shape_bytes shapes (s ∷ [])))
