-- Maps that have their shapes keep them, one more map and a write included.
use Rattle.std.proofs.Common.{◌≡◌, ℕ, ◌+◌, ◌-◌, ◌*◌, ◌<◌, ◌≤◌, List, [], ◌∷◌, ◌++◌, Some, length, get_or, set, refl, sym, ◌∙◌, ap, arith, ◌⊎◌, inl, inr, Vec, Global, map, replicate}
use Rattle.std.specs.Vec.{with_items}
use Rattle.std.specs.Prelude.{slice_get}
use Rattle.std.proofs.lemmas.Bool.{cases_lt}
use Rattle.std.proofs.lemmas.List.{get_or_append_left, get_or_push, get_or_past, length_push, get_or-map, get_or-replicate, length-replicate, map-set, with_items_is}
use Rattle.std.proofs.lemmas.Option.{slice_get_past, slice_get_within, slice_get-get_or, get_or_from_slice_get}
use Rattle.std.proofs.lemmas.Nat.{mul-le}
use Rattle.bq_bpf.specs.declared.shape.MapShape.{MapShape}
use Rattle.bq_maps.specs.Arrays.{Arrays, HasEntry}
use Rattle.bq_bpf.specs.Memory.{HaveShapes, overwrite}
use Rattle.bq_bpf.proofs.MapLemmas.{AreBytes}

-- nothing stands in the empty list
none_there : {X : Type 0} (m : ℕ) (x : X) → slice_get [] m ≡ Some x → ⊥
none_there m x found = let inside = slice_get_within [] m x found in omega arith

-- what stands below the length stood there before the push
before_push : {X : Type 0} (xs : List X) (y x : X) (m : ℕ) → m < length xs → slice_get (xs ++ y ∷ []) m ≡ Some x → slice_get xs m ≡ Some x
before_push xs y x m lt found =
    slice_get-get_or xs m x lt ∙ ap Some (sym (get_or_append_left xs (y ∷ []) x m lt) ∙ get_or_from_slice_get (xs ++ y ∷ []) m x x found)

-- maps of their shapes, and one more map of one more shape, are maps of all these shapes
pub have_more : (shapes : List MapShape) (maps : List (List ℕ)) (shape : MapShape) (bytes : List ℕ)
    → HaveShapes shapes maps → length bytes ≡ shape.value_size * shape.entries → AreBytes bytes
    → HaveShapes (shapes ++ shape ∷ []) (maps ++ bytes ∷ [])
have_more shapes maps shape bytes have long small = record {
  as_many = omega (arith, have.as_many, length_push shapes shape, length_push maps bytes);
  sizes = λ m s found. at_size m s found (cases_lt m (length shapes));
  bytes = λ m i b found. at_byte m i b found (cases_lt m (length maps));
}
  where
    at_size : (m : ℕ) (s : MapShape) → slice_get (shapes ++ shape ∷ []) m ≡ Some s → (m < length shapes) ⊎ (length shapes ≤ m)
        → length (get_or (maps ++ bytes ∷ []) m []) ≡ s.value_size * s.entries
    at_size m s found (inl lt) =
        let inside : m < length maps = omega (arith, have.as_many) in
        rw (get_or_append_left maps (bytes ∷ []) [] m inside) (have.sizes m s (before_push shapes shape s m lt found))
    at_size m s found (inr ge) =
        let inside = slice_get_within (shapes ++ shape ∷ []) m s found in
        let last : length shapes ≡ m = omega (arith, length_push shapes shape) in
        let is : shape ≡ s = sym (get_or_push shapes shape s m last) ∙ get_or_from_slice_get (shapes ++ shape ∷ []) m s s found in
        let as_long : length maps ≡ m = omega (arith, have.as_many) in
        rw (get_or_push maps bytes [] m as_long) (long ∙ ap (λ (x : MapShape). x.value_size * x.entries) is)

    at_last : (m i b : ℕ) → slice_get (get_or (maps ++ bytes ∷ []) m []) i ≡ Some b → length maps ≤ m
        → (length maps < m) ⊎ (m ≤ length maps)
        → b < 256
    at_last m i b found ge (inl past) =
        let beyond : length (maps ++ bytes ∷ []) ≤ m = omega (arith, length_push maps bytes) in
        absurd (none_there i b (rw (get_or_past (maps ++ bytes ∷ []) m [] beyond) at found))
    at_last m i b found ge (inr le) =
        let last : length maps ≡ m = omega arith in
        small i b (rw (get_or_push maps bytes [] m last) at found)

    at_byte : (m i b : ℕ) → slice_get (get_or (maps ++ bytes ∷ []) m []) i ≡ Some b → (m < length maps) ⊎ (length maps ≤ m) → b < 256
    at_byte m i b found (inl lt) = have.bytes m i b (rw (get_or_append_left maps (bytes ∷ []) [] m lt) at found)
    at_byte m i b found (inr ge) = at_last m i b found ge (cases_lt (length maps) m)

-- a map that is there has its number below the number of maps
pub there_inside : (a : Arrays) (m k : ℕ) → HasEntry a m k → m < length a.shapes
there_inside a m k there = at_shape (cases_lt m (length a.shapes))
  where
    at_shape : (m < length a.shapes) ⊎ (length a.shapes ≤ m) → m < length a.shapes
    at_shape (inl lt) = lt
    at_shape (inr past) =
        let none : k < 0 = rw (slice_get_past a.shapes m past) at there in absurd (omega arith)

-- an entry lies inside its map
pub entry_inside : (a : Arrays) (m k : ℕ) (shape : MapShape) → HaveShapes a.shapes a.bytes
    → slice_get a.shapes m ≡ Some shape → k < shape.entries
    → k * shape.value_size + shape.value_size ≤ length (get_or a.bytes m [])
entry_inside a m k shape have known lt =
    let long = have.sizes m shape known in
    let products : (k + 1) * shape.value_size ≤ shape.entries * shape.value_size =
    mul-le (k + 1) shape.value_size shape.entries shape.value_size (omega arith) (omega arith) in
    omega arith

-- the bytes of all maps after those of one were written
pub bytes_after : (bytes : List (Vec ℕ Global)) (m : ℕ) (v : Vec ℕ Global) (new part : List ℕ) (at : ℕ)
    → m < length bytes → v ≡ get_or bytes m v → length new ≡ v.len → new ≡ overwrite v.items at part
    → map (λ (v : Vec ℕ Global). v.items) (set bytes m (with_items v new))
    ≡ set (map (λ (v : Vec ℕ Global). v.items) bytes) m (overwrite (get_or (map (λ (v : Vec ℕ Global). v.items) bytes) m []) at part)
bytes_after bytes m v new part at lt is long after =
    let f : Vec ℕ Global → List ℕ = λ v. v.items in
    let old : v.items ≡ get_or (map f bytes) m [] = ap f is ∙ sym (get_or-map f bytes m v [] lt) in
    let items : (with_items v new).items ≡ overwrite (get_or (map f bytes) m []) at part =
    with_items_is v new long ∙ after ∙ ap (λ (o : List ℕ). overwrite o at part) old in
    map-set f bytes m (with_items v new) ∙ ap (λ (l : List ℕ). set (map f bytes) m l) items

-- each member of a list of zeros is 0, and so is what is past its end
replicate_zero : (n i : ℕ) → get_or {A = ℕ} (replicate n 0) i 0 ≡ 0
replicate_zero n i = at (cases_lt i n)
  where
    at : (i < n) ⊎ (n ≤ i) → get_or {A = ℕ} (replicate n 0) i 0 ≡ 0
    at (inl lt) = get_or-replicate n i 0 0 lt
    at (inr past) = get_or_past (replicate n 0) i 0 (omega (arith, length-replicate {A = ℕ} n 0))

-- zeros are bytes
pub zeros_are_bytes : (n : ℕ) → AreBytes (replicate n 0)
zeros_are_bytes n i b found = let none = replicate_zero n i in omega (arith, get_or_from_slice_get (replicate n 0) i b 0 found)

-- if all bytes of the maps are 0, so are all with one more map of zeros
pub zero_more : (maps : List (List ℕ)) (n : ℕ) → ((m i : ℕ) → get_or (get_or maps m []) i 0 ≡ 0)
    → (m i : ℕ) → get_or (get_or (maps ++ replicate n 0 ∷ []) m []) i 0 ≡ 0
zero_more maps n before m i = at (cases_lt m (length maps)) (cases_lt (length maps) m)
  where
    at : (m < length maps) ⊎ (length maps ≤ m) → (length maps < m) ⊎ (m ≤ length maps)
        → get_or (get_or (maps ++ replicate n 0 ∷ []) m []) i 0 ≡ 0
    at (inl lt) _ = rw (get_or_append_left maps (replicate n 0 ∷ []) [] m lt) (before m i)
    at (inr ge) (inl past) =
        let beyond : length (maps ++ replicate n 0 ∷ []) ≤ m = omega (arith, length_push maps (replicate n 0)) in
        rw (get_or_past (maps ++ replicate n 0 ∷ []) m [] beyond) refl
    at (inr ge) (inr le) =
        let last : length maps ≡ m = omega arith in
        rw (get_or_push maps (replicate n 0) [] m last) (replicate_zero n i)
