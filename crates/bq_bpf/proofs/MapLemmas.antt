-- Maps that have their shapes keep them over a write of bytes.
use Rattle.std.proofs.Common.{◌≡◌, ◌≢◌, ℕ, ◌+◌, ◌-◌, ◌*◌, ◌<◌, ◌≤◌, List, [], ◌++◌, Some, length, get_or, set, take, drop, refl, ◌∙◌, arith, ◌⊎◌, inl, inr}
use Rattle.std.specs.Prelude.{slice_get}
use Rattle.std.proofs.lemmas.Bool.{cases_lt, cases_eq}
use Rattle.std.proofs.lemmas.List.{get_or_append_left, get_or_past, get_or-set_same, get_or-set_other, length-set, length-append, length-take, length-drop, get_or-append_right, get_or-take, get_or-drop}
use Rattle.std.proofs.lemmas.Option.{slice_get-get_or, get_or_from_slice_get}
use Rattle.bq_bpf.specs.declared.shape.MapShape.{MapShape}
use Rattle.bq_bpf.specs.Memory.{HaveShapes, overwrite}

-- bytes are below 256
abbrev pub AreBytes : List ℕ → Type 0
AreBytes bytes = (i b : ℕ) → slice_get bytes i ≡ Some b → b < 256

-- a map that keeps its length and has bytes keeps its shape
pub have_written : (shapes : List MapShape) (maps : List (List ℕ)) (m : ℕ) (new : List ℕ)
    → HaveShapes shapes maps → m < length maps → length new ≡ length (get_or maps m []) → AreBytes new
    → HaveShapes shapes (set maps m new)
have_written shapes maps m new have inside same small = record {
  as_many = length-set maps m new ∙ have.as_many;
  sizes = λ n s found. at_size n s found (cases_eq n m);
  bytes = λ n i b found. at_byte n i b found (cases_eq n m);
}
  where
    at_size : (n : ℕ) (s : MapShape) → slice_get shapes n ≡ Some s → (n ≡ m) ⊎ (n ≢ m)
        → length (get_or (set maps m new) n []) ≡ s.value_size * s.entries
    at_size n s found (inl e) = rw (e, get_or-set_same maps m new [] inside) (same ∙ have.sizes m s (rw e at found))
    at_size n s found (inr ne) = rw (get_or-set_other maps m n new [] ne) (have.sizes n s found)

    at_byte : (n i b : ℕ) → slice_get (get_or (set maps m new) n []) i ≡ Some b → (n ≡ m) ⊎ (n ≢ m) → b < 256
    at_byte n i b found (inl e) = small i b (rw (e, get_or-set_same maps m new [] inside) at found)
    at_byte n i b found (inr ne) = have.bytes n i b (rw (get_or-set_other maps m n new [] ne) at found)

-- a write inside keeps the length
pub length-overwrite : (old : List ℕ) (at : ℕ) (bytes : List ℕ)
    → at + length bytes ≤ length old → length (overwrite old at bytes) ≡ length old
length-overwrite old at bytes inside =
    omega (
      arith,
      length-append (take at old ++ bytes) (drop (at + length bytes) old),
      length-append (take at old) bytes,
      length-take at old,
      length-drop (at + length bytes) old,
    )

-- all of a list are bytes, by reads that give 0 past the end
abbrev pub ReadBytes : List ℕ → Type 0
ReadBytes bytes = (i : ℕ) → get_or bytes i 0 < 256

-- bytes that stand in the list are bytes as read
pub read_bytes : (xs : List ℕ) → AreBytes xs → ReadBytes xs
read_bytes xs bytes i = at i (cases_lt i (length xs))
  where
    at : (i : ℕ) → (i < length xs) ⊎ (length xs ≤ i) → get_or xs i 0 < 256
    at i (inl lt) = bytes i (get_or xs i 0) (slice_get-get_or xs i 0 lt)
    at i (inr past) = rw (get_or_past xs i 0 past) (omega arith)

-- bytes as read are bytes that stand in the list
pub are_bytes : (xs : List ℕ) → ReadBytes xs → AreBytes xs
are_bytes xs bytes i b found = let small = bytes i in omega (arith, get_or_from_slice_get xs i b 0 found)

joined : (xs ys : List ℕ) → ReadBytes xs → ReadBytes ys → ReadBytes (xs ++ ys)
joined xs ys left right i = at i (cases_lt i (length xs))
  where
    at : (i : ℕ) → (i < length xs) ⊎ (length xs ≤ i) → get_or (xs ++ ys) i 0 < 256
    at i (inl lt) = rw (get_or_append_left xs ys 0 i lt) (left i)
    at i (inr past) = rw (get_or-append_right xs ys (length xs) i 0 refl past) (right (i - length xs))

front : (n : ℕ) (xs : List ℕ) → ReadBytes xs → ReadBytes (take n xs)
front n xs bytes i = at i (cases_lt i n)
  where
    at : (i : ℕ) → (i < n) ⊎ (n ≤ i) → get_or (take n xs) i 0 < 256
    at i (inl lt) = rw (get_or-take n xs i 0 lt) (bytes i)
    at i (inr past) =
        let beyond : length (take n xs) ≤ i = omega (arith, length-take n xs) in
        rw (get_or_past (take n xs) i 0 beyond) (omega arith)

-- bytes over bytes are bytes
pub overwrite_bytes : (old : List ℕ) (at : ℕ) (bytes : List ℕ) → ReadBytes old → ReadBytes bytes → ReadBytes (overwrite old at bytes)
overwrite_bytes old at bytes before new =
    joined (take at old ++ bytes) (drop (at + length bytes) old) (joined (take at old) bytes (front at old before) new)
    (λ i. rw (get_or-drop (at + length bytes) old i 0) (before (at + length bytes + i)))

-- maps after a write into one of them have their shapes
pub have_overwritten : (shapes : List MapShape) (maps : List (List ℕ)) (m at : ℕ) (bytes : List ℕ)
    → HaveShapes shapes maps → m < length shapes → at + length bytes ≤ length (get_or maps m []) → ReadBytes bytes
    → HaveShapes shapes (set maps m (overwrite (get_or maps m []) at bytes))
have_overwritten shapes maps m at bytes have there inside small =
    have_written shapes maps m (overwrite (get_or maps m []) at bytes) have (omega (arith, have.as_many))
    (length-overwrite (get_or maps m []) at bytes inside)
    (are_bytes (overwrite (get_or maps m []) at bytes)
    (overwrite_bytes (get_or maps m []) at bytes (read_bytes (get_or maps m []) (have.bytes m)) small))
