-- Maps of which each byte is 0 are maps of zeros.
use Rattle.std.proofs.Common.{◌≡◌, ℕ, suc, zero, ◌*◌, List, [], ◌∷◌, length, map, replicate, get_or, refl, arith, Some}
use Rattle.std.specs.Prelude.{slice_get}
use Rattle.bq_bpf.specs.declared.shape.MapShape.{MapShape}
use Rattle.bq_installed.specs.Answers.{zeros_of}

-- a list of which each member is 0 is a list of zeros
all_zero : (xs : List ℕ) (n : ℕ) → length xs ≡ n → ((i : ℕ) → get_or xs i 0 ≡ 0) → xs ≡ replicate n 0
all_zero [] zero e h = refl
all_zero [] (suc n) e h = cc
all_zero (x ∷ xs) zero e h = cc
all_zero (x ∷ xs) (suc n) e h =
    let rest = all_zero xs n (omega arith) (λ i. h (suc i)) in
    let first : x ≡ 0 = h 0 in
    cc

-- maps of these shapes of which each byte is 0 are maps of zeros of these shapes
pub zero_bytes_are_zero_maps : (shapes : List MapShape) (maps : List (List ℕ)) → length maps ≡ length shapes →
    ((m : ℕ) (shape : MapShape) → slice_get shapes m ≡ Some shape → length (get_or maps m []) ≡ shape.value_size * shape.entries) →
    ((m i : ℕ) → get_or (get_or maps m []) i 0 ≡ 0) → maps ≡ map zeros_of shapes
zero_bytes_are_zero_maps [] [] e sizes h = refl
zero_bytes_are_zero_maps [] (m ∷ ms) e sizes h = cc
zero_bytes_are_zero_maps (s ∷ ss) [] e sizes h = cc
zero_bytes_are_zero_maps (s ∷ ss) (m ∷ ms) e sizes h =
    let first : m ≡ zeros_of s = all_zero m (s.value_size * s.entries) (sizes 0 s refl) (h 0) in
    let rest : ms ≡ map zeros_of ss =
    zero_bytes_are_zero_maps ss ms (omega arith) (λ n shape f. sizes (suc n) shape f) (λ n i. h (suc n) i) in
    cc
