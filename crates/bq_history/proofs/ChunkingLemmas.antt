-- Records in chunks: one is added at the end, and each is found by its place.
use Rattle.std.proofs.Common.{◌≡◌, ℕ, zero, suc, ◌+◌, ◌*◌, ◌/◌, ◌%◌, ◌<◌, ◌≤◌, List, [], ◌∷◌, ◌++◌, length, refl, sym, ap, ◌∙◌, arith, length-append, append-nil, append_assoc, Some, None}
use Rattle.std.specs.Prelude.{slice_get}
use Rattle.std.proofs.lemmas.List.Concat.{flat_map-append}
use Rattle.std.proofs.lemmas.Option.{slice_get_past}
use Rattle.bq_history.specs.Chunks.{joined, AreChunks}
use Rattle.bq_history.proofs.HalvingLemmas.{get_left, get_right}

module _ {R : Type 0} where
  -- there are no more chunks than records
  pub few_chunks : (cs : List (List R)) → AreChunks cs → length cs ≤ length (joined cs)
  few_chunks [] h = omega arith
  few_chunks (c ∷ []) h = let both = length-append c [] in let some = h.0 in omega (arith, both, some)
  few_chunks (c ∷ d ∷ cs) h =
      let both = length-append c (joined (d ∷ cs)) in
      let full = h.0 in
      let rest = few_chunks (d ∷ cs) h.1 in
      omega (arith, both, full, rest)

  -- where all chunks are full, one more is begun
  pub one_begun : (cs : List (List R)) (r : R) → AreChunks cs → length (joined cs) % 16 ≡ 0 → AreChunks (cs ++ (r ∷ []) ∷ [])
  one_begun [] r h full = (omega arith, omega arith)
  one_begun (c ∷ []) r h full =
      let both = length-append c [] in
      let some = h.0 in
      let few = h.1 in
      (omega (arith, both, some, few, full), (omega arith, omega arith))
  one_begun (c ∷ d ∷ cs) r h full =
      let both = length-append c (joined (d ∷ cs)) in
      let one = h.0 in
      (h.0, one_begun (d ∷ cs) r h.1 (omega (arith, both, one, full)))

  -- its record comes behind those of the others
  pub joined_begun : (cs : List (List R)) (r : R) → joined (cs ++ (r ∷ []) ∷ []) ≡ joined cs ++ r ∷ []
  joined_begun cs r = flat_map-append (λ c. c) cs ((r ∷ []) ∷ [])

  -- where not all are full, the last one has room
  pub last_open : (cs : List (List R)) → AreChunks cs → 0 < length (joined cs) % 16
      → (front : List (List R)) × (last : List R) × (cs ≡ front ++ last ∷ []) × (length last < 16)
  last_open [] h part = absurd (omega (arith, part))
  last_open (c ∷ []) h part =
      let both = length-append c [] in
      let few = h.1 in
      ([], c, refl, omega (arith, both, few, part))
  last_open (c ∷ d ∷ cs) h part =
      let both = length-append c (joined (d ∷ cs)) in
      let full = h.0 in
      let l = last_open (d ∷ cs) h.1 (omega (arith, both, full, part)) in
      (c ∷ l.0, l.1, ap (λ x. c ∷ x) l.2, l.3)

  -- a record more in a last chunk that has room
  pub one_more : (front : List (List R)) (last : List R) (r : R)
      → AreChunks (front ++ last ∷ []) → length last < 16 → AreChunks (front ++ (last ++ r ∷ []) ∷ [])
  one_more [] last r h open' = let both = length-append last (r ∷ []) in (omega (arith, both), omega (arith, both, open'))
  one_more (c ∷ []) last r h open' = (h.0, one_more [] last r h.1 open')
  one_more (c ∷ d ∷ cs) last r h open' = (h.0, one_more (d ∷ cs) last r h.1 open')

  -- it comes behind all others
  pub joined_more : (front : List (List R)) (last : List R) (r : R)
      → joined (front ++ (last ++ r ∷ []) ∷ []) ≡ joined (front ++ last ∷ []) ++ r ∷ []
  joined_more [] last r = append-nil (last ++ r ∷ []) ∙ ap (λ x. x ++ r ∷ []) (sym (append-nil last))
  joined_more (c ∷ cs) last r = ap (λ x. c ++ x) (joined_more cs last r) ∙ sym (append_assoc c (joined (cs ++ last ∷ [])) (r ∷ []))

  found_at : (cs : List (List R)) (q r : ℕ) (d : List R) → AreChunks cs → r < 16 → slice_get cs q ≡ Some d
      → slice_get d r ≡ slice_get (joined cs) (16 * q + r)
  found_at [] q r d h lt e = absurd (cc)
  found_at (c ∷ []) zero r d h lt e =
      let same : d ≡ c = cc in
      let there : r ≡ 16 * zero + r = omega arith in
      ap (λ x. slice_get x r) same ∙ (ap (λ k. slice_get c k) there ∙ ap (λ x. slice_get x (16 * zero + r)) (sym (append-nil c)))
  found_at (c ∷ []) (suc q) r d h lt e = absurd (cc)
  found_at (c ∷ b ∷ cs) zero r d h lt e =
      let same : d ≡ c = cc in
      let there : r ≡ 16 * zero + r = omega arith in
      let full = h.0 in
      ap (λ x. slice_get x r) same
      ∙ (sym (get_left c (joined (b ∷ cs)) r (omega (arith, full, lt))) ∙ ap (λ k. slice_get (c ++ joined (b ∷ cs)) k) there)
  found_at (c ∷ b ∷ cs) (suc q) r d h lt e =
      let full = h.0 in
      let there : length c + (16 * q + r) ≡ 16 * suc q + r = omega (arith, full) in
      found_at (b ∷ cs) q r d h.1 lt e
      ∙ (sym (get_right c (joined (b ∷ cs)) (16 * q + r)) ∙ ap (λ k. slice_get (c ++ joined (b ∷ cs)) k) there)

  -- a record is found in the chunk that has its place
  pub in_chunk : (cs : List (List R)) (p : ℕ) (d : List R) → AreChunks cs → slice_get cs (p / 16) ≡ Some d
      → slice_get d (p % 16) ≡ slice_get (joined cs) p
  in_chunk cs p d h e =
      let there : 16 * (p / 16) + p % 16 ≡ p = omega arith in
      found_at cs (p / 16) (p % 16) d h (omega arith) e ∙ ap (λ k. slice_get (joined cs) k) there

  none_at : (cs : List (List R)) (q r : ℕ) → AreChunks cs → slice_get cs q ≡ None → slice_get (joined cs) (16 * q + r) ≡ None
  none_at [] q r h e = refl
  none_at (c ∷ []) zero r h e = absurd (cc)
  none_at (c ∷ []) (suc q) r h e =
      let both = length-append c [] in let few = h.1 in slice_get_past (c ++ []) (16 * suc q + r) (omega (arith, both, few))
  none_at (c ∷ b ∷ cs) zero r h e = absurd (cc)
  none_at (c ∷ b ∷ cs) (suc q) r h e =
      let full = h.0 in
      let there : 16 * suc q + r ≡ length c + (16 * q + r) = omega (arith, full) in
      ap (λ k. slice_get (c ++ joined (b ∷ cs)) k) there ∙ (get_right c (joined (b ∷ cs)) (16 * q + r) ∙ none_at (b ∷ cs) q r h.1 e)

  -- where no chunk has a place, no record stands there
  pub no_chunk : (cs : List (List R)) (p : ℕ) → AreChunks cs → slice_get cs (p / 16) ≡ None → slice_get (joined cs) p ≡ None
  no_chunk cs p h e =
      let there : p ≡ 16 * (p / 16) + p % 16 = omega arith in
      ap (λ k. slice_get (joined cs) k) there ∙ none_at cs (p / 16) (p % 16) h e
