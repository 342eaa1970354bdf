-- The place context, filled field by field and load by load.
use Rattle.std.proofs.Common.{◌≡◌, ℕ, ◌+◌, ◌*◌, ◌^◌, List, [], ◌++◌, length, take, refl, ap, ◌∙◌}
use Rattle.std.specs.Prelude.{◌%◌, min, slice_index}
use Rattle.std.specs.List.{flat_map, range_with_len}
use Rattle.bq_hooks.specs.Contexts.{PlaceFacts, place_header, place_bytes_below, if_shown, if_any_shown, u32_bytes, u64_bytes, four_bytes}
use Rattle.bq_hooks.proofs.FillingLemmas.{more_filled, four_same, piece_filled, pieces_filled}

-- once the eight fields are written one behind another, the first 40 bytes are the header of a place context
pub place_header_filled : (limit : ℕ) (f : PlaceFacts) (c0 c1 c2 c3 c4 c5 : List ℕ) (id weight mask slice waking prev shown own : ℕ) →
    id ≡ f.task.id → take 4 c1 ≡ take 0 c0 ++ u32_bytes id →
    weight ≡ f.task.weight → take 8 c2 ≡ take 4 c1 ++ u32_bytes weight →
    mask ≡ f.task.mask % 2 ^ min f.processors limit → take 16 c3 ≡ take 8 c2 ++ u64_bytes mask →
    slice ≡ f.task.slice → take 24 c4 ≡ take 16 c3 ++ u64_bytes slice →
    waking ≡ if_shown limit f.waking → prev ≡ if_any_shown limit f.task.prev → shown ≡ min f.processors limit → own ≡ if_shown limit f.own →
    take 40 c5 ≡ take 24 c4 ++ four_bytes waking prev shown own →
    take 40 c5 ≡ place_header limit f
unfolding place_header
place_header_filled limit f c0 c1 c2 c3 c4 c5 id weight mask slice waking prev shown own e1 h1 e2 h2 e3 h3 e4 h4 e5 e6 e7 e8 h5 =
    let s1 = more_filled 0 4 c0 c1 [] _ _ h1 (ap u32_bytes e1) refl in
    let s2 = more_filled 4 8 c1 c2 _ _ _ h2 (ap u32_bytes e2) s1 in
    let s3 = more_filled 8 16 c2 c3 _ _ _ h3 (ap u64_bytes e3) s2 in
    let s4 = more_filled 16 24 c3 c4 _ _ _ h4 (ap u64_bytes e4) s3 in
    more_filled 24 40 c4 c5 _ _ _ h5 (four_same e5 e6 e7 e8) s4

-- the context of `place` is filled up to one more load
pub load_filled : (limit : ℕ) (f : PlaceFacts) (p load : ℕ) (c c' : List ℕ) →
    take (40 + 4 * p) c ≡ place_header limit f ++ flat_map (λ p. u32_bytes (slice_index f.loads p)) (range_with_len 0 p) →
    load ≡ slice_index f.loads p → take (40 + 4 * p + 4) c' ≡ take (40 + 4 * p) c ++ u32_bytes load →
    take (40 + 4 * (p + 1)) c' ≡ place_header limit f ++ flat_map (λ p. u32_bytes (slice_index f.loads p)) (range_with_len 0 (p + 1))
load_filled limit f p load c c' done e h =
    piece_filled 40 4 p (place_header limit f) (λ p. u32_bytes (slice_index f.loads p)) c c' done
    (h ∙ ap (λ n. take (40 + 4 * p) c ++ u32_bytes n) e)

-- once all loads are filled in the bytes are the context of `place`
pub place_filled : (limit p : ℕ) (f : PlaceFacts) (c : List ℕ) → p ≡ limit →
    take (40 + 4 * p) c ≡ place_header limit f ++ flat_map (λ p. u32_bytes (slice_index f.loads p)) (range_with_len 0 p) →
    length c ≡ 40 + 4 * limit → c ≡ place_bytes_below limit f
unfolding place_bytes_below
place_filled limit p f c = pieces_filled 40 4 limit p (place_header limit f) (λ p. u32_bytes (slice_index f.loads p)) c
