-- The pull context, filled field by field and task by task.
use Rattle.std.proofs.Common.{◌≡◌, ℕ, ◌+◌, ◌*◌, List, [], ◌++◌, length, take, min, Option, refl, ap, ◌∙◌}
use Rattle.std.specs.Prelude.{slice_get}
use Rattle.std.specs.List.{flat_map, range_with_len}
use Rattle.bq_disc.specs.Tasks.{Task}
use Rattle.bq_hooks.specs.Contexts.{PullFacts, pull_header, pull_bytes, task_bytes, four_bytes, or_nobody}
use Rattle.bq_hooks.proofs.FillingLemmas.{more_filled, four_same, piece_filled, pieces_filled}

-- once seven fields and a zero are written one behind another, the first 32 bytes are the header of a pull context
pub pull_header_filled : (f : PullFacts) (c0 c1 c2 : List ℕ) (puller source puller_size source_size count shown own : ℕ) →
    puller ≡ f.puller → source ≡ f.source → puller_size ≡ f.puller_size → source_size ≡ f.source_size →
    take 16 c1 ≡ take 0 c0 ++ four_bytes puller source puller_size source_size →
    count ≡ length f.movable → shown ≡ min (length f.movable) 8 → own ≡ or_nobody f.own →
    take 32 c2 ≡ take 16 c1 ++ four_bytes count shown own 0 → take 32 c2 ≡ pull_header f
unfolding pull_header
pull_header_filled f c0 c1 c2 puller source puller_size source_size count shown own e1 e2 e3 e4 h1 e5 e6 e7 h2 =
    more_filled 16 32 c1 c2 _ _ _ h2 (four_same {d = 0} e5 e6 e7 refl) (more_filled 0 16 c0 c1 [] _ _ h1 (four_same e1 e2 e3 e4) refl)

-- the context of `pull` is filled up to one more task
pub task_filled : (f : PullFacts) (k : ℕ) (o : Option Task) (c c' : List ℕ) →
    take (32 + 16 * k) c ≡ pull_header f ++ flat_map (λ k. task_bytes 0 (slice_get f.movable k)) (range_with_len 0 k) →
    o ≡ slice_get f.movable k → take (32 + 16 * k + 16) c' ≡ take (32 + 16 * k) c ++ task_bytes 0 o →
    take (32 + 16 * (k + 1)) c' ≡ pull_header f ++ flat_map (λ k. task_bytes 0 (slice_get f.movable k)) (range_with_len 0 (k + 1))
task_filled f k o c c' done e h =
    piece_filled 32 16 k (pull_header f) (λ k. task_bytes 0 (slice_get f.movable k)) c c' done
    (h ∙ ap (λ o. take (32 + 16 * k) c ++ task_bytes 0 o) e)

-- once eight tasks are filled in the bytes are the context of `pull`
pub pull_filled : (k : ℕ) (f : PullFacts) (c : List ℕ) → k ≡ 8 →
    take (32 + 16 * k) c ≡ pull_header f ++ flat_map (λ k. task_bytes 0 (slice_get f.movable k)) (range_with_len 0 k) →
    length c ≡ 160 → c ≡ pull_bytes f
unfolding pull_bytes
pull_filled k f c = pieces_filled 32 16 8 k (pull_header f) (λ k. task_bytes 0 (slice_get f.movable k)) c
