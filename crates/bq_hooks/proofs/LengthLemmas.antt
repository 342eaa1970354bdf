-- How long contexts are, whatever they show.
use Rattle.std.proofs.Common.{◌≡◌, ℕ, zero, suc, ◌+◌, ◌*◌, List, ◌++◌, length, Option, Some, None, length-append, refl, arith}
use Rattle.std.specs.Prelude.{slice_get, slice_index}
use Rattle.std.specs.List.{flat_map, range_with_len}
use Rattle.bq_disc.specs.Tasks.{Task}
use Rattle.bq_hooks.specs.Contexts.{pull_header, PlaceFacts, PreemptFacts, PullFacts, place_header, place_bytes_below, place_bytes_first, place_bytes_second, preempt_bytes, pull_bytes, task_bytes, u32_bytes, nobody, as_number}

-- a task that is shown, or the lack of one, takes 16 bytes
pub length-task_bytes : (absent : ℕ) (o : Option Task) → length (task_bytes absent o) ≡ 16
length-task_bytes absent None = refl
length-task_bytes absent (Some t) = refl

-- equally long pieces
length-pieces : (n a k : ℕ) (f : ℕ → List ℕ) → ((i : ℕ) → length (f i) ≡ n) → length (flat_map f (range_with_len a k)) ≡ n * k
length-pieces n a zero f h = omega arith
length-pieces n a (suc k) f h =
    omega (arith, length-append (f a) (flat_map f (range_with_len (a + 1) k)), h a, length-pieces n (a + 1) k f h)

-- a place context takes 40 bytes, and 4 more for each processor below its limit
pub length-place_bytes_below : (limit : ℕ) (f : PlaceFacts) → length (place_bytes_below limit f) ≡ 40 + 4 * limit
unfolding place_bytes_below place_header
length-place_bytes_below limit f = omega (arith, length-pieces 4 0 limit (λ p. u32_bytes (slice_index f.loads p)) (λ i. refl))

-- a place context of version 1 takes 104 bytes
pub length-place_bytes_first : (f : PlaceFacts) → length (place_bytes_first f) ≡ 104
length-place_bytes_first f = length-place_bytes_below 16 f

-- a place context of version 2 takes 296 bytes
pub length-place_bytes_second : (f : PlaceFacts) → length (place_bytes_second f) ≡ 296
length-place_bytes_second f = length-place_bytes_below 64 f

-- a preempt context takes 56 bytes
pub length-preempt_bytes : (f : PreemptFacts) → length (preempt_bytes f) ≡ 56
unfolding preempt_bytes
length-preempt_bytes f =
    let task = task_bytes nobody f.choice in
    let own = u32_bytes (as_number f.own) in
    omega (arith, length-append (task ++ own) (u32_bytes 0), length-append task own, length-task_bytes nobody f.choice)

-- a pull context takes 160 bytes
pub length-pull_bytes : (f : PullFacts) → length (pull_bytes f) ≡ 160
unfolding pull_bytes pull_header
length-pull_bytes f =
    omega (arith, length-pieces 16 0 8 (λ k. task_bytes 0 (slice_get f.movable k)) (λ k. length-task_bytes 0 (slice_get f.movable k)))
