-- The loads and the tasks that stand one behind another in a context, each as long as the next.
use Rattle.std.proofs.Common.{◌≡◌, ℕ, zero, suc, ◌+◌, ◌-◌, ◌*◌, ◌<◌, List, ◌++◌, length, take, drop, Option, Some, None, refl, ap, sym, ◌∙◌, arith}
use Rattle.std.specs.Prelude.{slice_get, slice_index, slice_range}
use Rattle.std.specs.List.{flat_map, range_with_len}
use Rattle.std.specs.Option.{option_map_or}
use Rattle.std.proofs.Math.Seq.{drop-append-add, drop-drop}
use Rattle.bq_disc.specs.Tasks.{Task}
use Rattle.bq_hooks.specs.Contexts.{PlaceFacts, PullFacts, place_header, place_bytes_below, pull_header, pull_bytes, task_bytes, u32_bytes, u64_bytes}
use Rattle.bq_hooks.proofs.LengthLemmas.{length-task_bytes}
use Rattle.bq_policy_run.specs.declared.fields.FieldWidth.TheVariants.{Four, Eight}
use Rattle.bq_policy_run.specs.FieldsLaw.{FieldHolds}

-- one of the pieces, and what comes after it
piece_at : (g : ℕ → List ℕ) (size a n k : ℕ) → ((i : ℕ) → length (g i) ≡ size) → k < n
    → (rest : List ℕ) × (drop (size * k) (flat_map g (range_with_len a n)) ≡ g (a + k) ++ rest)
piece_at g size a zero k h l = absurd (omega arith)
piece_at g size a (suc n) zero h l =
    let none : size * 0 ≡ 0 = omega arith in (
      flat_map g (range_with_len (a + 1) n),
      ap (λ m. drop m (g a ++ flat_map g (range_with_len (a + 1) n))) none
          ∙ ap (λ i. g i ++ flat_map g (range_with_len (a + 1) n)) (let e : a ≡ a + 0 = omega arith in e),
    )
piece_at g size a (suc n) (suc k) h l =
    let later = piece_at g size (a + 1) n k h (omega arith) in
    let further : size * suc k ≡ length (g a) + size * k = grind (arith, h a) in
    let there : a + 1 + k ≡ a + suc k = omega arith in (
      later.0,
      ap (λ m. drop m (g a ++ flat_map g (range_with_len (a + 1) n))) further
          ∙ drop-append-add (g a) (flat_map g (range_with_len (a + 1) n)) (size * k)
          ∙ later.1 ∙ ap (λ i. g i ++ later.0) there,
    )

-- this many bytes of a piece, from one of its bytes on
inside_piece : (head : List ℕ) (g : ℕ → List ℕ) (size n k from count at : ℕ)
    → ((i : ℕ) → length (g i) ≡ size) → k < n → at ≡ length head + (size * k + from)
    → (rest : List ℕ) × (slice_range (head ++ flat_map g (range_with_len 0 n)) at (at + count) ≡ take count (drop from (g k ++ rest)))
inside_piece head g size n k from count at h l is =
    let pieces : List ℕ = flat_map g (range_with_len 0 n) in
    let there = piece_at g size 0 n k h l in
    let here : 0 + k ≡ k = omega arith in
    let many : at + count - at ≡ count = omega arith in
    let begun : drop at (head ++ pieces) ≡ drop from (g k ++ there.0) =
    ap (λ m. drop m (head ++ pieces)) is
    ∙ drop-append-add head pieces (size * k + from)
    ∙ sym (drop-drop from (size * k) pieces)
    ∙ ap (drop from) (there.1 ∙ ap (λ i. g i ++ there.0) here) in
    (there.0, λ i. take (many i) (begun i))

-- the load of a processor
pub load_holds : (limit : ℕ) (f : PlaceFacts) (k : ℕ) → k < limit
    → FieldHolds (place_bytes_below limit f) (40 + k * 4) Four (u32_bytes (slice_index f.loads k))
unfolding place_bytes_below place_header
load_holds limit f k l =
    (inside_piece (place_header limit f) (λ p. u32_bytes (slice_index f.loads p)) 4 limit k 0 4 (40 + k * 4) (λ i. refl) l (omega arith)).1

-- the parts of a task that is shown, zeros if there is no task
task_read : (o : Option Task) (rest : List ℕ) →
    (take 4 (drop 0 (task_bytes 0 o ++ rest)) ≡ u32_bytes (option_map_or (λ (t : Task). t.id) o 0))
    × (take 4 (drop 4 (task_bytes 0 o ++ rest)) ≡ u32_bytes (option_map_or (λ (t : Task). t.weight) o 0))
    × (take 8 (drop 8 (task_bytes 0 o ++ rest)) ≡ u64_bytes (option_map_or (λ (t : Task). t.v) o 0))
task_read None rest = (refl, refl, refl)
task_read (Some t) rest = (refl, refl, refl)

-- the parts of the movable task of a number
pub tasks_hold : (f : PullFacts) (k : ℕ) → k < 8 →
    FieldHolds (pull_bytes f) (32 + k * 16) Four (u32_bytes (option_map_or (λ (t : Task). t.id) (slice_get f.movable k) 0))
    × FieldHolds (pull_bytes f) (36 + k * 16) Four (u32_bytes (option_map_or (λ (t : Task). t.weight) (slice_get f.movable k) 0))
    × FieldHolds (pull_bytes f) (40 + k * 16) Eight (u64_bytes (option_map_or (λ (t : Task). t.v) (slice_get f.movable k) 0))
unfolding pull_bytes pull_header
tasks_hold f k l =
    let g : ℕ → List ℕ = λ k. task_bytes 0 (slice_get f.movable k) in
    let long : (i : ℕ) → length (g i) ≡ 16 = λ i. length-task_bytes 0 (slice_get f.movable i) in
    let id = inside_piece (pull_header f) g 16 8 k 0 4 (32 + k * 16) long l (omega arith) in
    let weight = inside_piece (pull_header f) g 16 8 k 4 4 (36 + k * 16) long l (omega arith) in
    let v = inside_piece (pull_header f) g 16 8 k 8 8 (40 + k * 16) long l (omega arith) in (
      id.1 ∙ (task_read (slice_get f.movable k) id.0).0,
      weight.1 ∙ (task_read (slice_get f.movable k) weight.0).1,
      v.1 ∙ (task_read (slice_get f.movable k) v.0).2,
    )
