-- Contexts worked out on paper, which the definitions give.
use Rattle.std.proofs.Common.{◌≡◌, ℕ, [], ◌∷◌, Some, None, false, replicate, pos, refl}
use Rattle.bq_disc.specs.Tasks.{Task}
use Rattle.bq_hooks.specs.Contexts.{pull_header, place_header, place_bytes_below, place_bytes_first, preempt_bytes, pull_bytes}

-- a task of weight 1024 with a slice of 3 ms and no previous processor, of this id, mask and v
abbrev task : ℕ → ℕ → ℕ → Task
task id mask v = record { id = id; weight = 1024; mask = mask; slice = 3000000; v = v; deadline = 0; rel = pos 0; prev = None }

-- task 3 is woken at processor 0 of two; it may use only processor 1
place : place_bytes_first (record { task = task 3 2 0; waking = 0; processors = 2; own = 1; loads = 0 ∷ 0 ∷ [] }) ≡
    3 ∷ 0 ∷ 0 ∷ 0 ∷ 0 ∷ 4 ∷ 0 ∷ 0 ∷ 2 ∷ 0 ∷ 0 ∷ 0 ∷ 0 ∷ 0 ∷ 0 ∷ 0
    ∷ 192 ∷ 198 ∷ 45 ∷ 0 ∷ 0 ∷ 0 ∷ 0 ∷ 0 ∷ 0 ∷ 0 ∷ 0 ∷ 0 ∷ 255 ∷ 255 ∷ 255 ∷ 255
    ∷ 2 ∷ 0 ∷ 0 ∷ 0 ∷ 1 ∷ 0 ∷ 0 ∷ 0 ∷ replicate 64 0
unfolding place_bytes_below place_header
place = refl

-- task 1 has run for a millisecond beside task 2
preempt : preempt_bytes (record {
  processor = 0;
  queue = task 2 1 4294967296 ∷ [];
  current = task 1 1 4295967296;
  choice = Some (task 2 1 4294967296);
  own = false;
}) ≡ 0 ∷ 0 ∷ 0 ∷ 0 ∷ 1 ∷ 0 ∷ 0 ∷ 0 ∷ 1 ∷ 0 ∷ 0 ∷ 0 ∷ 0 ∷ 4 ∷ 0 ∷ 0
    ∷ 64 ∷ 66 ∷ 15 ∷ 0 ∷ 1 ∷ 0 ∷ 0 ∷ 0 ∷ 0 ∷ 0 ∷ 0 ∷ 0 ∷ 0 ∷ 0 ∷ 0 ∷ 0
    ∷ 2 ∷ 0 ∷ 0 ∷ 0 ∷ 0 ∷ 4 ∷ 0 ∷ 0 ∷ 0 ∷ 0 ∷ 0 ∷ 0 ∷ 1 ∷ 0 ∷ 0 ∷ 0
    ∷ 0 ∷ 0 ∷ 0 ∷ 0 ∷ 0 ∷ 0 ∷ 0 ∷ 0 ∷ []
unfolding preempt_bytes
preempt = refl

-- of three tasks at processor 0 two may go to processor 1, which has no task
pull : pull_bytes (record {
  puller = 1;
  source = 0;
  puller_size = 0;
  source_size = 3;
  movable = task 3 3 4294967296 ∷ task 2 3 4294967296 ∷ [];
  own = Some 3;
})
    ≡ 1 ∷ 0 ∷ 0 ∷ 0 ∷ 0 ∷ 0 ∷ 0 ∷ 0 ∷ 0 ∷ 0 ∷ 0 ∷ 0 ∷ 3 ∷ 0 ∷ 0 ∷ 0
    ∷ 2 ∷ 0 ∷ 0 ∷ 0 ∷ 2 ∷ 0 ∷ 0 ∷ 0 ∷ 3 ∷ 0 ∷ 0 ∷ 0 ∷ 0 ∷ 0 ∷ 0 ∷ 0
    ∷ 3 ∷ 0 ∷ 0 ∷ 0 ∷ 0 ∷ 4 ∷ 0 ∷ 0 ∷ 0 ∷ 0 ∷ 0 ∷ 0 ∷ 1 ∷ 0 ∷ 0 ∷ 0
    ∷ 2 ∷ 0 ∷ 0 ∷ 0 ∷ 0 ∷ 4 ∷ 0 ∷ 0 ∷ 0 ∷ 0 ∷ 0 ∷ 0 ∷ 1 ∷ 0 ∷ 0 ∷ 0 ∷ replicate 96 0
unfolding pull_bytes pull_header
pull = refl
