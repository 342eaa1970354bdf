use Rattle.std.proofs.Common.{◌≡◌, ◌++◌, ◌-◌, List, length, vec_len}
use Rattle.bq_shared.specs.Opened.{ItemOf, cpu_items}
use Rattle.bq_recording.proofs.locked_parts.cpu_locks.Given as goal

abbrev pub invariant-loop-queue : goal.invariant-loop-queue
invariant-loop-queue g l =
    (l.number ≡ length l.yielded) × (vec_len l.locks ≡ l.number)
    × ((rest : List ItemOf) → l.initial.all ≡ cpu_items 0 (length l.fn.queues.items) ++ rest →
    l.all ≡ cpu_items l.number (length l.fn.queues.items - l.number) ++ rest)
