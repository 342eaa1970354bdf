use Rattle.std.proofs.Common.{◌≡◌, ◌++◌, ◌-◌, List, vec_len}
use Rattle.bq_shared.specs.Opened.{ItemOf, inbox_items}
use Rattle.bq_recording.proofs.locked_parts.inbox_locks.Given as goal

abbrev pub invariant-loop-number : goal.invariant-loop-number
invariant-loop-number g l =
    (vec_len l.locks ≡ l.number)
    × ((rest : List ItemOf) → l.initial.all ≡ inbox_items 0 l.count ++ rest → l.all ≡ inbox_items l.number (l.count - l.number) ++ rest)
