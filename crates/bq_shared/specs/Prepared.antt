-- The world and the counters at the start, before they have names.
use Rattle.std.specs.Prelude.{◌≡◌, ℕ}
use Rattle.atomic_table.specs.Seated.{TableId}
use Rattle.bq_history.specs.Tables.{start_of}
use Rattle.bq_history.specs.declared.shared_state.FixedAtStart.{FixedAtStart}

-- the world and the counters, which have no names yet, are for this many processors and seats
abbrev pub ArePrepared : ℕ → ℕ → TableId × FixedAtStart ℕ → TableId × ℕ → Type 0
ArePrepared processors seats world counters =
    ((start_of world).setup ≡ processors) × ((start_of world).callers ≡ seats) × (start_of counters ≡ seats)
