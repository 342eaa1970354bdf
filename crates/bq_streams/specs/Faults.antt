-- When each fault may be answered.
use Rattle.std.specs.Prelude.{◌≡◌, ◌^◌, ℕ}
use Rattle.bq_streams.specs.Counts.{HasRisen, HasCounted}
use Rattle.bq_streams.specs.declared.fault.StreamFault.{StreamFault}
use Rattle.bq_streams.specs.declared.fault.StreamFault.TheVariants.{Read, Write, TooLong, OutOfMemory}

-- A writer's faults: `Write` comes only if its failures have risen from old to new, `OutOfMemory` only if they have not.
abbrev pub IsWriteFault : StreamFault → ℕ → ℕ → Type 0
IsWriteFault Write old new = HasRisen old new
IsWriteFault OutOfMemory old new = new ≡ old
IsWriteFault Read old new = ⊥
IsWriteFault TooLong old new = ⊥

-- A reader's faults, by its failures and its calls: `TooLong` comes only after 2^32 reads, if none of them failed.
abbrev pub IsReadFault : StreamFault → ℕ → ℕ → ℕ → ℕ → Type 0
IsReadFault Read old new calls after = HasRisen old new
IsReadFault TooLong old new calls after = HasCounted (2 ^ 32) calls after × (new ≡ old)
IsReadFault OutOfMemory old new calls after = new ≡ old
IsReadFault Write old new calls after = ⊥

-- The faults of a reader and a writer: each fault comes only for its cause, and only if no other failure came.
abbrev pub IsStreamFault : StreamFault → ℕ → ℕ → ℕ → ℕ → ℕ → ℕ → Type 0
IsStreamFault Read old_reads new_reads old_writes new_writes calls after = HasRisen old_reads new_reads × (new_writes ≡ old_writes)
IsStreamFault Write old_reads new_reads old_writes new_writes calls after = HasRisen old_writes new_writes × (new_reads ≡ old_reads)
IsStreamFault TooLong old_reads new_reads old_writes new_writes calls after = HasCounted (2 ^ 32) calls after × (new_reads ≡ old_reads) × (new_writes ≡ old_writes)
IsStreamFault OutOfMemory old_reads new_reads old_writes new_writes calls after = (new_reads ≡ old_reads) × (new_writes ≡ old_writes)
