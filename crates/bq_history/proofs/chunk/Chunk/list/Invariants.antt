use Rattle.std.proofs.Common.{◌≡◌, ◌++◌, map}
use Rattle.std.specs.Prelude.{take}
use Rattle.bq_history.proofs.chunk.Chunk.list.Given as goal

abbrev pub invariant-loop-entry : goal.invariant-loop-entry
invariant-loop-entry g l = map (λ r. r.now) l.records.items ≡ map (λ r. r.now) l.initial.records.items ++ take l.entry-index l.self
