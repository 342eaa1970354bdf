use Rattle.std.proofs.Common.{◌≡◌, drop}
use Rattle.bq_asm.specs.Named.{entry_with, by_bytes}
use Rattle.bq_asm.proofs.table.look_up.Given as goal

abbrev pub invariant-loop-name : goal.invariant-loop-name
invariant-loop-name l = entry_with l.word (by_bytes l.entries) ≡ entry_with l.word (by_bytes (drop l.name-index l.entries))
