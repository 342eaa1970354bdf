use Rattle.std.proofs.Common.{◌≡◌, ℕ, ◌≤◌, map, length, None}
use Rattle.bq_asm.specs.Lines.{parsed_line, lines_of}
use Rattle.bq_asm.specs.Faults.{fault_at}
use Rattle.bq_asm.specs.Draft.{IsDraftOf}
use Rattle.bq_asm.proofs.assembler.assemble.Given as goal

-- the draft is that of the lines so far, none of which has a fault
abbrev pub invariant-loop-line : goal.invariant-loop-line
invariant-loop-line l = record {
  described : IsDraftOf (map (λ line. parsed_line line.now) l.yielded) l.draft;
  count : l.number ≡ length l.yielded;
  clean : (k : ℕ) → k ≤ l.number → fault_at (lines_of l.text) k ≡ None;
}
