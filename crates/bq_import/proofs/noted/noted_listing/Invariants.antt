use Rattle.std.proofs.Common.{take}
use Rattle.std.specs.Prelude.{string_bytes}
use Rattle.bq_import.specs.Noted.{IsNotedListing}
use Rattle.bq_import.proofs.noted.noted_listing.Given as goal

-- the lines of the instructions so far
abbrev pub invariant-insns : goal.invariant-insns
invariant-insns l = IsNotedListing (take l.insn-index l.insns) (string_bytes l.text)
