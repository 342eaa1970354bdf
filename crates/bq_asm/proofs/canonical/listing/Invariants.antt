use Rattle.std.proofs.Common.{◌≡◌, take}
use Rattle.std.specs.String.{string_bytes}
use Rattle.bq_asm.specs.Text.{listing_text}
use Rattle.bq_asm.proofs.canonical.listing.Given as goal

abbrev pub invariant-loop-insn : goal.invariant-loop-insn
invariant-loop-insn l = string_bytes l.text ≡ listing_text (take l.insn-index l.insns)
