use Rattle.std.proofs.Common.{◌≡◌}
use Rattle.std.specs.String.{string_bytes}
use Rattle.bq_needs.specs.Words.{names_below}
use Rattle.bq_needs.proofs.words.names_text.Given as goal

abbrev pub invariant-loop-register : goal.invariant-loop-register
invariant-loop-register l = string_bytes l.text ≡ names_below l.register l.registers
