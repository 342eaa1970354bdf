use Rattle.std.proofs.Common.{◌≡◌}
use Rattle.std.specs.String.{string_bytes}
use Rattle.bq_explain.specs.Texts.{registers_below}
use Rattle.bq_explain.proofs.state_text.registers_text.Given as goal

abbrev pub invariant-loop-number : goal.invariant-loop-number
invariant-loop-number l = string_bytes l.text ≡ registers_below l.shapes l.number l.state.registers
