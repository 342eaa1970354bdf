use Rattle.std.proofs.Common.{◌≡◌}
use Rattle.std.specs.String.{string_bytes}
use Rattle.bq_explain.specs.Texts.{unknown_below}
use Rattle.bq_explain.proofs.state_text.unknown_names.Given as goal

abbrev pub invariant-loop-number : goal.invariant-loop-number
invariant-loop-number l = string_bytes l.text ≡ unknown_below l.number l.state.registers
