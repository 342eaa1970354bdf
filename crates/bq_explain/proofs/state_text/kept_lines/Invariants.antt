use Rattle.std.proofs.Common.{◌≡◌}
use Rattle.std.specs.String.{string_bytes}
use Rattle.bq_explain.specs.Texts.{kept_below}
use Rattle.bq_explain.proofs.state_text.kept_lines.Given as goal

abbrev pub invariant-loop-slot : goal.invariant-loop-slot
invariant-loop-slot l = string_bytes l.text ≡ kept_below l.shapes l.slot l.state.kept
