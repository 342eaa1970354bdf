use Rattle.std.proofs.Common.{◌≡◌}
use Rattle.std.specs.Prelude.{string_bytes}
use Rattle.bq_explain.specs.TrailTexts.{unset_below}
use Rattle.bq_explain.proofs.trail_text.unset_lines.Given as goal

abbrev pub invariant-loop-register : goal.invariant-loop-register
invariant-loop-register l = string_bytes l.text ≡ unset_below l.register l.unset
