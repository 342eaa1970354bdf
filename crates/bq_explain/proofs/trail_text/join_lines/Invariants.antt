use Rattle.std.proofs.Common.{◌≡◌, ◌++◌, drop}
use Rattle.std.specs.Prelude.{flat_map, string_bytes}
use Rattle.bq_explain.specs.TrailTexts.{join_text}
use Rattle.bq_explain.proofs.trail_text.join_lines.Given as goal

-- the lines that are left complete the text
abbrev pub invariant-loop-join : goal.invariant-loop-join
invariant-loop-join l =
    string_bytes l.text ++ flat_map (join_text l.shapes) (drop l.join-index l.joins)
    ≡ flat_map (join_text l.shapes) l.joins
