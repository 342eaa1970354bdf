use Rattle.std.proofs.Common.{◌≡◌, ◌++◌, drop}
use Rattle.std.specs.Prelude.{flat_map, string_bytes}
use Rattle.bq_explain.specs.TrailTexts.{made_text}
use Rattle.bq_explain.proofs.trail_text.made_lines.Given as goal

-- the lines that are left complete the text
abbrev pub invariant-loop-made : goal.invariant-loop-made
invariant-loop-made l =
    string_bytes l.text ++ flat_map (made_text l.shapes) (drop l.made-index l.makers) ≡ flat_map (made_text l.shapes) l.makers
