use Rattle.std.proofs.Common.{◌≡◌, ◌++◌}
use Rattle.std.specs.Prelude.{flat_map, string_bytes}
use Rattle.bq_drawing.specs.Escapes.{xml_letter}
use Rattle.bq_drawing.proofs.escaped.write_escaped.Given as goal

-- the characters before this one are written
abbrev pub invariant-loop-letter : goal.invariant-loop-letter
invariant-loop-letter l = string_bytes l.text ≡ string_bytes l.initial.text ++ flat_map xml_letter l.yielded
