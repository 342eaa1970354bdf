use Rattle.std.proofs.Common.{◌≡◌, ◌++◌, map, take}
use Rattle.std.specs.Prelude.{string_bytes}
use Rattle.bq_report.specs.Maps.{column_sign}
use Rattle.bq_report.proofs.legend.write_signs.Given as goal

-- the signs of the columns before this one
abbrev pub invariant-loop-column : goal.invariant-loop-column
invariant-loop-column l = string_bytes l.text ≡ string_bytes l.initial.text ++ map (column_sign l.admitted) (take l.column-index l.columns)
