use Rattle.std.proofs.Common.{◌≡◌, drop}
use Rattle.std.specs.Prelude.{◌&&◌}
use Rattle.std.specs.List.{list_all}
use Rattle.bq_lines.specs.Bytes.{is_allowed}
use Rattle.bq_lines.proofs.bytes.is_allowed_line.Given as goal

-- the bytes so far and those to come are all of them
abbrev pub invariant-loop-byte : goal.invariant-loop-byte
invariant-loop-byte l = list_all is_allowed l.line ≡ (l.allowed && list_all is_allowed (drop l.byte-index l.line))
