use Rattle.std.proofs.Common.{◌≤◌, max}
use Rattle.std.specs.String.{string_bytes}
use Rattle.bq_explain.specs.Texts.{AreByteRuns}
use Rattle.bq_explain.proofs.state_text.runs_text.Given as goal

abbrev pub invariant-loop-byte : goal.invariant-loop-byte
invariant-loop-byte l = record { described : AreByteRuns l.state.set (max l.byte l.past) (string_bytes l.text); most : l.past ≤ 512 }
