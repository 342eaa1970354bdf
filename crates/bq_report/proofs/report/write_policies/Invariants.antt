use Rattle.std.proofs.Common.{◌≤◌}
use Rattle.std.specs.Prelude.{string_bytes}
use Rattle.bq_report.proofs.ReportLemmas.{HooksBelow}
use Rattle.bq_report.proofs.report.write_policies.Given as goal

-- the lines of the processors before this one
abbrev pub invariant-loop-number : goal.invariant-loop-number
invariant-loop-number l = record {
  within : l.number ≤ 64;
  lines : HooksBelow l.window l.schedule l.number l.has_head (string_bytes l.initial.text) (string_bytes l.text);
}
