use Rattle.std.proofs.Common.{◌≡◌}
use Rattle.std.specs.String.{string_bytes}
use Rattle.bq_policy_run.specs.Tracing.{changes_below}
use Rattle.bq_policy_run.proofs.traces.changes_text.Given as goal

abbrev pub invariant-loop-register : goal.invariant-loop-register
invariant-loop-register l = string_bytes l.text ≡ changes_below l.register-counter l.before.registers l.now.registers
