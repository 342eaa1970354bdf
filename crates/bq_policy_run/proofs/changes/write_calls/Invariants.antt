use Rattle.std.proofs.Common.{◌≡◌, ◌++◌, take}
use Rattle.std.specs.String.{string_bytes}
use Rattle.bq_policy_run.specs.Changes.{calls_text}
use Rattle.bq_policy_run.proofs.changes.write_calls.Given as goal

-- the lines of the calls so far
abbrev pub invariant-loop-call : goal.invariant-loop-call
invariant-loop-call l = string_bytes l.text ≡ string_bytes l.fn.text ++ calls_text (take l.call-index l.calls)
