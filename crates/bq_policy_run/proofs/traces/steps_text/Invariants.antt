use Rattle.std.proofs.Common.{◌++◌, ℕ, List, length}
use Rattle.std.specs.String.{string_bytes}
use Rattle.bq_policy_run.specs.Tracing.{AreSteps}
use Rattle.bq_policy_run.proofs.traces.steps_text.Given as goal

-- what is shown so far, before what tells the rest, tells all
abbrev pub invariant-loop-rest : goal.invariant-loop-rest
invariant-loop-rest l = (more : List ℕ) → AreSteps l.verified l.rest more → AreSteps l.verified l.snapshots (string_bytes l.text ++ more)

abbrev pub decreases-loop-rest : goal.decreases-loop-rest
decreases-loop-rest l = length l.rest
