use Rattle.std.proofs.Common.{◌≡◌, ℕ, ◌<◌}
use Rattle.bq_policy_run.specs.Permitting.{shown_id}
use Rattle.bq_policy_run.proofs.permitted.shows_task.Given as goal

-- no task before that place has the id
abbrev pub invariant-loop-place : goal.invariant-loop-place
invariant-loop-place l = (k : ℕ) → k < l.place → shown_id l.context k ≡ l.r0 → ⊥
