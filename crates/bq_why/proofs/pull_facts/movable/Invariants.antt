use Rattle.std.proofs.Common.{◌≤◌, drop, length}
use Rattle.bq_disc.specs.Movable.{AddsMovable}
use Rattle.bq_why.proofs.pull_facts.movable.Given as goal

-- the tasks from here on were looked at
abbrev pub invariant-loop-at : goal.invariant-loop-at
invariant-loop-at l = record { inside : l.at ≤ length l.queue; adds : AddsMovable l.processor (drop l.at l.queue) l.initial.found l.found }

abbrev pub decreases-loop-at : goal.decreases-loop-at
decreases-loop-at l = l.at
