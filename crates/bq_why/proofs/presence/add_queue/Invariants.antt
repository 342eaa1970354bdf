use Rattle.std.proofs.Common.{◌≡◌, ◌-◌, ◌≤◌, ◌++◌, length}
use Rattle.bq_trace.proofs.QueueWalkLemmas.{rest_after}
use Rattle.bq_why.proofs.presence.add_queue.Given as goal

-- what there is and what is still to come are all of them
abbrev pub invariant-loop-last : goal.invariant-loop-last
invariant-loop-last g l = record {
  few : length l.tasks.items ≤ 1024;
  all : l.tasks.items ++ rest_after l.last l.cpu.running.queue ≡ l.initial.tasks.items ++ l.cpu.running.queue;
}

abbrev pub decreases-loop-last : goal.decreases-loop-last
decreases-loop-last g l = 1024 - length l.tasks.items
