use Rattle.std.proofs.Common.{◌≡◌, ◌≤◌, ◌+◌, ◌-◌, ◌++◌}
use Rattle.std.specs.List.{range_with_len}
use Rattle.bq_timeline.proofs.task_list.push_range.Given as goal

-- the tasks so far, and behind them those that are left, are all
abbrev pub invariant-loop-next : goal.invariant-loop-next
invariant-loop-next l = record {
  so_far : l.tasks.items ++ range_with_len l.next (l.last + 1 - l.next)
      ≡ l.initial.tasks.items ++ range_with_len l.first (l.last + 1 - l.first);
  within : l.next ≤ l.last;
}

abbrev pub decreases-loop-next : goal.decreases-loop-next
decreases-loop-next l = l.last - l.next
