use Rattle.std.proofs.Common.{◌≡◌, ◌≤◌, ◌++◌, length}
use Rattle.std.specs.Prelude.{option_map}
use Rattle.std.specs.List.{slice_split}
use Rattle.bq_words.specs.ProcessorSets.{is_comma}
use Rattle.bq_timeline.specs.Settings.{tasks_in_parts, tasks_in_list}
use Rattle.bq_timeline.proofs.task_list.tasks.Given as goal

-- the tasks so far, and behind them those that the rest names, are those of the word
abbrev pub invariant-loop-part : goal.invariant-loop-part
invariant-loop-part l = record {
  so_far : option_map (λ more. l.tasks.items ++ more) (tasks_in_parts (slice_split is_comma l.rest)) ≡ tasks_in_list l.fn.word;
  within : length l.rest ≤ length l.fn.word;
}

abbrev pub decreases-loop-part : goal.decreases-loop-part
decreases-loop-part l = length l.rest
