use Rattle.std.proofs.Common.{◌≡◌, ◌++◌}
use Rattle.std.specs.List.{flat_map, range_with_len}
use Rattle.bq_comparison.specs.Report.{figures_of_processor, figures_of_task}
use Rattle.bq_comparison.proofs.report_figures.all_figures.Given as goal

abbrev pub invariant-tasks : goal.invariant-tasks
invariant-tasks l = l.figures.items ≡ flat_map figures_of_task (range_with_len 0 l.task)

abbrev pub invariant-processors : goal.invariant-processors
invariant-processors l =
    l.figures.items
    ≡ flat_map figures_of_task (range_with_len 0 l.fn.size.tasks) ++ flat_map figures_of_processor (range_with_len 0 l.processor)
