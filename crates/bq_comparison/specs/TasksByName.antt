-- The tasks that a comparison shows because they are asked for by name.
use Rattle.std.specs.Prelude.{◌≡◌, ◌++◌, String, string_bytes}
use Rattle.std.specs.declared.alloc.Global.{Global}
use Rattle.bq_workload.specs.declared.workload.Workload.{Workload}
use Rattle.bq_report.specs.Names.{NamedTasks}
use Rattle.bq_timeline.specs.TasksByName.{tasks_for_names, unknown_name_notes}
use Rattle.bq_experiment.specs.Names.{AreNamesOf}
use Rattle.bq_comparison.specs.declared.asked.Comparing.{Comparing}

-- by the names of the workload's tasks: the tasks that have the names that are asked for are shown behind those before, and the notes are on
-- each name that no task has
pub record AddsTasksByName (w : Workload) (old new : Comparing) (notes : String Global) : Type 0 where
  pub named : NamedTasks
  pub are : AreNamesOf w named
  pub tasks : new.window.tasks.items ≡ old.window.tasks.items ++ tasks_for_names named old.names.items
  pub noted : string_bytes notes ≡ unknown_name_notes named old.names.items
