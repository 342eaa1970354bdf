-- The names are those of the workload's tasks.
use Rattle.bq_comparison.proofs.asked.Comparing.add_tasks_by_name.Goals as goal

pub returns-clause-called : goal.returns-clause-called
returns-clause-called c = record {
  named = c.in_ok-names.names;
  are = c.in_ok-names.ensures;
  tasks = c.in_ok-notes.ensures.tasks;
  noted = c.in_ok-notes.ensures.notes;
}
