-- The form is of the window with the tasks that names add.
use Rattle.std.proofs.Common.{List, String, Global, ◌++◌, ap, refl, ◌∙◌}
use Rattle.bq_timeline.specs.TasksByName.{tasks_for_names}
use Rattle.bq_timeline.proofs.screen.Screen.form_of.Goals as goal

pub returns-clause-form : goal.returns-clause-form
returns-clause-form c =
    let asked = c.args.settings.window in (
      record asked { tasks = c.add_tasks_by_name.new.tasks },
      record {
        from = refl;
        to = refl;
        processors = refl;
        tasks =
            c.in_ok-add_tasks_by_name.ensures
            ∙ ap (λ (names : List (String Global)). asked.tasks.items ++ tasks_for_names c.args.self.now.names names) c.as_slice.ensures.value;
      },
      c.of.ensures.shows,
    )
