-- The form in which a schedule is shown.
use Rattle.std.specs.Prelude.{◌≡◌, ◌++◌, Option, Some, None}
use Rattle.bq_report.specs.Names.{NamedTasks}
use Rattle.bq_report.specs.declared.window.Window.{Window}
use Rattle.bq_timeline.specs.TasksByName.{tasks_for_names}
use Rattle.bq_timeline.specs.declared.form_names.FormName.{FormName}
use Rattle.bq_timeline.specs.declared.form_names.FormName.TheVariants as named
use Rattle.bq_timeline.specs.declared.settings.Settings.{Settings}
use Rattle.bq_timeline.specs.declared.any_form.AnyForm.{AnyForm}
use Rattle.bq_timeline.specs.declared.any_form.AnyForm.TheVariants as form

-- the name of a form
abbrev pub form_name_of : AnyForm → FormName
form_name_of (form.Report _) = named.Report
form_name_of (form.Map _) = named.Map
form_name_of (form.Timehist _) = named.Timehist
form_name_of (form.Csv _) = named.Csv
form_name_of (form.Json _) = named.Json
form_name_of (form.Svg _) = named.Svg
form_name_of (form.Perfetto _) = named.Perfetto
form_name_of (form.Why _) = named.Why

-- the stretch of time, processors and tasks that the form shows
abbrev pub window_of : AnyForm → Window
window_of (form.Report report) = report.window
window_of (form.Map map) = map.window
window_of (form.Timehist window) = window
window_of (form.Csv window) = window
window_of (form.Json object) = object.window
window_of (form.Svg picture) = picture.window
window_of (form.Perfetto trace) = trace.window
window_of (form.Why choices) = choices.window

-- The form has this name, and shows this window.
pub record ShowsForm (form : FormName) (window : Window) (shown : AnyForm) : Type 0 where
  pub form_is : form_name_of shown ≡ form
  pub window_is : window_of shown ≡ window

-- The window is the one that the settings ask for, with the tasks that have the names that they ask for.
pub record IsWindowOf (s : Settings) (named : NamedTasks) (window : Window) : Type 0 where
  pub from : window.from ≡ s.window.from
  pub to : window.to ≡ s.window.to
  pub processors : window.processors ≡ s.window.processors
  pub tasks : window.tasks.items ≡ s.window.tasks.items ++ tasks_for_names named s.names.items

-- The form and its window are those that the settings ask for, if tasks have these names.
abbrev pub IsAskedFor : Settings → NamedTasks → AnyForm → Type 0
IsAskedFor s named shown = (window : Window) × IsWindowOf s named window × ShowsForm s.form window shown

-- There is a form, and it is the one that the settings ask for.
abbrev pub ShowsAsked : Settings → NamedTasks → Option AnyForm → Type 0
ShowsAsked s named None = ⊥
ShowsAsked s named (Some shown) = IsAskedFor s named shown

-- The form has the same name as before, and shows the same window.
pub record StaysShown (old new : AnyForm) : Type 0 where
  pub form_is : form_name_of new ≡ form_name_of old
  pub window_is : window_of new ≡ window_of old
