-- The form begins once the comments at the top of the trace have named the tasks.
use Rattle.std.specs.Prelude.{◌≡◌, ◌++◌, Option, Some, None, string_bytes}
use Rattle.bq_schedule.specs.Figures.{Figures}
use Rattle.bq_words.specs.declared.discipline_name.DisciplineName.{DisciplineName}
use Rattle.bq_timeline.specs.TasksByName.{tasks_for_names, unknown_name_notes}
use Rattle.bq_timeline.specs.Notes.{absent_notes, last_notes}
use Rattle.bq_timeline.specs.AnyForms.{ShowsAsked}
use Rattle.bq_timeline.specs.declared.screen.Screen.{Screen}
use Rattle.bq_timeline.specs.declared.settings.Settings.{Settings}
use Rattle.bq_timeline.specs.declared.viewer.Viewer.{Viewer}

-- The form that the settings ask for is shown, with the tasks that have the asked names so far. The names that no task has are noted.
pub record BeginsForm (s : Settings) (old new : Screen) : Type 0 where
  pub shown : ShowsAsked s old.names new.shown
  pub tasks : new.tasks.items ≡ s.window.tasks.items ++ tasks_for_names old.names s.names.items
  pub part : new.part ≡ old.part
  pub notes : string_bytes new.notes ≡ string_bytes old.notes ++ unknown_name_notes old.names s.names.items

-- The form does not begin, and nothing changes.
pub record FormStays (old new : Screen) : Type 0 where
  pub shown : new.shown ≡ old.shown
  pub tasks : new.tasks ≡ old.tasks
  pub part : new.part ≡ old.part
  pub notes : new.notes ≡ old.notes

-- The form begins if there is a machine and the form has not begun: then its settings are still there.
abbrev pub BeginsBy : Option DisciplineName → Option Settings → Screen → Screen → Type 0
BeginsBy (Some discipline) (Some s) old new = BeginsForm s old new
BeginsBy discipline asked old new = FormStays old new

-- The form begins if it can, and otherwise nothing changes.
abbrev pub FormBegins : Screen → Screen → Type 0
FormBegins old new = BeginsBy old.discipline old.asked old new

-- The form begins as `FormBegins` says if there is a schedule, which comes with the machine. Otherwise nothing changes.
abbrev pub FormBeginsWith : Option Figures → Screen → Screen → Type 0
FormBeginsWith None old new = FormStays old new
FormBeginsWith (Some s) old new = FormBegins old new

-- The trace is over. The form begins, if it has not. Then come the notes on what is named but does not exist, and the last notes.
pub record TraceEnds (old new : Viewer) : Type 0 where
  pub begun : Screen
  pub begins : FormBeginsWith old.schedule old.screen begun
  pub notes : string_bytes new.screen.notes
      ≡ (string_bytes begun.notes ++ absent_notes old.schedule begun.tasks.items begun.part) ++ last_notes old.schedule old.bad_or_refused
