-- What each form adds to its text when it begins, at each change, and when it ends. Nothing is said of `why`, which is written from the
-- machine and not from changes.
use Rattle.std.specs.Prelude.{◌≡◌, ℕ, List, [], ◌++◌, length, replicate, Option, Some, None}
use Rattle.bq_disc.specs.declared.limits.TheConstants.{PROCESSORS, TASKS}
use Rattle.bq_parts.specs.declared.event.Event.{Event}
use Rattle.bq_parts.specs.declared.event.Event.TheVariants.{Admit}
use Rattle.bq_schedule.specs.declared.change.Change.{Change}
use Rattle.bq_schedule.specs.declared.change.Start.{Start}
use Rattle.bq_schedule.specs.declared.change.Stop.{Stop}
use Rattle.bq_schedule.specs.declared.change.Wake.{Wake}
use Rattle.bq_schedule.specs.declared.slice.Slice.{Slice}
use Rattle.bq_schedule.specs.Figures.{Figures}
use Rattle.bq_schedule.specs.WakeLatencies.{TakesStart, latencies_of}
use Rattle.bq_report.specs.MapRows.{RunsRow}
use Rattle.bq_report.specs.Maps.{HoldsLast, IsMap, KeepsSettings, RowsHold, empty_map_row}
use Rattle.bq_report.specs.Names.{NamedTasks}
use Rattle.bq_report.specs.Reports.{GrowsByPart, IsJsonReport, IsReport}
use Rattle.bq_report.specs.AdmittedTasks.{with_admitted}
use Rattle.bq_report.specs.Rows.{head_row, optional_slice_row}
use Rattle.bq_report.specs.Timehist.{AreLastLines, IsShownStop, change_text, head_lines}
use Rattle.bq_report.specs.Windows.{IsShownMigration, IsShownPart, IsShownWake}
use Rattle.bq_words.specs.declared.discipline_name.DisciplineName.{DisciplineName}
use Rattle.bq_drawing.specs.declared.picture_options.PictureOptions.{PictureOptions}
use Rattle.bq_drawing.specs.PastEvents.{empty_past}
use Rattle.bq_drawing.specs.Holdings.{HoldsChange, nothing_of}
use Rattle.bq_drawing.specs.Perfetto.{IsPerfettoHead, IsPerfettoOf, IsPerfettoTail}
use Rattle.bq_drawing.specs.Pictures.{IsPictureOf}
use Rattle.bq_timeline.specs.declared.any_form.AnyForm.{AnyForm}
use Rattle.bq_timeline.specs.declared.any_form.AnyForm.TheVariants as form

-- A form to which nothing has happened: a map of this width, a picture with these options.
abbrev pub IsEmptyForm : ℕ → PictureOptions → AnyForm → Type 0
IsEmptyForm width picture_options (form.Report r) = ((task : ℕ) → latencies_of r.latencies task ≡ []) × (r.missed ≡ 0)
IsEmptyForm width picture_options (form.Map m) = (m.width ≡ width) × (m.admitted ≡ []) × (m.rows.items ≡ [])
IsEmptyForm width picture_options (form.Json j) = ((task : ℕ) → latencies_of j.latencies task ≡ []) × (j.missed ≡ 0)
IsEmptyForm width picture_options (form.Svg p) =
    (p.options ≡ picture_options) × (p.discipline ≡ None) × (p.admitted ≡ []) × (p.drawing ≡ nothing_of 0) × (p.stops.entries ≡ [])
IsEmptyForm width picture_options other = Unit {0}

-- A form begins under a discipline, with a schedule to which nothing has happened: it and its text, before and after. A picture's title names
-- the discipline.
abbrev pub FormOpens : DisciplineName → Figures → AnyForm → AnyForm → List ℕ → List ℕ → Type 0
FormOpens discipline s (form.Report old) (form.Report new) before after = (new ≡ old) × (after ≡ before)
FormOpens discipline s (form.Map old) (form.Map new) before after =
    (new.rows.items ≡ old.rows.items ++ replicate (length s.processors) empty_map_row) × KeepsSettings old new × (after ≡ before)
FormOpens discipline s (form.Timehist old) (form.Timehist new) before after = (new ≡ old) × (after ≡ before ++ head_lines)
FormOpens discipline s (form.Csv old) (form.Csv new) before after = (new ≡ old) × (after ≡ before ++ head_row)
FormOpens discipline s (form.Json old) (form.Json new) before after = (new ≡ old) × (after ≡ before)
FormOpens discipline s (form.Svg old) (form.Svg new) before after =
    (new ≡ record old { discipline = Some discipline; drawing = nothing_of (length s.processors) }) × (after ≡ before)
FormOpens discipline s (form.Perfetto old) (form.Perfetto new) before after =
    (new ≡ record old { history = empty_past (length s.processors) TASKS }) × GrowsByPart (IsPerfettoHead (length s.processors)) before after
FormOpens discipline s (form.Why old) (form.Why new) before after = Unit {0}
FormOpens discipline s old new before after = ⊥

-- A task is admitted. The map and the picture give it the next letter or colour. No other form uses it.
abbrev pub FormAdmits : ℕ → AnyForm → AnyForm → Type 0
FormAdmits task (form.Map old) new = new ≡ form.Map (record old { admitted = with_admitted task old.admitted })
FormAdmits task (form.Svg old) new = new ≡ form.Svg (record old { admitted = with_admitted task old.admitted })
FormAdmits task old new = new ≡ old

-- The form is given the task of an event that admits one.
abbrev pub FormAdmitsTaskOf : Event → AnyForm → AnyForm → Type 0
FormAdmitsTaskOf (Admit task nice mask slice) old new = FormAdmits task old new
FormAdmitsTaskOf event old new = new ≡ old

-- A change is added to a form, with the schedule after it: the form and its text, before and after.
abbrev pub FormAddsChange : Change → Figures → NamedTasks → AnyForm → AnyForm → List ℕ → List ℕ → Type 0
FormAddsChange change s names (form.Report old) (form.Report new) before after =
    TakesStart change.start old.latencies new.latencies × (new.window ≡ old.window) × (new.missed ≡ old.missed) × (after ≡ before)
FormAddsChange change s names (form.Map old) (form.Map new) before after =
    RowsHold old.window change.run old.rows.items new.rows.items × KeepsSettings old new × (after ≡ before)
FormAddsChange change s names (form.Timehist old) (form.Timehist new) before after =
    (new ≡ old)
    × ((wake : Option Wake) × (stop : Option Stop) × (migration : Option Start)
    × IsShownWake old change.wake wake × IsShownStop old change.stop stop × IsShownMigration old change.start migration
    × (after ≡ before ++ change_text names s wake stop migration))
FormAddsChange change s names (form.Csv old) (form.Csv new) before after =
    (new ≡ old)
    × ((part : Option Slice) × IsShownPart old change.slice part × (after ≡ before ++ optional_slice_row part))
FormAddsChange change s names (form.Json old) (form.Json new) before after =
    TakesStart change.start old.latencies new.latencies × (new.window ≡ old.window) × (new.missed ≡ old.missed) × (after ≡ before)
FormAddsChange change s names (form.Svg old) (form.Svg new) before after =
    HoldsChange old.window change old.stops.entries new.stops.entries old.drawing new.drawing
    × (new ≡ record old { drawing = new.drawing; stops = new.stops }) × (after ≡ before)
FormAddsChange change s names (form.Perfetto old) (form.Perfetto new) before after =
    (new.window ≡ old.window) × GrowsByPart (IsPerfettoOf old.window names s change old.history new.history) before after
FormAddsChange change s names (form.Why old) (form.Why new) before after = Unit {0}
FormAddsChange change s names old new before after = ⊥

-- An event was done. The form is given its task, if it admits one, and then what it changed.
pub record FormAnswers (event : Event) (change : Change) (s : Figures) (names : NamedTasks) (old new : AnyForm) (before after : List ℕ) : Type 0 where
  pub given : AnyForm
  pub admits : FormAdmitsTaskOf event old given
  pub adds : FormAddsChange change s names given new before after

-- A form ends, with the schedule of the whole trace: its text before and after.
abbrev pub FormEnds : Figures → NamedTasks → AnyForm → List ℕ → List ℕ → Type 0
FormEnds s names (form.Report old) before after = GrowsByPart (IsReport old.window names s old.latencies old.missed) before after
FormEnds s names (form.Map old) before after =
    (rows : List RunsRow) × HoldsLast old.window s PROCESSORS old.rows.items rows
    × GrowsByPart (IsMap old.window names s old.admitted old.width rows) before after
FormEnds s names (form.Timehist old) before after = GrowsByPart (AreLastLines old names s PROCESSORS) before after
FormEnds s names (form.Csv old) before after = after ≡ before
FormEnds s names (form.Json old) before after = GrowsByPart (IsJsonReport old.window names s old.latencies old.missed) before after
FormEnds s names (form.Svg old) before after =
    GrowsByPart (IsPictureOf old.window old.options old.discipline s names old.admitted old.drawing) before after
FormEnds s names (form.Perfetto old) before after = GrowsByPart (IsPerfettoTail old.window names s old.history) before after
FormEnds s names (form.Why old) before after = Unit {0}
