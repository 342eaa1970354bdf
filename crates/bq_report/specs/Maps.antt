-- What a map holds of a schedule, and the map's text.
use Rattle.std.specs.Prelude.{◌≡◌, ◌↔◌, ℕ, zero, suc, ◌+◌, ◌-◌, ◌*◌, ◌/◌, ◌<◌, ◌≤◌, ◌^◌, ◌⊎◌, max, min, Bool, true, false, IsTrue, List, [], ◌∷◌, ◌++◌, map, flat_map, find, length, Contains, slice_index_or, slice_set, nat_lt, if◌then◌else◌, Option, Some, None, codes}
use Rattle.std.specs.Fmt.{decimal, format_spec, styled_decimal, styled_text}
use Rattle.std.specs.Int.{div_ceil}
use Rattle.std.specs.Option.{SomeIff}
use Rattle.bq_disc.specs.declared.limits.TheConstants.{TASKS}
use Rattle.bq_schedule.specs.declared.slice.Slice.{Slice}
use Rattle.bq_schedule.specs.Figures.{Figures, processor_in_figures}
use Rattle.bq_report.specs.declared.amounts.Unit.{Unit}
use Rattle.bq_report.specs.declared.amounts.Unit.TheVariants.{Microseconds, Milliseconds}
use Rattle.bq_report.specs.declared.extent.Extent.{Extent}
use Rattle.bq_report.specs.declared.grid.Grid.{Grid}
use Rattle.bq_report.specs.declared.map.Map.{Map}
use Rattle.bq_report.specs.declared.map_row.Column.{Column}
use Rattle.bq_report.specs.declared.map_row.Column.TheVariants.{Task, Hidden, Idle}
use Rattle.bq_report.specs.declared.window.Window.{Window}
use Rattle.bq_report.specs.Amounts.{moment_text}
use Rattle.bq_report.specs.Extents.{IsInWindow, SpansReadings}
use Rattle.bq_report.specs.Longest.{IsLongest, task_time_between, time_of_all}
use Rattle.bq_report.specs.MapRows.{RunsRow}
use Rattle.bq_report.specs.Names.{NamedTasks, name_of}
use Rattle.bq_report.specs.Reports.{AreParts, IsPartIf}
use Rattle.bq_report.specs.AdmittedTasks.{admitted_place}
use Rattle.bq_report.specs.Steps.{covers, round_steps}
use Rattle.bq_report.specs.Windows.{ShowsProcessor, ShowsTask, part_in_window}

-- ---- what it holds

-- the map has the same window, width and letters as before
abbrev pub KeepsSettings : Map → Map → Type 0
KeepsSettings old new = (new.window ≡ old.window) × (new.width ≡ old.width) × (new.admitted ≡ old.admitted)

-- a part of a run is held: it is inside the window and its processor is shown, whether its task is shown or not
pub record IsHeld (w : Window) (s : Slice) : Type 0 where
  pub lasts : (part_in_window w s).from < (part_in_window w s).to
  pub processor : ShowsProcessor w s.processor

-- the part of a run that is held, if there is a run and a part of it is held
abbrev pub IsHeldPart : Window → Option Slice → Option Slice → Type 0
IsHeldPart w None part = part ≡ None
IsHeldPart w (Some s) part = SomeIff part (IsHeld w s) (part_in_window w s)

-- a row with one more run, whose task is shown or not
abbrev pub map_row_with_run : Bool → Slice → RunsRow → RunsRow
map_row_with_run true run row = record row { shown = row.shown ++ (run ∷ []) }
map_row_with_run false run row = record row { hidden = row.hidden ++ (run ∷ []) }

-- a row without a run
abbrev pub empty_map_row : RunsRow
empty_map_row = record { shown = []; hidden = [] }

-- the row of a processor
abbrev pub map_row_of : List RunsRow → ℕ → RunsRow
map_row_of rows p = slice_index_or rows p empty_map_row

-- the rows after one more run at its processor, if that has a row
abbrev pub rows_with : Bool → Slice → List RunsRow → List RunsRow
rows_with is_shown run rows = slice_set rows run.processor (map_row_with_run is_shown run (map_row_of rows run.processor))

-- the rows hold one more part of a run, if there is one: a shown one if its task is shown, otherwise a hidden one
abbrev pub HoldsPart : Window → Option Slice → List RunsRow → List RunsRow → Type 0
HoldsPart w None old new = new ≡ old
HoldsPart w (Some run) old new = (is_shown : Bool) × (IsTrue is_shown ↔ ShowsTask w run.task) × (new ≡ rows_with is_shown run old)

-- the rows hold the part of a run that is inside the window, if there is one
abbrev pub RowsHold : Window → Option Slice → List RunsRow → List RunsRow → Type 0
RowsHold w run old new = (part : Option Slice) × IsHeldPart w run part × HoldsPart w part old new

-- the rows also hold the last runs of the processors below a number, which may still go on when the schedule ends
unfoldable pub HoldsLast : Window → Figures → ℕ → List RunsRow → List RunsRow → Type 0
HoldsLast w s zero old new = new ≡ old
HoldsLast w s (suc p) old new = (before : List RunsRow) × HoldsLast w s p old before × RowsHold w (processor_in_figures s p).run before new

-- ---- its columns

-- how many columns of a line show time: all but 8, from 1 to 65,535
abbrev pub columns_in : ℕ → ℕ
columns_in width = max (min (width - 8) (2 ^ 16 - 1)) 1

-- how long a column is: the least round step with which the columns cover the extent
abbrev pub step_over : Extent → ℕ → Option ℕ
step_over e width = find (λ (step : ℕ). covers (e.to - e.from) (columns_in width) step) round_steps

-- as many columns of this length as cover the extent
abbrev pub grid_over : Extent → ℕ → Grid
grid_over e step = record { extent = e; step = step; count = div_ceil (e.to - e.from) step }

-- the moment at which a column begins and the one before it ends; it is no later than the end of the extent
abbrev pub moment_at : Grid → ℕ → ℕ
moment_at g column = min (g.extent.from + column * g.step) g.extent.to

-- no task runs between two moments, among these runs
abbrev pub RunsNone : ℕ → ℕ → List Slice → Type 0
RunsNone from to runs = (task : ℕ) → task < TASKS → task_time_between from to runs task ≡ 0

-- how long nothing ran between two moments
abbrev pub idle_between : ℕ → ℕ → RunsRow → ℕ
idle_between from to row = (to - from) - (time_of_all from to row.shown + time_of_all from to row.hidden)

-- what a column shows: the shown task that ran longest, unless nothing ran for longer; hidden tasks, if only those ran, unless nothing ran for
-- longer than all of them; otherwise that the processor was idle
abbrev pub IsColumn : RunsRow → ℕ → ℕ → Column → Type 0
IsColumn row from to (Task task) = IsLongest from to row.shown task × (idle_between from to row ≤ task_time_between from to row.shown task)
IsColumn row from to Hidden = RunsNone from to row.shown × (idle_between from to row ≤ time_of_all from to row.hidden)
IsColumn row from to Idle =
    ((task : ℕ) → task < TASKS → task_time_between from to row.shown task < idle_between from to row)
    × (RunsNone from to row.shown → time_of_all from to row.hidden < idle_between from to row)

-- the columns of a row, each between its two moments
pub record AreColumns (row : RunsRow) (g : Grid) (columns : List Column) : Type 0 where
  pub count : length columns ≡ g.count
  pub each : (n : ℕ) → n < g.count → IsColumn row (moment_at g n) (moment_at g (n + 1)) (slice_index_or columns n Idle)

-- a row that is drawn: the processor's number, its runs of shown tasks, and the columns
pub record DrawnRow : Type 0 where
  pub number : ℕ
  pub runs : List Slice
  pub columns : List Column

-- what is drawn of the row of a processor, with these columns
abbrev pub drawn_row : List RunsRow → ℕ → List Column → DrawnRow
drawn_row rows p columns = record { number = p; runs = (map_row_of rows p).shown; columns = columns }

-- the row of a processor, if it is shown
abbrev pub IsDrawnRow : Window → List RunsRow → Grid → ℕ → List DrawnRow → Type 0
IsDrawnRow w rows g p drawn =
    IsPartIf DrawnRow (ShowsProcessor w p)
    (λ own. (columns : List Column) × AreColumns (map_row_of rows p) g columns × (own ≡ drawn_row rows p columns ∷ []))
    drawn

-- the columns of all drawn rows
abbrev pub all_columns : List DrawnRow → List Column
all_columns drawn = flat_map (λ (row : DrawnRow). row.columns) drawn

-- the runs of shown tasks in all drawn rows
abbrev pub all_runs : List DrawnRow → List Slice
all_runs drawn = flat_map (λ (row : DrawnRow). row.runs) drawn

-- ---- its text

-- the letters of tasks, in the order in which tasks are admitted
abbrev pub letters : List ℕ
letters = codes "ABCDEFGHIJKLMNOPQRSTUVWXYZabcdefghijklmnopqrstuvwxyz0123456789"

-- the letter of the task at a place among all that are admitted: `*` if the letters are used up
abbrev pub letter_at : ℕ → ℕ
letter_at place = slice_index_or letters place 42

-- the letter of a task by its place: `*` if it has none
abbrev pub letter_if : Option ℕ → ℕ
letter_if None = 42
letter_if (Some place) = letter_at place

-- the sign of a column: the letter of the task, `-` or `.`
abbrev pub column_sign : List ℕ → Column → ℕ
column_sign tasks (Task task) = letter_if (admitted_place tasks task)
column_sign tasks Hidden = 45
column_sign tasks Idle = 46

-- a text at the left end of this many columns, wider if needed
abbrev pub left_aligned_text : ℕ → List ℕ → List ℕ
left_aligned_text width text = styled_text (format_spec 32 1 0 width (2 ^ 64 - 1)) text

-- a number at the left end of this many columns, wider if needed
abbrev pub left_number : ℕ → ℕ → List ℕ
left_number width n = styled_decimal (format_spec 32 1 0 width (2 ^ 64 - 1)) n

-- the line of the row of a processor, with these columns
abbrev pub map_row_text : List ℕ → ℕ → List Column → List ℕ
map_row_text tasks p columns = codes "cpu " ++ (left_number 4 p ++ (map (column_sign tasks) columns ++ codes "\n"))

-- the lines of the drawn rows
abbrev pub rows_text : List ℕ → List DrawnRow → List ℕ
rows_text tasks drawn = flat_map (λ (row : DrawnRow). map_row_text tasks row.number row.columns) drawn

-- the unit for moments that are this far apart
abbrev pub unit_for : ℕ → Unit
unit_for step = if nat_lt step 1000 then Microseconds else Milliseconds

-- a mark of the ruler: the moment at which the column at 20 times the mark's number begins
abbrev pub ruler_mark_text : Grid → ℕ → List ℕ
ruler_mark_text g mark = codes "|" ++ moment_text (moment_at g (mark * 20)) (unit_for g.step)

-- the marks below a number, each in 20 columns
abbrev pub ruler_marks_text : Grid → ℕ → List ℕ
ruler_marks_text g zero = []
ruler_marks_text g (suc mark) = ruler_marks_text g mark ++ left_aligned_text 20 (ruler_mark_text g mark)

-- the number of the last mark
abbrev pub last_mark : Grid → ℕ
last_mark g = (g.count - 1) / 20

-- the ruler above the rows: a mark at every 20th column
abbrev pub ruler_text : Grid → List ℕ
ruler_text g = codes "        " ++ (ruler_marks_text g (last_mark g) ++ (ruler_mark_text g (last_mark g) ++ codes "\n"))

-- a task's name, if it has one
abbrev pub behind_task : Option (List ℕ) → List ℕ
behind_task None = []
behind_task (Some name) = codes "  " ++ name

-- the task at a place of the legend: its letter, its number, and its name
abbrev pub lettered_task : NamedTasks → ℕ → ℕ → List ℕ
lettered_task names place task = (letter_at place ∷ []) ++ (codes "  task " ++ (decimal task ++ behind_task (name_of names task)))

-- the note on a task that appears in no column
abbrev pub IsColumnNote : List Column → ℕ → List ℕ → Type 0
IsColumnNote columns task note = IsPartIf ℕ (¬ (Contains columns (Task task))) (λ own. own ≡ codes "  (in no column)") note

-- the line of the task at a place of the legend
abbrev pub IsLineOfTask : NamedTasks → List Column → ℕ → ℕ → List ℕ → Type 0
IsLineOfTask names columns place task line =
    (note : List ℕ) × IsColumnNote columns task note × (line ≡ lettered_task names place task ++ (note ++ codes "\n"))

-- a task runs in the time of an extent, among these runs
abbrev pub RunsIn : Extent → List Slice → ℕ → Type 0
RunsIn e runs task = 0 < task_time_between e.from e.to runs task

-- the line of the task at a place among all that are admitted, if it runs in the time that is shown
abbrev pub IsLegendLine : NamedTasks → List ℕ → Extent → List Slice → List Column → ℕ → List ℕ → Type 0
IsLegendLine names tasks e runs columns place line =
    IsPartIf ℕ (RunsIn e runs (slice_index_or tasks place 0)) (IsLineOfTask names columns place (slice_index_or tasks place 0)) line

-- the note on columns in which only hidden tasks ran, if there are any
abbrev pub IsHiddenNote : List Column → List ℕ → Type 0
IsHiddenNote columns note = IsPartIf ℕ (Contains columns Hidden) (λ own. own ≡ codes "; - runs a task that is not shown") note

-- the legend: how long a column is, the signs of no task and of hidden ones, and the tasks that run, in the order of their letters
pub record IsLegend (names : NamedTasks) (tasks : List ℕ) (g : Grid) (runs : List Slice) (columns : List Column) (text : List ℕ) : Type 0 where
  pub note : List ℕ
  pub lines : List ℕ
  pub hidden : IsHiddenNote columns note
  pub each : AreParts (IsLegendLine names tasks g.extent runs columns) (length tasks) lines
  pub whole : text ≡ codes "\na column is " ++ (moment_text g.step (unit_for g.step) ++ (codes "; . is idle" ++ (note ++ (codes "\n" ++ lines))))

-- a map of these rows: the ruler, the shown rows, and the legend
pub record IsDrawn (w : Window) (names : NamedTasks) (tasks : List ℕ) (rows : List RunsRow) (g : Grid) (text : List ℕ) : Type 0 where
  pub drawn : List DrawnRow
  pub legend : List ℕ
  pub shown : AreParts (IsDrawnRow w rows g) (length rows) drawn
  pub below : IsLegend names tasks g (all_runs drawn) (all_columns drawn) legend
  pub whole : text ≡ ruler_text g ++ (rows_text tasks drawn ++ legend)

-- a map with this step; there always is a step, because a round step covers 48 bits
abbrev pub IsDrawnBy : Window → NamedTasks → List ℕ → List RunsRow → Extent → Option ℕ → List ℕ → Type 0
IsDrawnBy w names tasks rows e None text = text ≡ []
IsDrawnBy w names tasks rows e (Some step) text = IsDrawn w names tasks rows (grid_over e step) text

-- a map over the time that passes in the window
pub record IsMapOfTime (w : Window) (names : NamedTasks) (s : Figures) (tasks : List ℕ) (width : ℕ) (rows : List RunsRow) (text : List ℕ) : Type 0 where
  pub extent : Extent
  pub in_window : IsInWindow w extent
  pub spans : SpansReadings w s extent
  pub drawn : IsDrawnBy w names tasks rows extent (step_over extent width) text

-- no time passes in the window, and the text says so
pub record IsMapOfNoTime (w : Window) (s : Figures) (text : List ℕ) : Type 0 where
  pub none : (e : Extent) → SpansReadings w s e → e.to ≤ e.from
  pub shows : text ≡ codes "no time passes in what is shown\n"

-- a map, or the line that no time passes in the window
abbrev pub IsMap : Window → NamedTasks → Figures → List ℕ → ℕ → List RunsRow → List ℕ → Type 0
IsMap w names s tasks width rows text = IsMapOfTime w names s tasks width rows text ⊎ IsMapOfNoTime w s text
