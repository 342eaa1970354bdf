-- What the legend of a map knows of its rows.
use Rattle.std.specs.Prelude.{◌≡◌, ◌↔◌, ℕ, List, ◌++◌, Contains, IsTrue}
use Rattle.std.specs.BTreeSet.{contains}
use Rattle.std.specs.Ordering.{nat_cmp}
use Rattle.bq_schedule.specs.declared.slice.Slice.{Slice}
use Rattle.bq_report.specs.declared.extent.Extent.{Extent}
use Rattle.bq_report.specs.declared.grid.Grid.{Grid}
use Rattle.bq_report.specs.declared.legend.Legend.{Legend}
use Rattle.bq_report.specs.declared.map_row.Column.{Column}
use Rattle.bq_report.specs.declared.map_row.Column.TheVariants.{Task, Hidden}
use Rattle.bq_report.specs.declared.window.Window.{Window}
use Rattle.bq_report.specs.MapRows.{RunsRow}
use Rattle.bq_report.specs.Maps.{DrawnRow, IsDrawnRow, RunsIn, all_columns, all_runs, rows_text}
use Rattle.bq_report.specs.Reports.{AreParts, GrowsByPart}

-- the legend has the tasks that run in the extent and those that columns show, and knows whether a column shows hidden ones
pub record Notes (e : Extent) (runs : List Slice) (columns : List Column) (l : Legend) : Type 0 where
  pub ran : (task : ℕ) → IsTrue (contains nat_cmp l.ran task) ↔ RunsIn e runs task
  pub tasks : (task : ℕ) → IsTrue (contains nat_cmp l.tasks task) ↔ Contains columns (Task task)
  pub hidden : IsTrue l.has_hidden ↔ Contains columns Hidden

-- a text has grown by a part like this, whichever extent, runs and columns the legend has noted
abbrev pub GrowsAsNoted : Legend → (Extent → List Slice → List Column → List ℕ → Type 0) → List ℕ → List ℕ → Type 0
GrowsAsNoted l IsLike old new =
    (extent : Extent) → (runs : List Slice) → (columns : List Column) → Notes extent runs columns l → GrowsByPart (IsLike extent runs columns) old new

-- the legend has noted these runs and columns too
abbrev pub NotesMore : Extent → List Slice → List Column → Legend → Legend → Type 0
NotesMore e runs columns old new =
    (ran : List Slice) → (before : List Column) → Notes e ran before old → Notes e (ran ++ runs) (before ++ columns) new

-- the rows of the processors below a number are drawn if they are shown: their lines are added, and their runs and columns noted
pub record DrawsRows (w : Window) (rows : List RunsRow) (tasks : List ℕ) (g : Grid) (number : ℕ) (old new : Legend) (before after : List ℕ) : Type 0 where
  pub drawn : List DrawnRow
  pub shown : AreParts (IsDrawnRow w rows g) number drawn
  pub noted : NotesMore g.extent (all_runs drawn) (all_columns drawn) old new
  pub added : after ≡ before ++ rows_text tasks drawn
