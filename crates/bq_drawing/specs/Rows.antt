-- The rows of a picture, one below another.
use Rattle.std.specs.Prelude.{◌≡◌, ℕ, zero, suc, ◌+◌, ◌*◌, ◌<◌, ◌⊎◌, ◌==◌, List, [], ◌∷◌, ◌++◌, Option, find, flat_map, length, slice_index_or, IsPermutation, IsSorted}
use Rattle.std.specs.List.{sum_by}
use Rattle.std.specs.Option.{option_map}
use Rattle.std.specs.Ordering.{nat_cmp, ordering_then}
use Rattle.std.specs.declared.cmp.Ordering.{Ordering}
use Rattle.bq_disc.specs.Counts.{saturating_sum}
use Rattle.bq_report.specs.declared.window.Window.{Window}
use Rattle.bq_report.specs.Windows.{ShowsProcessor}
use Rattle.bq_drawing.specs.declared.lanes.TaskInterval.{TaskInterval}
use Rattle.bq_drawing.specs.declared.shapes.DrawnRun.{DrawnRun}
use Rattle.bq_drawing.specs.Lanes.{lanes_after, left_out}
use Rattle.bq_drawing.specs.Scales.{band_height, lane_height, level_height, row_gap, rows_edge}
use Rattle.bq_drawing.specs.Frames.{PictureSetting}
use Rattle.bq_drawing.specs.Shapes.{arrow_of, label_text, shapes_text}

-- what is drawn of a processor: its runs, its waits and its wakes, each in the order in which they came
pub record DrawingRow : Type 0 where
  pub runs : List DrawnRun
  pub waits : List TaskInterval
  pub wakes : List TaskInterval

-- a row with nothing in it
abbrev pub empty_drawing_row : DrawingRow
empty_drawing_row = record { runs = []; waits = []; wakes = [] }

-- a row for each processor
abbrev pub Rows : Type 0
Rows = List DrawingRow

-- the row of a processor; empty if it does not exist
abbrev pub drawing_row_of : Rows → ℕ → DrawingRow
drawing_row_of rows processor = slice_index_or rows processor empty_drawing_row

-- the order of intervals: by when they begin, then by when they end, then by their tasks
abbrev pub interval_cmp : TaskInterval → TaskInterval → Ordering
interval_cmp a b = ordering_then (nat_cmp a.from b.from) (ordering_then (nat_cmp a.to b.to) (nat_cmp a.task b.task))

-- `sorted` has the intervals of `given`, in the order in which they begin
pub record ArePutInOrder (given sorted : List TaskInterval) : Type 0 where
  pub same : IsPermutation given sorted
  pub order : IsSorted interval_cmp sorted

-- a processor has a row: it exists, and is shown
pub record HasRow (w : Window) (rows : Rows) (number : ℕ) : Type 0 where
  pub exists : number < length rows
  pub shown : ShowsProcessor w number

-- a row in the picture: its processor, the height at which its band begins, and what is drawn in it, with waits and wakes in order
pub record PlacedRow : Type 0 where
  pub number : ℕ
  pub top : ℕ
  pub row : DrawingRow

-- where the band of a row begins, below this height: the levels that its wakes need, and 4 more
abbrev pub band_top : PictureSetting → ℕ → List TaskInterval → ℕ
band_top s edge wakes = saturating_sum edge (length (lanes_after (arrow_of s.extent) [] wakes) * level_height + 4)

-- where a row ends: below the band, the lanes of its waits, and a gap
abbrev pub row_end : PlacedRow → ℕ
row_end p = saturating_sum p.top (band_height + (length (lanes_after (λ wait. wait) [] p.row.waits) * lane_height + row_gap))

-- the row of a processor with all that is held of it, below this height
pub record IsPlacedRow (s : PictureSetting) (edge number : ℕ) (row : DrawingRow) (placed : PlacedRow) : Type 0 where
  pub of_processor : placed.number ≡ number
  pub below : placed.top ≡ band_top s edge placed.row.wakes
  pub runs_stay : placed.row.runs ≡ row.runs
  pub waits_in_order : ArePutInOrder row.waits placed.row.waits
  pub wakes_in_order : ArePutInOrder row.wakes placed.row.wakes

-- the next row, below the rows before it, the last of which ends at `before`
pub record IsNextRow (s : PictureSetting) (number : ℕ) (row : DrawingRow) (above : List PlacedRow) (before : ℕ) (placed : List PlacedRow) (edge : ℕ) : Type 0 where
  pub next : PlacedRow
  pub is_placed : IsPlacedRow s before number row next
  pub comes_last : placed ≡ above ++ next ∷ []
  pub ends : edge ≡ row_end next

-- no row is added
pub record IsNoRow (above : List PlacedRow) (before : ℕ) (placed : List PlacedRow) (edge : ℕ) : Type 0 where
  pub placed_stay : placed ≡ above
  pub edge_stays : edge ≡ before

-- the rows of the processors below a number that have one, one below another; the last ends at `edge`
unfoldable pub ArePlaced : Window → PictureSetting → Rows → ℕ → List PlacedRow → ℕ → Type 0
ArePlaced w s rows zero placed edge = (placed ≡ []) × (edge ≡ rows_edge)
ArePlaced w s rows (suc number) placed edge =
    (above : List PlacedRow) × (before : ℕ) × ArePlaced w s rows number above before
    × ((HasRow w rows number × IsNextRow s number (drawing_row_of rows number) above before placed edge) ⊎ (¬ (HasRow w rows number) × IsNoRow above before placed edge))

-- the height of the band of a processor, if it has a row
abbrev pub top_at : List PlacedRow → ℕ → Option ℕ
top_at placed number = option_map (λ (p : PlacedRow). p.top) (find (λ (p : PlacedRow). p.number == number) placed)

-- all that is drawn of a row
abbrev pub drawing_row_text : PictureSetting → PlacedRow → List ℕ
drawing_row_text s p = shapes_text s p.number p.top p.row.runs p.row.waits p.row.wakes

-- the names on the row's runs
abbrev pub labels_text : PictureSetting → PlacedRow → List ℕ
labels_text s p = flat_map (label_text s p.top) p.row.runs

-- how many waits find no room, in all rows
abbrev pub waits_left_out : List PlacedRow → ℕ
waits_left_out placed = sum_by (λ (p : PlacedRow). left_out (λ wait. wait) [] p.row.waits) placed

-- how many wakes find no room, in all rows
abbrev pub wakes_left_out : PictureSetting → List PlacedRow → ℕ
wakes_left_out s placed = sum_by (λ (p : PlacedRow). left_out (arrow_of s.extent) [] p.row.wakes) placed
