-- What is written of a picture's rows while they are placed.
use Rattle.std.specs.Prelude.{◌≡◌, ℕ, ◌⊎◌, List, [], ◌++◌, Some, flat_map, string_bytes}
use Rattle.std.specs.BTreeMap.{Updates, get}
use Rattle.std.specs.Ordering.{nat_cmp}
use Rattle.bq_disc.specs.declared.limits.TheConstants.{PROCESSORS}
use Rattle.bq_disc.specs.Counts.{saturating_sum}
use Rattle.bq_report.specs.declared.window.Window.{Window}
use Rattle.bq_drawing.specs.declared.written_rows.WrittenRows.{WrittenRows}
use Rattle.bq_drawing.specs.declared.legend.Key.{Key}
use Rattle.bq_drawing.specs.declared.links.RowLink.{RowLink}
use Rattle.bq_drawing.specs.declared.links.LinkKind.TheVariants.{Migration, Pull}
use Rattle.bq_drawing.specs.Holdings.{Held}
use Rattle.bq_drawing.specs.Keys.{has_line}
use Rattle.bq_drawing.specs.Lanes.{left_out}
use Rattle.bq_drawing.specs.Links.{links_text}
use Rattle.bq_drawing.specs.Rows.{ArePlaced, HasRow, IsPlacedRow, PlacedRow, DrawingRow, Rows, labels_text, row_end, drawing_row_of, drawing_row_text, top_at, waits_left_out, wakes_left_out}
use Rattle.bq_drawing.specs.Frames.{PictureSetting}
use Rattle.bq_drawing.specs.Shapes.{arrow_of}

-- one more row is written, below the others
pub record IsRowWritten (s : PictureSetting) (number : ℕ) (row : DrawingRow) (old new : WrittenRows) : Type 0 where
  pub placed : PlacedRow
  pub is_placed : IsPlacedRow s old.bottom number row placed
  pub text : string_bytes new.text ≡ string_bytes old.text ++ drawing_row_text s placed
  pub labels : string_bytes new.labels ≡ string_bytes old.labels ++ labels_text s placed
  pub links : new.links ≡ old.links
  pub bands : Updates nat_cmp old.bands new.bands number (Some placed.top)
  pub bottom : new.bottom ≡ row_end placed
  pub waits : new.waits_left_out ≡ saturating_sum old.waits_left_out (left_out (λ wait. wait) [] placed.row.waits)
  pub wakes : new.wakes_left_out ≡ saturating_sum old.wakes_left_out (left_out (arrow_of s.extent) [] placed.row.wakes)

-- the row of a processor is written if it has one, and nothing otherwise
abbrev pub IsRowWrittenIf : Window → PictureSetting → Rows → ℕ → WrittenRows → WrittenRows → Type 0
IsRowWrittenIf w s rows number old new =
    (HasRow w rows number × IsRowWritten s number (drawing_row_of rows number) old new) ⊎ (¬ (HasRow w rows number) × (new ≡ old))

-- the rows of the processors below a number are written
pub record AreWritten (w : Window) (s : PictureSetting) (rows : Rows) (number : ℕ) (written : WrittenRows) : Type 0 where
  pub placed : List PlacedRow
  pub are_placed : ArePlaced w s rows number placed written.bottom
  pub text : string_bytes written.text ≡ flat_map (drawing_row_text s) placed
  pub labels : string_bytes written.labels ≡ flat_map (labels_text s) placed
  pub bands : (q : ℕ) → get nat_cmp written.bands q ≡ top_at placed q
  pub waits : written.waits_left_out ≡ saturating_sum 0 (waits_left_out placed)
  pub wakes : written.wakes_left_out ≡ saturating_sum 0 (wakes_left_out s placed)

-- what the legend explains besides the tasks, by the lines and the rows that are written
abbrev pub key_beside : List RowLink → WrittenRows → Key
key_beside links written = record {
  has_pulls = has_line Pull links;
  has_migrations = has_line Migration links;
  waits_left_out = written.waits_left_out;
  wakes_left_out = written.wakes_left_out;
}

-- all rows are written, and the lines between them
pub record AreDrawn (w : Window) (s : PictureSetting) (held : Held) (written : WrittenRows) : Type 0 where
  pub are_written : AreWritten w s held.rows PROCESSORS written
  pub lines : string_bytes written.links ≡ links_text s are_written.placed held.links
