-- What the legend of a picture explains.
use Rattle.std.specs.Prelude.{ℕ, ◌+◌, Bool, List, length}
use Rattle.std.specs.BTreeMap.{is_at}
use Rattle.std.specs.List.{filter, list_any}
use Rattle.std.specs.Ordering.{nat_cmp}
use Rattle.bq_disc.specs.Counts.{saturating_sum}
use Rattle.bq_drawing.specs.declared.legend.Key.{Key}
use Rattle.bq_drawing.specs.declared.links.RowLink.{RowLink}
use Rattle.bq_drawing.specs.declared.links.LinkKind.{LinkKind}
use Rattle.bq_drawing.specs.declared.links.LinkKind.TheVariants.{Migration, Pull}
use Rattle.bq_drawing.specs.Holdings.{Held}
use Rattle.bq_drawing.specs.Legends.{legend_height, legend_text}
use Rattle.bq_drawing.specs.Links.{same_kind}
use Rattle.bq_drawing.specs.Scales.{axis_height, row_gap}
use Rattle.bq_drawing.specs.Rows.{PlacedRow, waits_left_out, wakes_left_out}
use Rattle.bq_drawing.specs.Frames.{PictureSetting}

-- the tasks of which something is drawn, by their places among all
abbrev pub tasks_shown : List ℕ → List ℕ → List ℕ
tasks_shown tasks drawn = filter (λ task. list_any (is_at (nat_cmp task)) drawn) tasks

-- whether there is a line of this kind
abbrev pub has_line : LinkKind → List RowLink → Bool
has_line kind links = list_any (λ (link : RowLink). same_kind link.kind kind) links

-- what the legend explains besides the tasks
abbrev pub legend_key : PictureSetting → List RowLink → List PlacedRow → Key
legend_key s links placed = record {
  has_pulls = has_line Pull links;
  has_migrations = has_line Migration links;
  waits_left_out = saturating_sum 0 (waits_left_out placed);
  wakes_left_out = saturating_sum 0 (wakes_left_out s placed);
}

-- where the legend begins, below the axis
abbrev pub legend_top : ℕ → ℕ
legend_top edge = saturating_sum edge (axis_height + row_gap)

-- the legend of a picture whose rows end at this height
abbrev pub legend_of : PictureSetting → Held → List PlacedRow → ℕ → List ℕ
legend_of s held placed edge = legend_text s (tasks_shown s.tasks held.tasks) (legend_key s held.links placed) (legend_top edge)

-- how high the picture is together with its legend
abbrev pub picture_height : PictureSetting → Held → List PlacedRow → ℕ → ℕ
picture_height s held placed edge =
    saturating_sum (legend_top edge) (legend_height (length (tasks_shown s.tasks held.tasks)) (legend_key s held.links placed))
