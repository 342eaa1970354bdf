-- The lines between rows: pulls and migrations.
use Rattle.std.specs.Prelude.{ℕ, ◌-◌, ◌*◌, ◌/◌, ◌^◌, Bool, true, false, List, [], ◌++◌, Option, Some, None, codes, flat_map, if◌then◌else◌, max, min, nat_le, nat_lt}
use Rattle.std.specs.Fmt.{decimal}
use Rattle.std.specs.Int.{abs_diff}
use Rattle.bq_disc.specs.Counts.{saturating_sum}
use Rattle.bq_drawing.specs.declared.links.RowLink.{RowLink}
use Rattle.bq_drawing.specs.declared.links.LinkKind.{LinkKind}
use Rattle.bq_drawing.specs.declared.links.LinkKind.TheVariants.{Migration, Pull}
use Rattle.bq_drawing.specs.Scales.{band_height, hundredths, moment_place}
use Rattle.bq_drawing.specs.Rows.{PlacedRow, top_at}
use Rattle.bq_drawing.specs.Frames.{PictureSetting, colour_of, whole_name}
use Rattle.bq_drawing.specs.Units.{amount_text, unit_name}

-- ---- where a line is

-- a line leaves its band, which begins at `from`, at the edge that is nearer to the other band, which begins at `to`
abbrev pub leaves_at : ℕ → ℕ → ℕ
leaves_at from to = if nat_lt from to then saturating_sum from band_height else from

-- a line ends at the nearer edge of the other band
abbrev pub link_end : ℕ → ℕ → ℕ
link_end from to = if nat_lt from to then to else saturating_sum to band_height

-- how much of the height between a line's ends is left from a moment on: the same part as of its time
abbrev pub height_left : RowLink → ℕ → ℕ → ℕ → ℕ
height_left link begin end first = min (abs_diff begin end * (link.to.at - first)) (2 ^ 64 - 1) / max (link.to.at - link.from.at) 1

-- the height at which a line enters a picture that begins at a moment; a line that begins later enters where it begins
abbrev pub enters_at : RowLink → ℕ → ℕ → ℕ → ℕ
enters_at link begin end first =
    if nat_le first link.from.at then begin
    else if nat_lt begin end then end - height_left link begin end first
    else saturating_sum end (height_left link begin end first)

-- ---- how it is drawn

-- the path of a line between two places and heights
abbrev pub way_text : ℕ → ℕ → ℕ → ℕ → List ℕ → List ℕ
way_text left begin right end rest =
    hundredths left ++ (codes " " ++ (decimal begin ++ (codes "L" ++ (hundredths right ++ (codes " " ++ (decimal end ++ rest))))))

-- the head of an arrow that ends at this place, pointing down or up
abbrev pub head_text : ℕ → ℕ → ℕ → Bool → List ℕ
head_text colour place end true =
    codes "<path class=\"c" ++ (decimal colour ++ (codes " run\" d=\"M" ++ (hundredths place ++ (codes " " ++ (decimal end ++ codes "l-5 -10h10z\"/>")))))
head_text colour place end false =
    codes "<path class=\"c" ++ (decimal colour ++ (codes " run\" d=\"M" ++ (hundredths place ++ (codes " " ++ (decimal end ++ codes "l-5 10h10z\"/>")))))

-- a dot
abbrev pub dot_text : ℕ → ℕ → ℕ → List ℕ
dot_text colour place height =
    codes "<circle class=\"c" ++ (decimal colour ++ (codes " run\" cx=\"" ++ (hundredths place ++ (codes "\" cy=\"" ++ (decimal height
    ++ codes "\" r=\"4.5\"/>")))))

-- the line and its end: an arrow for a pull, and dashes with a dot for a migration
abbrev pub link_text : LinkKind → ℕ → ℕ → ℕ → ℕ → ℕ → Bool → List ℕ
link_text Pull colour left begin right end is_down =
    (codes "<path class=\"c" ++ (decimal colour ++ (codes " link\" d=\"M" ++ way_text left begin right end (codes "\"/>"))))
    ++ head_text colour right end is_down
link_text Migration colour left begin right end is_down =
    (codes "<path class=\"c" ++ (decimal colour ++ (codes " link dashed\" d=\"M" ++ way_text left begin right end (codes "\"/>"))))
    ++ dot_text colour right end

-- what the line means
abbrev pub act_text : LinkKind → ℕ → ℕ → List ℕ
act_text Pull from to = codes " is pulled from cpu " ++ (decimal from ++ (codes " by cpu " ++ decimal to))
act_text Migration from to = codes " migrates from cpu " ++ (decimal from ++ (codes " to cpu " ++ decimal to))

-- the beginning of a line's tooltip: the name of its task
abbrev pub name_head : PictureSetting → ℕ → List ℕ
name_head s task = codes "<title>" ++ whole_name s task

-- a line's tooltip: the name of its task, what happened, and when
abbrev pub link_title : PictureSetting → RowLink → List ℕ
link_title s link =
    name_head s link.task
    ++ (act_text link.kind link.from.processor link.to.processor
    ++ (codes " at " ++ (amount_text s.unit link.to.at ++ (codes " " ++ (unit_name s.unit ++ codes "</title></g>\n")))))

-- a line between bands whose upper edges are at `from` and `to`
abbrev pub link_between : PictureSetting → RowLink → ℕ → ℕ → List ℕ
link_between s link from to =
    let left = moment_place s.extent link.from.at in
    let begin = enters_at link (leaves_at from to) (link_end from to) s.extent.from in
    let right = moment_place s.extent link.to.at in
    let end = link_end from to in
    (codes "<g>" ++ link_text link.kind (colour_of s.tasks link.task) left begin right end (nat_lt from to)) ++ link_title s link

-- a line between two bands, as `link_between` draws it, if both bands are drawn
abbrev pub link_if : PictureSetting → RowLink → Option ℕ → Option ℕ → List ℕ
link_if s link None to = []
link_if s link (Some from) None = []
link_if s link (Some from) (Some to) = link_between s link from to

-- whether two kinds are the same
abbrev pub same_kind : LinkKind → LinkKind → Bool
same_kind Pull Pull = true
same_kind Pull Migration = false
same_kind Migration Pull = false
same_kind Migration Migration = true

-- a line, if it is of this kind; `tops` gives the height at which a processor's band begins
abbrev pub link_line : LinkKind → PictureSetting → (ℕ → Option ℕ) → RowLink → List ℕ
link_line kind s tops link = if same_kind link.kind kind then link_if s link (tops link.from.processor) (tops link.to.processor) else []

-- all lines between these rows: the migrations, and then the pulls
abbrev pub links_text : PictureSetting → List PlacedRow → List RowLink → List ℕ
links_text s placed links =
    flat_map (link_line Migration s (top_at placed)) links ++ flat_map (link_line Pull s (top_at placed)) links
