-- The whole text of a picture.
use Rattle.std.specs.Prelude.{◌≡◌, ℕ, ◌-◌, ◌^◌, ◌<◌, ◌≤◌, ◌⊎◌, List, ◌++◌, Option, codes, flat_map}
use Rattle.std.specs.Fmt.{decimal}
use Rattle.bq_disc.specs.declared.limits.TheConstants.{PROCESSORS, TASKS}
use Rattle.bq_schedule.specs.Figures.{Figures}
use Rattle.bq_report.specs.declared.extent.Extent.{Extent}
use Rattle.bq_report.specs.declared.window.Window.{Window}
use Rattle.bq_report.specs.Extents.{SpansReadings}
use Rattle.bq_report.specs.Names.{NamedTasks}
use Rattle.bq_words.specs.declared.discipline_name.DisciplineName.{DisciplineName}
use Rattle.bq_drawing.specs.declared.picture_options.PictureOptions.{PictureOptions}
use Rattle.bq_drawing.specs.Axes.{axis_text}
use Rattle.bq_drawing.specs.Escapes.{escaped}
use Rattle.bq_drawing.specs.Frames.{PictureSetting, drawn_in}
use Rattle.bq_drawing.specs.Headings.{heading_text, title_of}
use Rattle.bq_drawing.specs.Holdings.{Held, HoldsRunners, HoldsWaiting}
use Rattle.bq_drawing.specs.Keys.{legend_of, picture_height}
use Rattle.bq_drawing.specs.Links.{links_text}
use Rattle.bq_drawing.specs.PictureNames.{hash_of, picture_name_text}
use Rattle.bq_drawing.specs.Rows.{ArePlaced, PlacedRow, labels_text, drawing_row_text}
use Rattle.bq_drawing.specs.Scales.{page_width, rows_edge}
use Rattle.bq_drawing.specs.Units.{axis_step}

-- all that is drawn: the heading, the axis, the lines between rows, the rows over them, the names on their runs, and the legend
pub record IsDrawing (w : Window) (s : PictureSetting) (title : List ℕ) (discipline : Option DisciplineName) (held : Held) (height : ℕ) (text : List ℕ) : Type 0 where
  pub placed : List PlacedRow
  pub edge : ℕ
  pub are_placed : ArePlaced w s held.rows PROCESSORS placed edge
  pub is_high : height ≡ picture_height s held placed edge
  pub whole : text ≡ heading_text s title discipline
      ++ (axis_text s (axis_step s.extent) rows_edge edge
      ++ (links_text s placed held.links
      ++ (flat_map (drawing_row_text s) placed
      ++ (flat_map (labels_text s) placed ++ legend_of s held placed edge))))

-- the beginning of the root, by the name and the height of the picture
abbrev pub root_text : List ℕ → ℕ → List ℕ
root_text name height =
    (codes "<svg xmlns=\"http://www.w3.org/2000/svg\" class=\"" ++ (name ++ (codes "\" width=\"" ++ (decimal page_width ++ (codes "\" height=\""
    ++ (decimal height ++ codes "\""))))))
    ++ (codes " viewBox=\"0 0 " ++ (decimal page_width ++ (codes " " ++ (decimal height ++ codes "\" role=\"img\">\n"))))

-- the name of the picture for a reader who does not see it
abbrev pub root_title : List ℕ → List ℕ
root_title title = codes "<title>" ++ (escaped (2 ^ 64 - 1) title ++ codes "</title>\n")

-- the head of a picture in which this is drawn: its root, with its name and its size, its title, and the styles of a theme. Nothing is
-- said here of the styles
abbrev pub IsHead : PictureOptions → List ℕ → ℕ → List ℕ → Type 0
IsHead options drawn height text =
    (styles : List ℕ) × (text ≡ root_text (picture_name_text (hash_of options.theme drawn)) height ++ (root_title (title_of options) ++ styles))

-- a picture: its head, all that is drawn, and the end of its root
pub record IsPicture (w : Window) (options : PictureOptions) (s : PictureSetting) (discipline : Option DisciplineName) (held : Held) (text : List ℕ) : Type 0 where
  pub head : List ℕ
  pub drawn : List ℕ
  pub height : ℕ
  pub is_drawing : IsDrawing w s (title_of options) discipline held height drawn
  pub is_head : IsHead options drawn height head
  pub whole : text ≡ head ++ (drawn ++ codes "</svg>\n")

-- no time passes in the window
abbrev pub PassesNoTime : Window → Figures → Type 0
PassesNoTime w s = (e : Extent) → SpansReadings w s e → e.to ≤ e.from

-- the time that a picture is drawn over: from the first reading to the last, in the window; one nanosecond if no time passes
abbrev pub IsDrawnOver : Window → Figures → Extent → Type 0
IsDrawnOver w s e = (SpansReadings w s e × (e.from < e.to)) ⊎ (PassesNoTime w s × (e ≡ record { from = 0; to = 1 }))

-- the picture at the end of a schedule: of all that is held, and of the runs and the waits that still go on
pub record IsPictureOf (w : Window) (options : PictureOptions) (discipline : Option DisciplineName) (s : Figures) (names : NamedTasks) (tasks : List ℕ) (old : Held)
    (text : List ℕ) : Type 0 where
  pub running : Held
  pub held : Held
  pub extent : Extent
  pub holds_runs : HoldsRunners w s PROCESSORS old running
  pub holds_waits : HoldsWaiting w s TASKS running held
  pub drawn_over : IsDrawnOver w s extent
  pub whole : IsPicture w options (drawn_in extent tasks names) discipline held text
