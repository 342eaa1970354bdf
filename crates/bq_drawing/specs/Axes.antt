-- The axis of time below the rows.
use Rattle.std.specs.Prelude.{ℕ, zero, suc, ◌+◌, ◌*◌, ◌/◌, ◌^◌, ◌-◌, List, [], ◌++◌, codes, if◌then◌else◌, max, min, nat_le}
use Rattle.std.specs.Fmt.{decimal}
use Rattle.std.specs.Int.{div_ceil}
use Rattle.bq_disc.specs.Counts.{saturating_sum}
use Rattle.bq_report.specs.declared.extent.Extent.{Extent}
use Rattle.bq_drawing.specs.Scales.{hundredths, left_edge, moment_place, time_width}
use Rattle.bq_drawing.specs.Frames.{PictureSetting}
use Rattle.bq_drawing.specs.Units.{unit_length, unit_name}

-- how many lines an axis has at most
abbrev pub most_lines : ℕ
most_lines = 12

-- the first multiple of the step that is not before the extent
abbrev pub first_axis_line : Extent → ℕ → ℕ
first_axis_line e step = min (div_ceil e.from (max step 1) * step) (2 ^ 64 - 1)

-- the moment of a line: this many steps after the first line
abbrev pub line_at : Extent → ℕ → ℕ → ℕ
line_at e step number = saturating_sum (first_axis_line e step) (step * number)

-- a line at this place, between these heights
abbrev pub grid_line : ℕ → ℕ → ℕ → List ℕ
grid_line place top edge =
    codes "<path class=\"grid\" d=\"M" ++ (hundredths place ++ (codes " " ++ (decimal top ++ (codes "V" ++ (decimal edge ++ codes "\"/>")))))

-- the number at a line of the axis
abbrev pub grid_count : ℕ → ℕ → ℕ → List ℕ
grid_count place line count =
    codes "<text class=\"small middle\" x=\"" ++ (hundredths place ++ (codes "\" y=\"" ++ (decimal line ++ (codes "\">"
    ++ (decimal count ++ codes "</text>\n")))))

-- a moment on the axis: its line from above the rows to where they end, and the number of units below it
abbrev pub axis_mark_text : PictureSetting → ℕ → ℕ → ℕ → List ℕ
axis_mark_text s top edge at =
    grid_line (moment_place s.extent at) top edge ++ grid_count (moment_place s.extent at) (saturating_sum edge 20) (at / unit_length s.unit)

-- a moment on the axis, as `axis_mark_text` draws it, if it is no later than the extent
abbrev pub mark_if : PictureSetting → ℕ → ℕ → ℕ → List ℕ
mark_if s top edge at = if nat_le at s.extent.to then axis_mark_text s top edge at else []

-- the first lines of the axis, at most this many
unfoldable pub axis_marks_text : PictureSetting → ℕ → ℕ → ℕ → ℕ → List ℕ
axis_marks_text s step top edge zero = []
axis_marks_text s step top edge (suc number) = axis_marks_text s step top edge number ++ mark_if s top edge (line_at s.extent step number)

-- the name of the axis, with the name of its unit
abbrev pub axis_name : List ℕ → ℕ → List ℕ
axis_name unit line =
    codes "<text class=\"small middle\" x=\"" ++ (decimal (left_edge + time_width / 2) ++ (codes "\" y=\"" ++ (decimal line ++ (codes "\">time in "
    ++ (unit ++ codes "</text>\n")))))

-- the axis: its lines, at each multiple of the step in the extent, and its name
abbrev pub axis_text : PictureSetting → ℕ → ℕ → ℕ → List ℕ
axis_text s step top edge = axis_marks_text s step top edge most_lines ++ axis_name (unit_name s.unit) (saturating_sum edge 42)
