-- Where a moment is in the picture.
use Rattle.std.specs.Prelude.{ℕ, ◌+◌, ◌-◌, ◌*◌, ◌/◌, ◌%◌, max, min, List, ◌++◌, codes}
use Rattle.std.specs.Fmt.{decimal}
use Rattle.bq_report.specs.declared.extent.Extent.{Extent}

-- where the time begins, from the left edge
abbrev pub left_edge : ℕ
left_edge = 72

-- how wide the time is drawn
abbrev pub time_width : ℕ
time_width = 1080

-- how wide the picture is, with the room on the right
abbrev pub page_width : ℕ
page_width = left_edge + time_width + 24

-- where the rows begin, from the upper edge
abbrev pub rows_edge : ℕ
rows_edge = 84

-- how high the band of a row is
abbrev pub band_height : ℕ
band_height = 36

-- how high a wait is drawn, with the space above it
abbrev pub lane_height : ℕ
lane_height = 12

-- how high a wake is drawn, with the space below it
abbrev pub level_height : ℕ
level_height = 13

-- how far a row is from the next row
abbrev pub row_gap : ℕ
row_gap = 24

-- how high the axis is below the rows, with its numbers and its name
abbrev pub axis_height : ℕ
axis_height = 48

-- the least width that can be seen, in hundredths
abbrev pub least_width : ℕ
least_width = 40

-- how wide the arrow of a wake is
abbrev pub arrow_width : ℕ
arrow_width = 9

-- how far a moment is from the left edge, in hundredths: in proportion to how much of the extent has passed then. A moment after the
-- extent is at its end
abbrev pub moment_place : Extent → ℕ → ℕ
moment_place e time = left_edge * 100 + (min time e.to - e.from) * (time_width * 100) / max (e.to - e.from) 1

-- how wide the time between two moments is drawn, in hundredths: at least as wide as can be seen
abbrev pub drawn_width : Extent → ℕ → ℕ → ℕ
drawn_width e from to = max (moment_place e to - moment_place e from) least_width

-- hundredths, as a number with two decimals
abbrev pub hundredths : ℕ → List ℕ
hundredths n = decimal (n / 100) ++ (codes "." ++ (decimal (n / 10 % 10) ++ decimal (n % 10)))

-- the time that the arrow of a wake covers: as long as the arrow is wide, in whole units of the picture
abbrev pub arrow_time : Extent → ℕ
arrow_time e = (e.to - e.from) / time_width * arrow_width + 1
