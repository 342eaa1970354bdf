-- The shapes of a row: its name, its runs, the waits below them, and the wakes above.
use Rattle.std.specs.Prelude.{ℕ, ◌+◌, ◌-◌, ◌*◌, ◌/◌, List, [], ◌∷◌, ◌++◌, Option, Some, None, codes, flat_map, if◌then◌else◌, nat_lt}
use Rattle.std.specs.Fmt.{decimal}
use Rattle.bq_disc.specs.Counts.{saturating_sum}
use Rattle.bq_report.specs.declared.extent.Extent.{Extent}
use Rattle.bq_drawing.specs.declared.lanes.TaskInterval.{TaskInterval}
use Rattle.bq_drawing.specs.declared.shapes.DrawnRun.{DrawnRun}
use Rattle.bq_drawing.specs.declared.unit.TimeUnit.{TimeUnit}
use Rattle.bq_drawing.specs.Frames.{PictureSetting, colour_of, whole_name, label_width}
use Rattle.bq_drawing.specs.Lanes.{lane_of, lanes_taken}
use Rattle.bq_drawing.specs.Scales.{arrow_time, band_height, hundredths, lane_height, left_edge, level_height, moment_place, time_width, drawn_width}
use Rattle.bq_drawing.specs.Units.{amount_text, time_text, unit_name}

-- ---- the band

-- the band in which the runs of a row are drawn; its upper edge is at `top`
abbrev pub band_text : ℕ → List ℕ
band_text top =
    codes "<rect class=\"band\" x=\"" ++ (decimal left_edge ++ (codes "\" y=\"" ++ (decimal top ++ (codes "\" width=\"" ++ (decimal time_width
    ++ (codes "\" height=\"" ++ (decimal band_height ++ codes "\"/>\n")))))))

-- the name of a processor's row, in its band
abbrev pub row_name : ℕ → ℕ → List ℕ
row_name number top =
    codes "<text class=\"cpu\" x=\"10\" y=\"" ++ (decimal (saturating_sum top 24) ++ (codes "\">cpu " ++ (decimal number ++ codes "</text>\n")))

-- ---- runs

-- the rectangle of a run, in the band whose upper edge is at `top`
abbrev pub rectangle_text : PictureSetting → ℕ → DrawnRun → List ℕ
rectangle_text s top run =
    codes "<g><rect class=\"run c" ++ (decimal (colour_of s.tasks run.task) ++ (codes "\" x=\"" ++ (hundredths (moment_place s.extent run.from)
    ++ (codes "\" y=\"" ++ (decimal top ++ (codes "\" width=\"" ++ (hundredths (drawn_width s.extent run.from run.to)
    ++ (codes "\" height=\"" ++ (decimal band_height ++ codes "\" rx=\"2\"/>")))))))))

-- when a run begins and ends, and how long it is
abbrev pub run_times : PictureSetting → DrawnRun → List ℕ
run_times s run =
    (codes " (" ++ (decimal run.task ++ (codes ") runs " ++ (amount_text s.unit run.from ++ (codes " to " ++ (amount_text s.unit run.to
    ++ (codes " " ++ (unit_name s.unit ++ codes ": "))))))))
    ++ time_text s.unit (run.to - run.from)

-- how long after its task's wake a run began, if that is known
abbrev pub latency_text : TimeUnit → Option ℕ → List ℕ
latency_text unit None = []
latency_text unit (Some latency) = codes ", " ++ (amount_text unit latency ++ (codes " " ++ (unit_name unit ++ codes " since its wake")))

-- how long the task waited for a run
abbrev pub run_waits : PictureSetting → DrawnRun → List ℕ
run_waits s run =
    (codes ", after " ++ (amount_text s.unit run.waited ++ (codes " " ++ (unit_name s.unit ++ codes " of waiting"))))
    ++ latency_text s.unit run.latency

-- the tooltip of a run
abbrev pub run_title : PictureSetting → DrawnRun → List ℕ
run_title s run = codes "<title>" ++ (whole_name s run.task ++ (run_times s run ++ (run_waits s run ++ codes "</title>")))

-- a run: its rectangle and its tooltip
abbrev pub drawn_run_text : PictureSetting → ℕ → DrawnRun → List ℕ
drawn_run_text s top run = rectangle_text s top run ++ (run_title s run ++ codes "</g>\n")

-- ---- waits and wakes, in lanes

-- a shape in its lane, or nothing if it found none
abbrev pub shape_in : (ℕ → TaskInterval → List ℕ) → Option ℕ → TaskInterval → List ℕ
shape_in draw None interval = []
shape_in draw (Some lane) interval = draw lane interval

-- shapes, one after another, each in the lane that it takes; `room` says how much room a shape needs, and a lane is given by the moment
-- from which it is free
unfoldable pub in_lanes : (TaskInterval → TaskInterval) → (ℕ → TaskInterval → List ℕ) → List ℕ → List TaskInterval → List ℕ
in_lanes room draw lanes [] = []
in_lanes room draw lanes (interval ∷ later) =
    shape_in draw (lane_of (room interval) lanes) interval
    ++ in_lanes room draw (lanes_taken (lane_of (room interval) lanes) (room interval).to lanes) later

-- the height of a wait in this lane, below the band whose upper edge is at `top`
abbrev pub wait_height : ℕ → ℕ → ℕ
wait_height top lane = saturating_sum (lane * lane_height) (band_height + (top + 3))

-- the hatched rectangle of a wait, up to the name in its tooltip
abbrev pub hatched_text : PictureSetting → ℕ → TaskInterval → List ℕ
hatched_text s height wait =
    codes "<rect class=\"wait w" ++ (decimal (colour_of s.tasks wait.task) ++ (codes "\" x=\"" ++ (hundredths (moment_place s.extent wait.from)
    ++ (codes "\" y=\"" ++ (decimal height ++ (codes "\" width=\"" ++ (hundredths (drawn_width s.extent wait.from wait.to)
    ++ codes "\" height=\"8\"><title>")))))))

-- when a wait begins and ends
abbrev pub wait_times : PictureSetting → TaskInterval → List ℕ
wait_times s wait =
    codes " waits " ++ (amount_text s.unit wait.from ++ (codes " to " ++ (amount_text s.unit wait.to ++ (codes " " ++ (unit_name s.unit
    ++ codes "</title></rect>\n")))))

-- a wait at this height, with the name of its task and when it is
abbrev pub wait_text : PictureSetting → ℕ → TaskInterval → List ℕ
wait_text s height wait = hatched_text s height wait ++ (whole_name s wait.task ++ wait_times s wait)

-- the height at which the arrow of a wake at this level ends, above the band whose upper edge is at `top`
abbrev pub wake_height : ℕ → ℕ → ℕ
wake_height top level = top - level * level_height

-- the arrow of a wake, up to the name in its tooltip
abbrev pub arrow_text : PictureSetting → ℕ → TaskInterval → List ℕ
arrow_text s end wake =
    codes "<path class=\"arrow c" ++ (decimal (colour_of s.tasks wake.task) ++ (codes "\" d=\"M" ++ (hundredths (moment_place s.extent wake.from)
    ++ (codes " " ++ (decimal (end - 12) ++ codes "v11l-4 -6h8l-4 6\"><title>")))))

-- when a wake happens
abbrev pub wake_time : PictureSetting → TaskInterval → List ℕ
wake_time s wake = codes " is woken at " ++ (amount_text s.unit wake.from ++ (codes " " ++ (unit_name s.unit ++ codes "</title></path>\n")))

-- a wake whose arrow ends at this height, with the name of its task and when it happens
abbrev pub drawn_wake_text : PictureSetting → ℕ → TaskInterval → List ℕ
drawn_wake_text s end wake = arrow_text s end wake ++ (whole_name s wake.task ++ wake_time s wake)

-- a wake, made as long as its arrow is wide
abbrev pub arrow_of : Extent → TaskInterval → TaskInterval
arrow_of e wake = record wake { to = saturating_sum wake.from (arrow_time e) }

-- a wait in its lane, below the band whose upper edge is at `top`
abbrev pub wait_in : PictureSetting → ℕ → ℕ → TaskInterval → List ℕ
wait_in s top lane wait = wait_text s (wait_height top lane) wait

-- a wake at its level, above the band whose upper edge is at `top`
abbrev pub wake_in : PictureSetting → ℕ → ℕ → TaskInterval → List ℕ
wake_in s top level wake = drawn_wake_text s (wake_height top level) wake

-- the waits of a row, one after another; each needs room for as long as it lasts
abbrev pub waits_text : PictureSetting → ℕ → List TaskInterval → List ℕ
waits_text s top waits = in_lanes (λ wait. wait) (wait_in s top) [] waits

-- the wakes of a row, one after another; each needs room for its arrow
abbrev pub wakes_text : PictureSetting → ℕ → List TaskInterval → List ℕ
wakes_text s top wakes = in_lanes (arrow_of s.extent) (wake_in s top) [] wakes

-- what is drawn in the row of a processor whose band has its upper edge at `top`: the band and the name, then the runs, the waits and the
-- wakes, each in order
abbrev pub shapes_text : PictureSetting → ℕ → ℕ → List DrawnRun → List TaskInterval → List TaskInterval → List ℕ
shapes_text s number top runs waits wakes =
    band_text top ++ (row_name number top ++ (flat_map (drawn_run_text s top) runs ++ (waits_text s top waits ++ wakes_text s top wakes)))

-- ---- names upon runs

-- the width that the number of a task needs, in hundredths: ten units for each digit, and ten more
abbrev pub number_width : ℕ → ℕ
number_width task = if nat_lt task 10 then 2000 else if nat_lt task 100 then 3000 else if nat_lt task 1000 then 4000 else 5000

-- the beginning of a label of a task, around this place, in the band whose upper edge is at `top`
abbrev pub label_start : PictureSetting → ℕ → ℕ → ℕ → List ℕ
label_start s task middle top =
    codes "<text class=\"in l" ++ (decimal (colour_of s.tasks task) ++ (codes "\" x=\"" ++ (hundredths middle
    ++ (codes "\" y=\"" ++ (decimal (saturating_sum top 24) ++ codes "\">")))))

-- the name of a run's task, around this place, in the band whose upper edge is at `top`
abbrev pub name_upon : PictureSetting → ℕ → ℕ → ℕ → List ℕ
name_upon s task middle top = label_start s task middle top ++ (whole_name s task ++ codes "</text>\n")

-- the number of a run's task, around this place, if that much width has room for it
abbrev pub number_within : PictureSetting → ℕ → ℕ → ℕ → ℕ → List ℕ
number_within s width task middle top =
    if nat_lt width (number_width task) then [] else label_start s task middle top ++ (decimal task ++ codes "</text>\n")

-- the label around a place of a run of that width: the name of the task, or its number if the name does not fit, or nothing
abbrev pub label_around : PictureSetting → ℕ → ℕ → ℕ → ℕ → List ℕ
label_around s width task middle top =
    if nat_lt width (label_width s.names task) then number_within s width task middle top else name_upon s task middle top

-- the label in the middle of a run
abbrev pub label_text : PictureSetting → ℕ → DrawnRun → List ℕ
label_text s top run =
    label_around s (drawn_width s.extent run.from run.to) run.task
    (saturating_sum (moment_place s.extent run.from) (drawn_width s.extent run.from run.to / 2)) top
