-- The legend below the axis: the tasks with their colours, what the shapes mean, and what found no room.
use Rattle.std.specs.Prelude.{ℕ, ◌+◌, ◌-◌, ◌*◌, ◌/◌, ◌%◌, ◌^◌, Bool, ◌||◌, List, [], ◌∷◌, ◌++◌, codes, if◌then◌else◌, is_some, length, min, nat_lt}
use Rattle.std.specs.Fmt.{decimal}
use Rattle.std.specs.Int.{div_ceil}
use Rattle.bq_disc.specs.Counts.{saturating_sum}
use Rattle.bq_report.specs.Names.{name_of}
use Rattle.bq_drawing.specs.declared.legend.Key.{Key}
use Rattle.bq_drawing.specs.Lanes.{most_lanes}
use Rattle.bq_drawing.specs.Scales.{left_edge}
use Rattle.bq_drawing.specs.Frames.{PictureSetting, colour_of, name_or_number}

-- how many tasks are in a line of the legend
abbrev pub abreast : ℕ
abreast = 4

-- how wide a task is in the legend
abbrev pub column_width : ℕ
column_width = 270

-- how high a line of the legend is
abbrev pub line_height : ℕ
line_height = 28

-- the number of the grey in which the key is drawn
abbrev pub grey : ℕ
grey = 7

-- ---- the tasks

-- the beginning of a name at this place
abbrev pub name_beginning : ℕ → ℕ → List ℕ
name_beginning left line = codes "<text x=\"" ++ (decimal left ++ (codes "\" y=\"" ++ (decimal line ++ codes "\">")))

-- a colour, and the beginning of the name beside it
abbrev pub swatch_text : ℕ → ℕ → ℕ → List ℕ
swatch_text colour left top =
    (codes "<rect class=\"run c" ++ (decimal colour ++ (codes "\" x=\"" ++ (decimal left ++ (codes "\" y=\"" ++ (decimal top
    ++ codes "\" width=\"18\" height=\"18\" rx=\"2\"/>"))))))
    ++ name_beginning (saturating_sum left 26) (saturating_sum top 15)

-- the number of a task after its name, if it has one
abbrev pub task_number_text : Bool → ℕ → List ℕ
task_number_text is_named task = if is_named then codes " (" ++ (decimal task ++ codes ")") else []

-- the name of a task, cut after 18 characters, and its number
abbrev pub short_name : PictureSetting → ℕ → List ℕ
short_name s task = name_or_number 18 s.names task ++ (task_number_text (is_some (name_of s.names task)) task ++ codes "</text>\n")

-- a task at its place in the legend
abbrev pub entry_text : PictureSetting → ℕ → ℕ → ℕ → List ℕ
entry_text s first place task =
    swatch_text (colour_of s.tasks task) (saturating_sum (place % abreast * column_width) left_edge) (saturating_sum (place / abreast * line_height) first)
    ++ short_name s task

-- the entries of tasks, from a place on
unfoldable pub entries_text : PictureSetting → ℕ → ℕ → List ℕ → List ℕ
entries_text s first place [] = []
entries_text s first place (task ∷ later) = entry_text s first place task ++ entries_text s first (place + 1) later

-- ---- the key

-- what hatches mean
abbrev pub wait_key : ℕ → ℕ → List ℕ
wait_key bar line =
    (codes "<rect class=\"wait w" ++ (decimal grey ++ (codes "\" x=\"" ++ (decimal left_edge ++ (codes "\" y=\"" ++ (decimal bar
    ++ codes "\" width=\"30\" height=\"8\"/>"))))))
    ++ (codes "<text class=\"small\" x=\"110\" y=\"" ++ (decimal line ++ codes "\">waits</text>"))

-- what arrows above a row mean
abbrev pub wake_key : ℕ → ℕ → List ℕ
wake_key begin line =
    (codes "<path class=\"arrow c" ++ (decimal grey ++ (codes "\" d=\"M198 " ++ (decimal begin ++ codes "v11l-4 -6h8l-4 6\"/>"))))
    ++ (codes "<text class=\"small\" x=\"212\" y=\"" ++ (decimal line ++ codes "\">is woken</text>"))

-- what arrows between rows mean
abbrev pub pull_key : ℕ → ℕ → List ℕ
pull_key height line =
    (codes "<path class=\"c" ++ (decimal grey ++ (codes " link\" d=\"M324 " ++ (decimal height ++ (codes "h30\"/><path class=\"c" ++ (decimal grey
    ++ (codes " run\" d=\"M356 " ++ (decimal height ++ codes "l-10 -5v10z\"/>"))))))))
    ++ (codes "<text class=\"small\" x=\"366\" y=\"" ++ (decimal line ++ codes "\">is pulled</text>"))

-- what dashed lines between rows mean
abbrev pub migration_key : ℕ → ℕ → List ℕ
migration_key height line =
    (codes "<path class=\"c" ++ (decimal grey ++ (codes " link dashed\" d=\"M478 " ++ (decimal height ++ (codes "h30\"/><circle class=\"c" ++ (decimal grey
    ++ (codes " run\" cx=\"508\" cy=\"" ++ (decimal height ++ codes "\" r=\"4.5\"/>"))))))))
    ++ (codes "<text class=\"small\" x=\"520\" y=\"" ++ (decimal line ++ codes "\">runs on another processor than before</text>"))

-- this text if a condition holds, otherwise nothing
abbrev pub text_if : Bool → List ℕ → List ℕ
text_if so text = if so then text else []

-- what the shapes mean that the picture has
abbrev pub key_text : Key → ℕ → List ℕ
key_text key top =
    wait_key (saturating_sum top 5) (saturating_sum top 14)
    ++ (wake_key (saturating_sum top 3) (saturating_sum top 14)
    ++ (text_if key.has_pulls (pull_key (saturating_sum top 9) (saturating_sum top 14))
    ++ (text_if key.has_migrations (migration_key (saturating_sum top 9) (saturating_sum top 14)) ++ codes "\n")))

-- ---- what found no room

-- whether something found no room
abbrev pub leaves_out : Key → Bool
leaves_out key = nat_lt 0 key.waits_left_out || nat_lt 0 key.wakes_left_out

-- how many waits and wakes found no room
abbrev pub left_out_text : Key → ℕ → List ℕ
left_out_text key line =
    codes "<text class=\"small\" x=\"" ++ (decimal left_edge ++ (codes "\" y=\"" ++ (decimal line ++ (codes "\">left out, beyond " ++ (decimal most_lanes
    ++ (codes " at a time: waits " ++ (decimal key.waits_left_out ++ (codes ", wakes " ++ (decimal key.wakes_left_out ++ codes "</text>\n")))))))))

-- ---- the whole

-- the height of the key, below the tasks
abbrev pub key_top : ℕ → ℕ → ℕ
key_top tasks first = saturating_sum (div_ceil tasks abreast * line_height) first

-- the legend of these tasks, from this height on
abbrev pub legend_text : PictureSetting → List ℕ → Key → ℕ → List ℕ
legend_text s tasks key first =
    entries_text s first 0 tasks
    ++ (key_text key (key_top (length tasks) first)
    ++ text_if (leaves_out key) (left_out_text key (saturating_sum (saturating_sum (key_top (length tasks) first) line_height) 14)))

-- how high the legend is: the lines of the tasks, one for the key, and one if something found no room
abbrev pub legend_height : ℕ → Key → ℕ
legend_height tasks key = min ((div_ceil tasks abreast + (if leaves_out key then 2 else 1)) * line_height) (2 ^ 64 - 1)
