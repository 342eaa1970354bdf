-- What the shapes of a picture share: the time that it is drawn over, the unit of its times, and the colours and the names of tasks.
use Rattle.std.specs.Prelude.{ℕ, ◌+◌, ◌-◌, ◌*◌, ◌/◌, ◌%◌, ◌^◌, List, chars, length, min, unwrap_or}
use Rattle.std.specs.Option.{option_map}
use Rattle.bq_disc.specs.Counts.{saturating_sum}
use Rattle.bq_report.specs.declared.extent.Extent.{Extent}
use Rattle.bq_report.specs.Names.{NamedTasks, name_of}
use Rattle.bq_report.specs.AdmittedTasks.{admitted_place}
use Rattle.bq_drawing.specs.declared.colours.TheConstants.{COLOURS}
use Rattle.bq_drawing.specs.declared.frame.Frame.{Frame}
use Rattle.bq_drawing.specs.declared.unit.TimeUnit.{TimeUnit}
use Rattle.bq_drawing.specs.Escapes.{escaped}
use Rattle.bq_drawing.specs.Events.{label_of}
use Rattle.bq_drawing.specs.Units.{axis_step, unit_of_step}

-- what the shapes of a picture share: the time that it is drawn over, the unit of its times, and the tasks of the trace, in order, with
-- their names
pub record PictureSetting : Type 0 where
  pub extent : Extent
  pub unit : TimeUnit
  pub tasks : List ℕ
  pub names : NamedTasks

-- the setting of a picture that is drawn over this time
abbrev pub drawn_in : Extent → List ℕ → NamedTasks → PictureSetting
drawn_in e tasks names = record { extent = e; unit = unit_of_step (axis_step e); tasks = tasks; names = names }

-- the setting that a frame gives
abbrev pub picture_setting : Frame → PictureSetting
picture_setting f = record { extent = f.scale.extent; unit = f.unit; tasks = f.admitted.now; names = f.names.now }

-- the number of the colour at a place: the colours go round, one further each time
abbrev pub colour_at : ℕ → ℕ
colour_at place = (place % COLOURS + place / COLOURS % COLOURS) % COLOURS

-- the number of a task's colour, by its place among all tasks of the trace
abbrev pub colour_of : List ℕ → ℕ → ℕ
colour_of tasks task = colour_at (unwrap_or (admitted_place tasks task) 0)

-- the name of a task, cut after this many characters, or its number if it has none
abbrev pub name_or_number : ℕ → NamedTasks → ℕ → List ℕ
name_or_number most names task = label_of task (option_map (escaped most) (name_of names task))

-- the whole name of a task, or its number if it has none
abbrev pub whole_name : PictureSetting → ℕ → List ℕ
whole_name s task = name_or_number (2 ^ 64 - 1) s.names task

-- how many characters the name of a task has; 9 if it has no name
abbrev pub name_length : NamedTasks → ℕ → ℕ
name_length names task = unwrap_or (option_map (λ name. length (chars name)) (name_of names task)) 9

-- the width that a name needs, in hundredths: ten units for each character, and ten more
abbrev pub label_width : NamedTasks → ℕ → ℕ
label_width names task = saturating_sum (min (name_length names task * 1000) (2 ^ 64 - 1)) 1000
