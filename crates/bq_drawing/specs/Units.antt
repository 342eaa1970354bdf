-- The unit of the times in a picture, and times in it.
use Rattle.std.specs.Prelude.{ℕ, ◌-◌, ◌/◌, ◌%◌, nat_lt, List, ◌++◌, codes, find, if◌then◌else◌, unwrap_or}
use Rattle.std.specs.Fmt.{decimal}
use Rattle.bq_report.specs.declared.extent.Extent.{Extent}
use Rattle.bq_report.specs.Columns.{zeros}
use Rattle.bq_report.specs.Steps.{covers, round_steps}
use Rattle.bq_drawing.specs.declared.unit.TimeUnit.{TimeUnit}
use Rattle.bq_drawing.specs.declared.unit.TimeUnit.TheVariants.{Microseconds, Milliseconds, Nanoseconds, Seconds}

-- the unit of times on an axis with steps of this length
abbrev pub unit_of_step : ℕ → TimeUnit
unit_of_step step =
    if nat_lt step 1000 then Nanoseconds
    else if nat_lt step 1000000 then Microseconds
    else if nat_lt step 1000000000 then Milliseconds else Seconds

-- how far apart the lines of the axis are: the least round step of which ten cover the extent
abbrev pub axis_step : Extent → ℕ
axis_step e = unwrap_or (find (λ (step : ℕ). covers (e.to - e.from) 10 step) round_steps) 1

-- how many nanoseconds a unit has
abbrev pub unit_length : TimeUnit → ℕ
unit_length Nanoseconds = 1
unit_length Microseconds = 1000
unit_length Milliseconds = 1000000
unit_length Seconds = 1000000000

-- how a unit is written after a number
abbrev pub unit_name : TimeUnit → List ℕ
unit_name Nanoseconds = codes "ns"
unit_name Microseconds = codes "us"
unit_name Milliseconds = codes "ms"
unit_name Seconds = codes "s"

-- a time in a unit, without the unit's name: to the microsecond, or in microseconds to the nanosecond; what is less is cut off
abbrev pub amount_text : TimeUnit → ℕ → List ℕ
amount_text Nanoseconds time = decimal time
amount_text Microseconds time = decimal (time / 1000) ++ (codes "." ++ zeros 3 (time % 1000))
amount_text Milliseconds time = decimal (time / 1000000) ++ (codes "." ++ zeros 3 (time / 1000 % 1000))
amount_text Seconds time = decimal (time / 1000000000) ++ (codes "." ++ zeros 6 (time / 1000 % 1000000))

-- a time and its unit
abbrev pub time_text : TimeUnit → ℕ → List ℕ
time_text unit time = amount_text unit time ++ (codes " " ++ unit_name unit)
