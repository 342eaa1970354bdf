-- What the form says of a choice.
use Rattle.std.specs.Prelude.{◌^◌, ◌-◌, ℕ, min, nat_lt, if◌then◌else◌, Bool, true, false, List, ◌++◌, Option, Some, None, codes}
use Rattle.bq_parts.specs.declared.event.Event.{Event}
use Rattle.bq_parts.specs.declared.event.Event.TheVariants.{EndWake, Drain, Tick, Block, Pull}
use Rattle.bq_report.specs.Amounts.{millis_text}
use Rattle.bq_words.specs.declared.discipline_name.DisciplineName.{DisciplineName}
use Rattle.bq_words.specs.declared.discipline_name.DisciplineName.TheVariants.{Cfs, Eevdf}
use Rattle.bq_why.specs.declared.task_row.TaskRow.{TaskRow}
use Rattle.bq_why.specs.declared.texts.MarkText.{MarkText}
use Rattle.bq_why.specs.Rows.{apart}

-- the processor at which an event may choose, and the event's time
abbrev pub choice_place : Event → Option (ℕ × ℕ)
choice_place (EndWake processor now) = Some (processor, now)
choice_place (Drain processor now) = Some (processor, now)
choice_place (Tick processor now) = Some (processor, now)
choice_place (Block processor now) = Some (processor, now)
choice_place (Pull processor from now) = Some (processor, now)
choice_place other = None

-- the sign of a lag: an eligible task is owed time, another one has had more than its share
abbrev pub lag_sign : Bool → List ℕ
lag_sign true = codes "+"
lag_sign false = codes "-"

-- a row's lag in milliseconds; the nanoseconds are at most the greatest number of 64 bits
abbrev pub lag_text : TaskRow → List ℕ
lag_text row = lag_sign row.is_eligible ++ millis_text (min row.lag (2 ^ 64 - 1))

-- whether a task may run, in words
abbrev pub eligibility_text : Bool → List ℕ
eligibility_text true = codes "eligible"
eligibility_text false = codes "not eligible"

-- whether a row's task may run, in words
abbrev pub eligibility : TaskRow → List ℕ
eligibility row = eligibility_text row.is_eligible

-- the sign of a virtual time: a minus before 2^32, where all marks begin
abbrev pub sign_before : ℕ → List ℕ
sign_before time = if nat_lt time (2 ^ 32) then codes "-" else codes ""

-- a virtual time, in milliseconds from 2^32
abbrev pub virtual_text : ℕ → List ℕ
virtual_text time = sign_before time ++ millis_text (apart time (2 ^ 32))

-- the name of what a discipline measures its tasks from
abbrev pub origin_name : DisciplineName → List ℕ
origin_name Cfs = codes "least v"
origin_name Eevdf = codes "mean"

-- the mark of a processor, and what the discipline measures its tasks from
abbrev pub mark_text : MarkText → List ℕ
mark_text s = codes "mark " ++ (virtual_text s.mark ++ (codes "  " ++ (origin_name s.discipline ++ (codes " " ++ virtual_text s.from))))
