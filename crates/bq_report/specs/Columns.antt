-- Text in columns, as `{:>9}` and the like write it.
use Rattle.std.specs.Prelude.{ℕ, ◌-◌, ◌*◌, ◌/◌, ◌%◌, ◌^◌, ◌==◌, min, ℤ, List, [], ◌++◌, if◌then◌else◌, Option, Some, None, unwrap_or, codes}
use Rattle.std.specs.Fmt.{decimal, format_spec, styled_decimal, styled_signed_decimal, styled_text}
use Rattle.bq_schedule.specs.declared.change.Start.{Start}
use Rattle.bq_schedule.specs.declared.figures.TaskFigures.{TaskFigures}
use Rattle.bq_schedule.specs.declared.figures.HookFigures.{HookFigures}
use Rattle.bq_schedule.specs.declared.figures.ProcessorFigures.{ProcessorFigures}
use Rattle.bq_schedule.specs.Counts.{counted_wide, parts_per_nanosecond}
use Rattle.bq_schedule.specs.Observed.{idle_in}
use Rattle.bq_schedule.specs.declared.percentiles.Percentiles.{Percentiles}
use Rattle.bq_report.specs.Amounts.{millis_text, three_decimals}

-- a number at the right end of this many columns
abbrev pub right : ℕ → ℕ → List ℕ
right width n = styled_decimal (format_spec 32 3 0 width (2 ^ 64 - 1)) n

-- a number with a sign, at the right end of this many columns
abbrev pub right_signed : ℕ → ℤ → List ℕ
right_signed width z = styled_signed_decimal (format_spec 32 3 0 width (2 ^ 64 - 1)) z

-- a number at the right end of this many columns, with zeros before it
abbrev pub zeros : ℕ → ℕ → List ℕ
zeros width n = styled_decimal (format_spec 32 0 4 width (2 ^ 64 - 1)) n

-- a text at the left end of this many columns, cut if it has more characters
abbrev pub left : ℕ → List ℕ → List ℕ
left width text = styled_text (format_spec 32 1 0 width width) text

-- thousandths, as a number with three decimals, its whole part at the right end of this many columns
abbrev pub thousandths_in : ℕ → ℕ → List ℕ
thousandths_in width n = right width (n / 1000) ++ (codes "." ++ three_decimals n)

-- a number in a cell: a space is before it, so cells stay apart however long the number is
abbrev pub cell : ℕ → ℕ → List ℕ
cell width n = codes " " ++ right width n

-- thousandths in a cell, with a space before them
abbrev pub thousandths_cell : ℕ → ℕ → List ℕ
thousandths_cell width n = codes " " ++ thousandths_in width n

-- a task by its number and its name
abbrev pub task_columns : ℕ → List ℕ → List ℕ
task_columns task name = right 5 task ++ (codes " " ++ left 14 name)

-- a time in nanoseconds, in milliseconds
abbrev pub millis_column : ℕ → List ℕ
millis_column time = thousandths_cell 8 (time / 1000)

-- a latency in nanoseconds, in microseconds
abbrev pub latency_column : Option ℕ → List ℕ
latency_column None = codes "           -"
latency_column (Some latency) = thousandths_cell 7 latency

-- the line of a task: its nice value, its time, its fair time, and how often it started, was preempted and migrated
abbrev pub task_line : ℕ → List ℕ → TaskFigures → ℕ → List ℕ
task_line task name figures fair =
    task_columns task name ++ (right_signed 5 figures.nice ++ (millis_column figures.time ++ (millis_column fair
    ++ (cell 8 figures.switches ++ (cell 9 figures.preemptions ++ (cell 8 figures.migrations ++ codes "\n"))))))

-- the percentiles of a task's latencies, and the greatest
abbrev pub latency_columns : Percentiles → List ℕ
latency_columns p = latency_column p.p50 ++ (latency_column p.p95 ++ (latency_column p.p99 ++ latency_column p.greatest))

-- how long a task has waited that has not run since its last wake; empty if it has run
abbrev pub still_waiting_text : Option ℕ → List ℕ
still_waiting_text None = []
still_waiting_text (Some time) = codes "  still waiting " ++ (millis_text time ++ codes " ms")

-- the line of a task's latencies
abbrev pub latency_line : ℕ → List ℕ → ℕ → Percentiles → Option ℕ → List ℕ
latency_line task name wakes p still =
    task_columns task name ++ (cell 9 wakes ++ (latency_columns p ++ (still_waiting_text still ++ codes "\n")))

-- how many wakes did nothing because their task did not wait, if any did
abbrev pub missed_line : ℕ → List ℕ
missed_line n = if n == 0 then [] else codes "\nwakes that found no task waiting: " ++ (decimal n ++ codes "\n")

-- the line of a hook of a processor
abbrev pub hook_line : ℕ → List ℕ → HookFigures → List ℕ
hook_line processor name h =
    right 5 processor ++ (codes " " ++ (left 8 name ++ (cell 12 h.asked ++ (cell 10 h.overruled ++ (cell 14 h.steps ++ codes "\n")))))

-- how much of a whole a part is, in hundredths of a percent; 0 if the whole is 0
abbrev pub hundredths_of : ℕ → ℕ → ℕ
hundredths_of part whole = if whole == 0 then 0 else part * 10000 / whole

-- a part of a whole, in percent with two decimals
abbrev pub percent_text : ℕ → ℕ → List ℕ
percent_text part whole = right 3 (hundredths_of part whole / 100) ++ (codes "." ++ zeros 2 (hundredths_of part whole % 100))

-- the line of a processor: how much of the observed time a task ran there
abbrev pub processor_report_line : ℕ → ℕ → ProcessorFigures → List ℕ
processor_report_line processor observed p =
    right 5 processor ++ (codes "  " ++ (percent_text p.busy observed
    ++ (millis_column p.busy ++ (millis_column (idle_in observed p) ++ (cell 8 p.switches ++ codes "\n")))))

-- the line of a hook, if a policy was asked there
abbrev pub hook_line_if : ℕ → List ℕ → HookFigures → List ℕ
hook_line_if processor name h = if h.asked == 0 then [] else hook_line processor name h

-- the lines of a processor's hooks at which a policy was asked
abbrev pub hook_lines : ℕ → ProcessorFigures → List ℕ
hook_lines processor p =
    hook_line_if processor (codes "place") p.place ++ (hook_line_if processor (codes "preempt") p.preempt ++ hook_line_if processor (codes "pull") p.pull)

-- parts of a nanosecond as the nearest number of nanoseconds
abbrev pub nearest : ℕ → ℕ
nearest n = min (counted_wide n 500000000000 / parts_per_nanosecond) (2 ^ 64 - 1)

-- a moment, in seconds, and a processor
abbrev pub moment_columns : ℕ → ℕ → List ℕ
moment_columns at processor =
    right 8 (at / 1000000000) ++ (codes "." ++ (zeros 6 (at / 1000 % 1000000) ++ (codes " [" ++ (zeros 4 processor ++ codes "]  "))))

-- a run with this start that ends at this moment: how long it had waited, its latency if it has one, and how long it is
abbrev pub run_columns : Start → ℕ → List ℕ → List ℕ
run_columns start at name =
    moment_columns at start.processor ++ (task_columns start.task name
    ++ (thousandths_cell 6 (start.waited / 1000) ++ (thousandths_cell 6 (unwrap_or start.latency 0 / 1000) ++ thousandths_cell 6 ((at - start.at) / 1000))))
