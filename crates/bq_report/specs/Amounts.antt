-- Times as text.
use Rattle.std.specs.Prelude.{ℕ, ◌/◌, ◌%◌, List, ◌++◌, codes}
use Rattle.std.specs.Fmt.{decimal}
use Rattle.bq_report.specs.declared.amounts.Unit.{Unit}
use Rattle.bq_report.specs.declared.amounts.Unit.TheVariants.{Microseconds, Milliseconds}

-- the last three digits of a number
abbrev pub three_decimals : ℕ → List ℕ
three_decimals n = decimal (n / 100 % 10) ++ (decimal (n / 10 % 10) ++ decimal (n % 10))

-- thousandths, as a number with three decimals
abbrev pub thousandths : ℕ → List ℕ
thousandths n = decimal (n / 1000) ++ (codes "." ++ three_decimals n)

-- nanoseconds as milliseconds; a part of a microsecond is cut off
abbrev pub millis_text : ℕ → List ℕ
millis_text time = thousandths (time / 1000)

-- nanoseconds as microseconds
abbrev pub micros_text : ℕ → List ℕ
micros_text time = thousandths time

-- a moment in this unit, and the unit
abbrev pub moment_text : ℕ → Unit → List ℕ
moment_text time Microseconds = micros_text time ++ codes " us"
moment_text time Milliseconds = millis_text time ++ codes " ms"
