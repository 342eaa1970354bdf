-- The ticks among some records.
use Rattle.std.specs.Prelude.{ℕ, List}
use Rattle.bq_history.specs.Whole.{total}
use Rattle.bq_parts.specs.declared.event.Event.{Event}
use Rattle.bq_parts.specs.declared.event.Event.TheVariants.{Tick}
use Rattle.bq_shared.specs.declared.record.Record.{Record}

-- 1 for a tick, and 0 for another event
abbrev pub one_if_tick : Event → ℕ
one_if_tick (Tick c now) = 1
one_if_tick e = 0

-- 1 for the record of a tick, else 0
abbrev pub one_tick : Record → ℕ
one_tick r = one_if_tick r.event

-- how many of the records are of ticks
abbrev pub ticks_in : List Record → ℕ
ticks_in log = total one_tick log
