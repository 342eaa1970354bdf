-- Runs of tasks, each made from its start: up to its stop, or up to the last reading of the clock if it goes on.
use Rattle.std.specs.Prelude.{ℕ, Option}
use Rattle.std.specs.Option.{option_map}
use Rattle.bq_schedule.specs.declared.change.Start.{Start}
use Rattle.bq_schedule.specs.declared.change.Stop.{Stop}
use Rattle.bq_schedule.specs.declared.figures.ProcessorFigures.{ProcessorFigures}
use Rattle.bq_schedule.specs.declared.slice.Slice.{Slice}

-- a run with this start that ends at a moment
abbrev pub run_to : ℕ → Start → Slice
run_to at start = record { processor = start.processor; task = start.task; from = start.at; to = at }

-- the run that a change ends, if it ends one
abbrev pub run_ended_by : Option Stop → Option Slice
run_ended_by stop = option_map (λ (s : Stop). run_to s.at s.start) stop

-- the run that goes on at a processor, up to the last reading of its clock
abbrev pub run_on : ProcessorFigures → Option Slice
run_on p = option_map (run_to p.last) p.running
