-- The time in which a schedule was observed, and how much of it a processor was idle.
use Rattle.std.specs.Prelude.{ℕ, ◌-◌, max, min, List, map, filter, is_some, unwrap_or}
use Rattle.std.specs.List.{filter_map, reduce}
use Rattle.bq_schedule.specs.declared.figures.ProcessorFigures.{ProcessorFigures}
use Rattle.bq_schedule.specs.Figures.{Figures}

-- the first readings of the clocks that were read
abbrev pub first_readings : Figures → List ℕ
first_readings s = filter_map (λ (p : ProcessorFigures). p.first) s.processors

-- the last readings of the clocks that were read
abbrev pub last_readings : Figures → List ℕ
last_readings s = map (λ (p : ProcessorFigures). p.last) (filter (λ (p : ProcessorFigures). is_some p.first) s.processors)

-- the time from the earliest first reading of any processor's clock to the latest last one; 0 if no clock was read
unfoldable pub observed_time : Figures → ℕ
observed_time s = unwrap_or (reduce max (last_readings s)) 0 - unwrap_or (reduce min (first_readings s)) 0

-- for how much of this time nothing ran at a processor
abbrev pub idle_in : ℕ → ProcessorFigures → ℕ
idle_in time p = time - p.busy
