-- The machine of a core, whichever discipline it has.
use Rattle.std.specs.Prelude.{ℕ, List, nat_lt, Option, Some, None, if◌then◌else◌}
use Rattle.bq_parts.specs.Processors.{Processor}
use Rattle.bq_parts.specs.World.{World, processor_at, count_in}
use Rattle.bq_trace.specs.Machines.{TraceMachine}
use Rattle.bq_words.specs.declared.discipline_name.DisciplineName.TheVariants as rules
use Rattle.bq_trace.specs.declared.any_core.DisciplineCore.{DisciplineCore}
use Rattle.bq_trace.specs.declared.any_core.DisciplineCore.TheVariants as ruled

-- the machine of a core: its discipline, its world, and these counters
abbrev pub machine_of : DisciplineCore → List ℕ → TraceMachine
machine_of (ruled.Cfs w) counters = record { discipline = rules.Cfs; world = w; counters = counters }
machine_of (ruled.Eevdf w) counters = record { discipline = rules.Eevdf; world = w; counters = counters }

-- a processor, if the world has it
abbrev pub processor_in : World → ℕ → Option Processor
processor_in w c = if nat_lt c (count_in w) then Some (processor_at w c) else None
