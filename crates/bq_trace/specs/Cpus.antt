-- The processors of a machine, each with the machine's discipline.
use Rattle.std.specs.Prelude.{ℕ, Option}
use Rattle.std.specs.Option.{option_map}
use Rattle.bq_parts.specs.Processors.{Processor}
use Rattle.bq_words.specs.declared.discipline_name.DisciplineName.{DisciplineName}
use Rattle.bq_words.specs.declared.discipline_name.DisciplineName.TheVariants as rules
use Rattle.bq_trace.specs.Cores.{processor_in}
use Rattle.bq_trace.specs.Machines.{TraceMachine}
use Rattle.bq_trace.specs.declared.any_core.AnyCpu.{AnyCpu}
use Rattle.bq_trace.specs.declared.any_core.AnyCpu.TheVariants as under

-- a processor, and the discipline of its machine
abbrev pub cpu_of : AnyCpu → DisciplineName × Processor
cpu_of (under.Cfs cpu) = (rules.Cfs, cpu.now)
cpu_of (under.Eevdf cpu) = (rules.Eevdf, cpu.now)

-- a processor of a machine with the machine's discipline, if the machine has it
abbrev pub cpu_in : TraceMachine → ℕ → Option (DisciplineName × Processor)
cpu_in m c = option_map (λ p. (m.discipline, p)) (processor_in m.world c)
