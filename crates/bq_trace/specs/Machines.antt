-- The machine that a trace drives: its discipline, its world, and the counters that its policies share.
use Rattle.std.specs.Prelude.{◌≡◌, ℕ, List, replicate, Result}
use Rattle.bq_disc.specs.Discipline.{Discipline}
use Rattle.bq_cfs.specs.Cfs.{cfs}
use Rattle.bq_eevdf.specs.Eevdf.{eevdf}
use Rattle.bq_bpf.specs.declared.board.CounterCall.{CounterCall}
use Rattle.bq_bpf.specs.declared.board.TheConstants.{COUNTERS}
use Rattle.bq_bpf.specs.Counters.{Counts, Through}
use Rattle.bq_parts.specs.World.{World, opening_world}
use Rattle.bq_parts.specs.Choices.{PolicySemantics, by_programs}
use Rattle.bq_parts.specs.Steps.{WorldStep}
use Rattle.bq_parts.specs.declared.event.Event.{Event}
use Rattle.bq_parts.specs.declared.reply.Reply.{Reply}
use Rattle.bq_parts.specs.declared.refusal.Refusal.{Refusal}
use Rattle.bq_words.specs.declared.discipline_name.DisciplineName.{DisciplineName}
use Rattle.bq_words.specs.declared.discipline_name.DisciplineName.TheVariants.{Cfs, Eevdf}
use Rattle.bq_words.specs.declared.processor_count.ProcessorCount.{ProcessorCount}
use Rattle.bq_words.specs.Sizes.{processors_in}

-- the machine of a trace: its discipline, its world and its counters
pub record TraceMachine : Type 0 where
  pub discipline : DisciplineName
  pub world : World
  pub counters : List ℕ

-- the discipline by its name
abbrev pub discipline_of : DisciplineName → Discipline
discipline_of Cfs = cfs
discipline_of Eevdf = eevdf

-- the meaning of policies under a discipline, by which the machine's world runs
abbrev pub semantics_of : DisciplineName → PolicySemantics
semantics_of discipline = by_programs (discipline_of discipline)

-- a machine to which nothing has happened
abbrev pub opening_machine : DisciplineName → ProcessorCount → TraceMachine
opening_machine discipline size = record { discipline = discipline; world = opening_world (processors_in size); counters = replicate COUNTERS 0 }

-- One event is a step of a world, and the policies' calls lead from the old counters to the new ones.
pub record Advances (s : PolicySemantics) (w : World) (old : List ℕ) (event : Event) (answer : Result Reply Refusal) (v : World) (new : List ℕ) : Type 0 where
  pub calls : List CounterCall
  pub step : WorldStep s w event calls answer v
  pub through : Through Counts old calls new

-- An event is done in the machine's world, under the machine's discipline.
pub record AdvancesMachine (m : TraceMachine) (event : Event) (answer : Result Reply Refusal) (k : TraceMachine) : Type 0 where
  pub same_discipline : k.discipline ≡ m.discipline
  pub step : Advances (semantics_of m.discipline) m.world m.counters event answer k.world k.counters
