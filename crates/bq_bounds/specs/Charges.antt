-- One charge, as the laws of fairness measure it.
use Rattle.std.specs.Prelude.{ℕ, ◌+◌, ◌-◌, ◌^◌, min, List, Option, Some, None, find}
use Rattle.std.specs.Option.{option_map}
use Rattle.bq_cfs.specs.declared.discipline.TheConstants.{GRANULARITY}
use Rattle.bq_weights.specs.VirtualTime.{vdelta_of, advance_of}
use Rattle.bq_disc.specs.Tasks.{Task}
use Rattle.bq_disc.specs.Queues.{follows}
use Rattle.bq_words.specs.declared.discipline_name.DisciplineName.{DisciplineName}
use Rattle.bq_words.specs.declared.discipline_name.DisciplineName.TheVariants.{Cfs, Eevdf}
use Rattle.bq_bounds.specs.declared.running_task.RunningTask.{RunningTask}
use Rattle.bq_bounds.specs.declared.charge.Charge.{Charge}

-- the least v of the tasks that wait in a queue, which is sorted by rising v
abbrev pub least_waiting : List Task → Option ℕ
least_waiting queue = option_map (λ (t : Task). t.v) (find (follows None) queue)

-- How far a task of this v and weight is beyond a base when it is charged for a rise of the clock, and how far it may be: the allowance,
-- and the virtual time of what the clock has risen since the discipline decided
abbrev pub charge_from : ℕ → ℕ → ℕ → ℕ → ℕ → ℕ → Charge
charge_from base allowance v weight rise since = record { difference = advance_of v rise weight - base; bound = min (allowance + vdelta_of since weight) (2 ^ 64 - 1) }

-- CFS measures from the least v that waits and allows the granularity; EEVDF measures from the mean
abbrev pub measured_charge : DisciplineName → RunningTask → ℕ → ℕ → ℕ → Option Charge
measured_charge Cfs s rise since mean = option_map (λ least. charge_from least GRANULARITY s.v s.weight rise since) s.least
measured_charge Eevdf s rise since mean = Some (charge_from mean 0 s.v s.weight rise since)
