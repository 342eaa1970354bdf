-- The tasks of a processor, as a choice sees them.
use Rattle.std.specs.Prelude.{ℕ, ◌+◌, ◌-◌, List, Option, unwrap_or}
use Rattle.std.specs.Option.{option_map}
use Rattle.bq_weights.specs.VirtualTime.{time_of}
use Rattle.bq_disc.specs.Tasks.{Task}
use Rattle.bq_disc.specs.Totals.{total_weight, weighted_sum, is_at_most_mean, mean_of}
use Rattle.bq_words.specs.declared.discipline_name.DisciplineName.{DisciplineName}
use Rattle.bq_words.specs.declared.discipline_name.DisciplineName.TheVariants.{Cfs, Eevdf}
use Rattle.bq_cfs.specs.Cfs.{least}
use Rattle.bq_why.specs.declared.task_row.TaskRow.{TaskRow}

-- how far two numbers are apart
abbrev pub apart : ℕ → ℕ → ℕ
apart m n = (m - n) + (n - m)

-- A task's row, by the weight, the sum of weight times v, and the mean v of all tasks. Its lag is the time in which it would cover its
-- distance from the mean
abbrev pub row_by : ℕ → ℕ → ℕ → Task → TaskRow
row_by weight sum mean t =
    record { task = t.id; weight = t.weight; v = t.v; deadline = t.deadline; is_eligible = is_at_most_mean weight sum t; lag = time_of (apart t.v mean) t.weight }

-- a task's row among these tasks
abbrev pub row_of_task : List Task → Task → TaskRow
row_of_task xs t = row_by (total_weight xs) (weighted_sum xs) (unwrap_or (mean_of xs) 0) t

-- what a discipline measures some tasks from: CFS from their least v, EEVDF from their mean v
abbrev pub measured_from : DisciplineName → List Task → Option ℕ
measured_from Cfs xs = option_map (λ (t : Task). t.v) (least xs)
measured_from Eevdf xs = mean_of xs
