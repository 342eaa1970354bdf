-- The tasks that a choice is distinguished from.
use Rattle.std.specs.Prelude.{ℕ, Bool, ◌==◌, ◌&&◌, not, if◌then◌else◌, List, Option, Some, None, find}
use Rattle.bq_words.specs.declared.discipline_name.DisciplineName.{DisciplineName}
use Rattle.bq_words.specs.declared.discipline_name.DisciplineName.TheVariants.{Cfs, Eevdf}
use Rattle.bq_disc.specs.Tasks.{Task, first_by}
use Rattle.bq_disc.specs.Dues.{due_before}
use Rattle.bq_disc.specs.Totals.{total_weight, weighted_sum, is_at_most_mean}
use Rattle.bq_eevdf.specs.Eevdf.{is_eligible}

-- the task, if it is not eligible
abbrev pub if_not_eligible : List Task → Option Task → Option Task
if_not_eligible xs None = None
if_not_eligible xs (Some t) = if is_eligible xs t then None else Some t

-- the task that is due first of all, if it is not eligible
abbrev pub passed_over : List Task → Option Task
passed_over xs = if_not_eligible xs (first_by due_before xs)

-- whether u is not t and differs in nothing that the discipline compares but the id. CFS compares the v. EEVDF compares the deadline, and u must
-- be eligible among tasks that have this weight and this weighted sum together
abbrev pub is_tied : DisciplineName → ℕ → ℕ → Task → Task → Bool
is_tied Cfs weight sum t u = not (u.id == t.id) && (u.v == t.v)
is_tied Eevdf weight sum t u = not (u.id == t.id) && ((u.deadline == t.deadline) && is_at_most_mean weight sum u)

-- the first task that `is_tied` with t
abbrev pub tied_with : DisciplineName → Task → List Task → Option Task
tied_with discipline t xs = find (is_tied discipline (total_weight xs) (weighted_sum xs) t) xs
