-- Earliest eligible virtual deadline first: of the tasks whose lag is at least 0 the one of earliest deadline runs.
use Rattle.std.specs.Prelude.{Bool, false, not, ◌==◌, nat_le, List, ◌∷◌, Option, None, Some, filter, if◌then◌else◌, unwrap_or}
use Rattle.bq_weights.specs.VirtualTime.{advance_of, shift_of, vdelta_of, held_within}
use Rattle.bq_disc.specs.Totals.{total_weight, weighted_sum, is_at_most_mean, mean_of}
use Rattle.bq_disc.specs.Tasks.{Task, first_by}
use Rattle.bq_disc.specs.Dues.{due_before}
use Rattle.bq_disc.specs.Discipline.{Discipline}

-- whether a task's lag is at least 0 among the tasks considered: its v is at most their weighted mean
abbrev pub is_eligible : List Task → Task → Bool
is_eligible xs t = is_at_most_mean (total_weight xs) (weighted_sum xs) t

-- the eligible ones of some tasks
abbrev pub eligible : List Task → List Task
eligible xs = filter (is_eligible xs) xs

-- the eligible task of least (deadline, id)
abbrev pub earliest : List Task → Option Task
earliest xs = first_by due_before (eligible xs)

-- whether a task was chosen and it is not the current one
abbrev pub is_other : Option Task → Task → Bool
is_other None current = false
is_other (Some t) current = not (t.id == current.id)

-- EEVDF as a discipline
abbrev pub eevdf : Discipline
eevdf = record {
  choice = λ xs. earliest xs;
  wants_preempt = λ current queue. is_other (earliest (current ∷ queue)) current;
  mark = λ old xs. unwrap_or (mean_of xs) old;
  wake = λ mark rel slice weight. shift_of mark (held_within (vdelta_of slice weight) rel);
  deadline = λ v slice weight. advance_of v slice weight;
  renewed = λ v slice weight deadline. if nat_le deadline v then advance_of v slice weight else deadline;
}
