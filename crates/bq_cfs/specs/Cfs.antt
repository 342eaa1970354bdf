-- The completely fair scheduler: the task of least virtual runtime runs.
use Rattle.std.specs.Prelude.{ℕ, ◌≤◌, ◌+◌, max, ℤ, neg_ℤ, false, nat_lt, List, Option}
use Rattle.std.specs.Int.{int_max}
use Rattle.std.specs.Option.{option_map_or}
use Rattle.bq_cfs.specs.declared.discipline.TheConstants.{BONUS, GRANULARITY}
use Rattle.bq_weights.specs.VirtualTime.{shift_of}
use Rattle.bq_disc.specs.Tasks.{Task, first_by, runs_before}
use Rattle.bq_disc.specs.Discipline.{Discipline}

-- rel, but no less than -3,000,000
abbrev pub held_above : ℤ → ℤ
held_above rel = int_max rel (neg_ℤ BONUS)

-- the task of least (v, id)
abbrev pub least : List Task → Option Task
least xs = first_by runs_before xs

-- CFS as a discipline
abbrev pub cfs : Discipline
cfs = record {
  choice = λ xs. least xs;
  wants_preempt = λ current queue. option_map_or (λ (t : Task). nat_lt (t.v + GRANULARITY) current.v) (least queue) false;
  mark = λ old xs. option_map_or (λ (t : Task). max old t.v) (least xs) old;
  wake = λ mark rel slice weight. shift_of mark (held_above rel);
  deadline = λ v slice weight. 0;
  renewed = λ v slice weight deadline. deadline;
}

-- the mark never falls
abbrev pub MarkNeverFalls : Type 0
MarkNeverFalls = (old : ℕ) (xs : List Task) → old ≤ cfs.mark old xs
