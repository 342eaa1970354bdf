-- Laws of what the form says of a choice.
use Rattle.std.specs.Prelude.{◌≡◌, ◌<◌, ℕ, Bool, true, false, nat_le, List, Some, IfSome, is_some, length}
use Rattle.bq_words.specs.declared.discipline_name.DisciplineName.{DisciplineName}
use Rattle.bq_disc.specs.Tasks.{Task}
use Rattle.bq_disc.specs.Totals.{total_weight, mean_of}
use Rattle.bq_disc.specs.Movable.{movable_to}
use Rattle.bq_disc.specs.Pulls.{pull_of}
use Rattle.bq_trace.specs.Machines.{discipline_of}
use Rattle.bq_why.specs.Rows.{row_of_task}
use Rattle.bq_why.specs.Rivals.{tied_with}
use Rattle.bq_why.specs.Pulls.{own_pull_of}
use Rattle.bq_why.specs.declared.pull_facts.OwnPull.{OwnPull}
use Rattle.bq_why.specs.declared.pull_facts.OwnPull.TheVariants.{Greatest}

-- a task is eligible exactly when its v is at most the mean of the tasks that are there, rounded down
abbrev pub EligibleUpToTheMean : Type 0
EligibleUpToTheMean = (xs : List Task) (t : Task) (mean : ℕ) → 0 < total_weight xs → mean_of xs ≡ Some mean → (row_of_task xs t).is_eligible ≡ nat_le t.v mean

-- if another task differs from the choice only by its id, the choice has the lower id
abbrev pub LowerIdWins : Type 0
LowerIdWins = (discipline : DisciplineName) (xs : List Task) → IfSome ((discipline_of discipline).choice xs) (λ t. IfSome (tied_with discipline t xs) (λ u. t.id < u.id))

-- whether the discipline takes a task for this reason
abbrev pub is_taken : OwnPull → Bool
is_taken Greatest = true
is_taken other = false

-- the discipline takes a task exactly when the form says so
abbrev pub NamesThePull : Type 0
NamesThePull = (puller size other : ℕ) (queue : List Task) → is_taken (own_pull_of size other (length (movable_to puller queue))) ≡ is_some (pull_of puller size other queue)
