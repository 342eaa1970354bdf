-- When the first of some tasks is due: its deadline, with one more task.
use Rattle.std.proofs.Common.{◌≡◌, true, false, cond, List, ◌∷◌, Option, Some, None, refl, ap}
use Rattle.std.specs.Option.{option_map}
use Rattle.bq_disc.specs.Tasks.{Task, first_by, former}
use Rattle.bq_disc.specs.Dues.{due_of, first_due, earliest_of, due_before}

-- the deadline of the former of two tasks is the earlier of their deadlines
due_of_former : (x : Task) (o : Option Task) → due_of (former due_before x o) ≡ earliest_of (due_of x) (option_map due_of o)
due_of_former x None = refl
due_of_former x (Some y) =
    elim (due_before y x) as (λ b. due_of (cond b y x) ≡ cond b (due_of y) (due_of x)) [
      | true ↦ refl
      | false ↦ refl
    ]

-- with one more task
pub first_due-cons : (x : Task) (xs : List Task) → first_due (x ∷ xs) ≡ Some (earliest_of (due_of x) (first_due xs))
first_due-cons x xs = ap (λ d. Some d) (due_of_former x (first_by due_before xs))

pub ruleset due_facts = (first_due-cons)
