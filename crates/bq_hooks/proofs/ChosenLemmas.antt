-- A discipline's choice is found again by its id.
use Rattle.std.proofs.Common.{◌≡◌, ℕ, List, Option, Some, None, subst}
use Rattle.std.specs.Prelude.{Contains, IfSome}
use Rattle.bq_disc.specs.Tasks.{Task, id_of, find_task}
use Rattle.bq_disc.specs.Queues.{HasDistinctIds}
use Rattle.bq_disc.specs.Discipline.{Discipline, IsLawful}
use Rattle.bq_disc.proofs.SetLemmas.{find_task-Contains}

-- a task of a list with distinct ids is found there by its id
of_case : (o : Option Task) (xs : List Task) (id : ℕ) → HasDistinctIds xs → IfSome o (Contains xs) → id_of o ≡ Some id → find_task id xs ≡ o
of_case None xs id d h e = cc
of_case (Some m) xs id d h e =
    let same : m.id ≡ id = cc in
    subst (λ i. find_task i xs ≡ Some m) same (find_task-Contains xs m h.0 d h.1 h.2)

-- a lawful discipline's choice among tasks with distinct ids is found again by its id
pub choice_found : (d : Discipline) (xs : List Task) (id : ℕ)
    → IsLawful d → HasDistinctIds xs → id_of (d.choice xs) ≡ Some id → find_task id xs ≡ d.choice xs
choice_found d xs id l distinct e = of_case (d.choice xs) xs id distinct (l.member xs) e
