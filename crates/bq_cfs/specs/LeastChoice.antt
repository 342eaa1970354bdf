-- The law of the choice: the task of least virtual runtime.
use Rattle.std.specs.Prelude.{◌≡◌, false, List, Contains, IfSome}
use Rattle.bq_disc.specs.Tasks.{Task, runs_before}
use Rattle.bq_cfs.specs.Cfs.{cfs}

-- the choice is one of the given tasks, and none of them comes before it by (v, id)
abbrev pub ChoiceIsLeast : Type 0
ChoiceIsLeast = (xs : List Task) → IfSome (cfs.choice xs) (λ t. Contains xs t × ((u : Task) → Contains xs u → runs_before u t ≡ false))
