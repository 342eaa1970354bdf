-- The choice of CFS is the task of least (v, id).
use Rattle.std.proofs.Common.{◌≡◌, false, Option, Some, None}
use Rattle.std.specs.Prelude.{Contains, IfSome}
use Rattle.bq_disc.specs.Tasks.{Task, runs_before}
use Rattle.bq_disc.specs.Orders.{first_by-member}
use Rattle.bq_disc.proofs.SetLemmas.{first_by-least, runs_before-IsOrder}
use Rattle.bq_cfs.specs.Cfs.{least}
use Rattle.bq_cfs.specs.LeastChoice.{ChoiceIsLeast}

-- two things that hold of a task, if there is one, hold of it together
both : (o : Option Task) (P Q : Task → Type 0) → IfSome o P → IfSome o Q → IfSome o (λ t. P t × Q t)
both None P Q h k = tt
both (Some t) P Q h k = (h, k)

-- it is a member, and no member comes before it
pub choice_is_least : ChoiceIsLeast
choice_is_least xs =
    both (least xs) (Contains xs) (λ t. (u : Task) → Contains xs u → runs_before u t ≡ false) (first_by-member runs_before xs)
    (first_by-least runs_before runs_before-IsOrder xs)
