-- The law of the choice: the eligible task of earliest deadline.
use Rattle.std.specs.Prelude.{◌≡◌, false, List, Contains, IfSome, IsTrue}
use Rattle.bq_disc.specs.Tasks.{Task}
use Rattle.bq_disc.specs.Dues.{due_before}
use Rattle.bq_eevdf.specs.Eevdf.{eevdf, is_eligible}

-- the choice is one of the given tasks and eligible, and none of the eligible ones comes before it by (deadline, id)
abbrev pub ChoiceIsEarliest : Type 0
ChoiceIsEarliest =
    (xs : List Task) →
    IfSome (eevdf.choice xs) (λ t. Contains xs t × IsTrue (is_eligible xs t) × ((u : Task) → Contains xs u → IsTrue (is_eligible xs u) → due_before u t ≡ false))
