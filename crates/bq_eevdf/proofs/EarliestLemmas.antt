-- The choice of EEVDF is the earliest of the eligible.
use Rattle.std.proofs.Common.{◌≡◌, false, List, Option, Some, None}
use Rattle.std.specs.Prelude.{Contains, IfSome, IsTrue}
use Rattle.bq_disc.specs.Tasks.{Task}
use Rattle.bq_disc.specs.Dues.{due_before}
use Rattle.bq_disc.specs.Orders.{first_by-member}
use Rattle.bq_disc.proofs.SetLemmas.{first_by-least, due_before-IsOrder}
use Rattle.bq_disc.proofs.SameSumLemmas.{Contains-filter, filter-Contains}
use Rattle.bq_eevdf.specs.Eevdf.{eligible, earliest, is_eligible}
use Rattle.bq_eevdf.specs.EarliestChoice.{ChoiceIsEarliest}

-- t is one of the tasks and eligible, and no eligible one is due before it
abbrev IsEarliest : List Task → Task → Type 0
IsEarliest xs t =
    Contains xs t × IsTrue (is_eligible xs t) × ((u : Task) → Contains xs u → IsTrue (is_eligible xs u) → due_before u t ≡ false)

-- of the eligible: one of them, before which none of them comes
of_eligible : (xs : List Task) (o : Option Task) → IfSome o (Contains (eligible xs))
    → IfSome o (λ t. (u : Task) → Contains (eligible xs) u → due_before u t ≡ false)
    → IfSome o (IsEarliest xs)
of_eligible xs None h k = tt
of_eligible xs (Some t) h k =
    let c = Contains-filter (is_eligible xs) xs t h in
    (c.0, c.1, λ u m e. k u (filter-Contains (is_eligible xs) xs u m.0 m.1 m.2 e))

-- it is an eligible member, and no eligible member comes before it
pub choice_is_earliest : ChoiceIsEarliest
choice_is_earliest xs =
    of_eligible xs (earliest xs) (first_by-member due_before (eligible xs))
    (first_by-least due_before due_before-IsOrder (eligible xs))
