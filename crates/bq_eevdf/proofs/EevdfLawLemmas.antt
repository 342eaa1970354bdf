-- The member of least v is eligible; and when the first eligible task is due.
use Rattle.std.proofs.Common.{◌≡◌, true, List, ◌∷◌, filter, Option, Some, refl, ap, sym, ◌∙◌}
use Rattle.bq_disc.specs.Tasks.{Task}
use Rattle.bq_disc.specs.Totals.{sums_of, is_at_most_mean}
use Rattle.bq_disc.specs.Dues.{due_of, first_due, earliest_of}
use Rattle.bq_disc.specs.declared.deadline.Deadline.{Deadline}
use Rattle.bq_disc.specs.declared.totals.Totals.{Totals}
use Rattle.bq_disc.proofs.DueLemmas.{first_due-cons}
use Rattle.bq_eevdf.specs.Eevdf.{is_eligible, eligible}
use Rattle.bq_disc.proofs.MeanLemmas.{least_at_most_mean}
use Rattle.bq_eevdf.specs.Eligibility.{LeastIsEligible}

-- of some tasks the one of least v is eligible
pub least_is_eligible : LeastIsEligible
least_is_eligible xs t c h = least_at_most_mean xs t h

-- when the first eligible task is due, where one more that is eligible is considered
pub earliest_with : (t : Task) (xs : List Task) (all : Totals) (queued : Option Deadline)
    → all ≡ sums_of (t ∷ xs) → is_at_most_mean all.weight all.moment t ≡ true
    → queued ≡ first_due (filter (is_at_most_mean all.weight all.moment) xs)
    → Some (earliest_of (due_of t) queued) ≡ first_due (eligible (t ∷ xs))
earliest_with t xs all queued sums here first =
    let test = rw sums at here in
    let rest = rw sums at first in
    let kept : eligible (t ∷ xs) ≡ t ∷ filter (is_eligible (t ∷ xs)) xs = rw test refl in
    sym (ap first_due kept ∙ first_due-cons t (filter (is_eligible (t ∷ xs)) xs) ∙ ap (λ o. Some (earliest_of (due_of t) o)) (sym rest))
