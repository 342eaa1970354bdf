-- EEVDF keeps the laws of a discipline.
use Rattle.std.specs.Prelude.{◌≡◌, List, Contains, filter, refl}
use Rattle.std.proofs.Common.{ap, ◌∙◌}
use Rattle.bq_disc.specs.Tasks.{Task, first_by}
use Rattle.bq_disc.specs.Dues.{due_before}
use Rattle.bq_disc.specs.Queues.{HasDistinctIds}
use Rattle.bq_disc.specs.Discipline.{IsLawful, SameSet}
use Rattle.bq_disc.specs.Orders.{first_by-member, first_by-exists}
use Rattle.bq_disc.specs.Totals.{total_weight, weighted_sum, is_at_most_mean}
use Rattle.bq_disc.proofs.SetLemmas.{first_by-same, due_before-IsOrder, IfSome-weaker}
use Rattle.bq_disc.proofs.SameSumLemmas.{total_weight-same, weighted_sum-same, Contains-filter, HasDistinctIds-filter, SameSet-filter}
use Rattle.bq_disc.proofs.MeanLemmas.{someone_at_most_mean}
use Rattle.bq_eevdf.specs.Eevdf.{is_eligible, eligible, earliest, eevdf}

same_eligible : (xs ys : List Task) → HasDistinctIds xs → HasDistinctIds ys → SameSet xs ys → eligible xs ≡ filter (is_eligible ys) xs
same_eligible xs ys dx dy s =
    ap (λ w. filter (is_at_most_mean w (weighted_sum xs)) xs) (total_weight-same xs ys dx dy s)
    ∙ ap (λ m. filter (is_at_most_mean (total_weight ys) m) xs) (weighted_sum-same xs ys dx dy s)

same_earliest : (xs ys : List Task) → HasDistinctIds xs → HasDistinctIds ys → SameSet xs ys → earliest xs ≡ earliest ys
same_earliest xs ys dx dy s =
    ap (λ l. first_by due_before l) (same_eligible xs ys dx dy s)
    ∙ first_by-same due_before due_before-IsOrder (filter (is_eligible ys) xs) (eligible ys) (HasDistinctIds-filter (is_eligible ys) xs dx) (HasDistinctIds-filter (is_eligible ys) ys dy) (SameSet-filter (is_eligible ys) xs ys s)

-- EEVDF obeys the laws of a discipline
pub eevdf_lawful : IsLawful eevdf
eevdf_lawful = record {
  exists = λ xs h. first_by-exists due_before (eligible xs) (someone_at_most_mean xs h);
  nobody = refl;
  member = λ xs. IfSome-weaker (earliest xs) (Contains (eligible xs)) (Contains xs) (λ t h. (Contains-filter (is_eligible xs) xs t h).0) (first_by-member due_before (eligible xs));
  same = same_earliest;
}
