-- EEVDF: the task that runs after a decision is eligible, and so after a Tick.
use Rattle.std.proofs.Common.{Some, ◌≡◌, true, ap, ◌∙◌}
use Rattle.bq_disc.specs.Totals.{total_weight, weighted_sum, is_at_most_mean}
use Rattle.bq_disc.specs.OneProcessor.{present_at, charge}
use Rattle.bq_disc.proofs.SetLemmas.{IfSome-weaker}
use Rattle.bq_eevdf.specs.Eevdf.{eevdf, is_eligible, earliest}
use Rattle.bq_fairness.specs.Steps.{Decide, stepped}
use Rattle.bq_fairness.specs.EevdfFairness.{DecideRunsEligible, TickRunsEligible}
use Rattle.bq_fairness.proofs.TickLemmas.{charged_distinct}
use Rattle.bq_fairness.proofs.SumLemmas.{total_weight-decided, weighted_sum-decided}
use Rattle.bq_fairness.proofs.EligibleLemmas.{runs_earliest, earliest_is_eligible}

-- under EEVDF the task that runs after a decision is eligible: it is the earliest, and a decision leaves the mean
pub decide_runs_eligible : DecideRunsEligible
decide_runs_eligible p d =
    let q = stepped eevdf p Decide in
    IfSome-weaker q.current (λ t. earliest (present_at p) ≡ Some t) (λ t. is_eligible (present_at q) t ≡ true)
    (λ t h.
    ap (λ n. is_at_most_mean n (weighted_sum (present_at q)) t) (total_weight-decided eevdf p)
    ∙ ap (λ n. is_at_most_mean (total_weight (present_at p)) n t) (weighted_sum-decided eevdf p)
    ∙ earliest_is_eligible (present_at p) t d h) (runs_earliest p d)

-- under EEVDF the task that runs after a Tick is eligible
pub tick_runs_eligible : TickRunsEligible
tick_runs_eligible p now s = decide_runs_eligible (charge eevdf p now) (charged_distinct eevdf p now s.distinct)
