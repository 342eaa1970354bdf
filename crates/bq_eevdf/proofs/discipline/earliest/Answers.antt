use Rattle.std.proofs.Common.{◌≡◌, true, Some, ap, ◌∙◌}
use Rattle.bq_disc.specs.Chains.{task_of}
use Rattle.bq_disc.specs.Totals.{is_at_most_mean}
use Rattle.bq_disc.specs.Dues.{earliest_of}
use Rattle.bq_eevdf.proofs.EevdfLawLemmas.{earliest_with}
use Rattle.bq_eevdf.proofs.discipline.earliest.Goals as goal

pub returns : goal.returns
returns g c =
    let t = task_of c.in-Some.node.now in
    let xs = g.T.TaskOrder.tasks c.args.queue.now in
    let all = c.considered-all.result in
    let sums = rw c.in-Some.is at (c.considered-all.ensures.sums xs c.totals.ensures.sums) in
    let here : is_at_most_mean all.weight all.moment t ≡ true = cc in
    let due = c.earliest.ensures ∙ ap (λ d. earliest_of d c.earliest_at_most_mean-queued.result) c.due.ensures in
    rw c.in-Some.is
    (ap (λ d. Some d) due ∙ earliest_with t xs all c.earliest_at_most_mean-queued.result sums here c.earliest_at_most_mean-queued.ensures)
