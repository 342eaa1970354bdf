-- A simulation that came to its end has a schedule.
use Rattle.std.proofs.Common.{true≢false, subst, sym}
use Rattle.std.specs.Prelude.{IsSome}
use Rattle.bq_simulate.specs.Simulations.{with_seed}
use Rattle.bq_comparison.proofs.GatheringLemmas.{schedule_gathered}
use Rattle.bq_comparison.proofs.seeds.run.Goals as goal

pub returns-clause-fault : goal.returns-clause-fault
returns-clause-fault c =
    let e = c.args.experiment.now in
    let g = c.in_ok-gathered.gathered in
    let there =
    schedule_gathered e.policies.now (with_seed e.workload.now c.args.seed) e.event_limit g.schedule
    g.latencies c.in_ok-gathered.ensures.gathered in
    absurd (true≢false (sym (subst IsSome c.in-None.is there)))
