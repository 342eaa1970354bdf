-- What the limit lets through is gathered.
use Rattle.std.proofs.Common.{◌≡◌, ◌∙◌, ℕ, [], ap, subst, sym}
use Rattle.bq_schedule.specs.WakeLatencies.{latencies_of}
use Rattle.bq_simulate.specs.Faults.{reported_flaw}
use Rattle.bq_simulate.specs.Simulations.{with_seed}
use Rattle.bq_simulate.specs.declared.fault.SimulateFault.TheVariants.{Enough}
use Rattle.bq_experiment.specs.Limits.{IsLonger}
use Rattle.bq_experiment.proofs.LimitLemmas.{longer}
use Rattle.bq_comparison.specs.Faults.{IsNoRun}
use Rattle.bq_comparison.specs.Gathering.{IsGathered}
use Rattle.bq_comparison.specs.declared.gathering.Gatherer.{Gatherer}
use Rattle.bq_comparison.proofs.GatheringLemmas.{Takes, gathers_simulation}
use Rattle.bq_comparison.proofs.RunLemmas.{refused_is_no_run}
use Rattle.bq_comparison.proofs.gathering.gather.Goals as goal

pub returns-in-Ok-clause-gathered : goal.returns-in-Ok-clause-gathered
returns-in-Ok-clause-gathered c =
    let old = c.new-limited.result in
    let new = c.simulate_seed.new.sink in
    let none = ap (λ (g : Gatherer). g.schedule) c.new-limited.ensures.sink ∙ c.new-gatherer.ensures.schedule in
    let empty : (task : ℕ) → latencies_of old.sink.latencies task ≡ [] =
    λ task.
    ap (λ (g : Gatherer). latencies_of g.latencies task) c.new-limited.ensures.sink ∙ c.new-gatherer.ensures.latencies task in
    let policies = c.args.policies.now in
    let w = with_seed c.args.workload.now c.args.seed in
    let all = gathers_simulation old new policies w none empty c.in-Ok.ensures.reported c.in-Ok.ensures.wants in
    subst (λ (event_limit : ℕ). IsGathered policies w event_limit new.sink.schedule new.sink.latencies) c.new-limited.ensures.left all

-- where the limit was passed, more came
pub returns-in-Err-clause-fault : goal.returns-in-Err-clause-fault
returns-in-Err-clause-fault c =
    let policies = c.args.policies.now in
    let w = with_seed c.args.workload.now c.args.seed in
    let stated = c.in-Err.ensures in
    let more : c.in-Err.fault ≡ Enough → IsLonger policies w c.args.event_limit = λ enough.
    let got = stated.enough enough in
    subst (λ (event_limit : ℕ). IsLonger policies w event_limit) c.new-limited.ensures.left
    (longer Takes c.new-limited.result c.simulate_seed.new.sink policies w (sym stated.flaw ∙ ap reported_flaw enough)
    c.new-limited.ensures.over got.0 got.1) in
    subst (IsNoRun policies w c.args.event_limit) (sym c.from.ensures)
    (refused_is_no_run policies w c.args.event_limit c.in-Err.fault stated.flaw stated.ends more)
