-- Where the sink has not enough at the end it got all, and else all or the beginning.
use Rattle.std.proofs.Common.{Bool, subst, sym, ◌∙◌}
use Rattle.bq_trace.specs.TraceEvents.{Gets}
use Rattle.bq_simulate.specs.Simulations.{IsFollowed, with_seed}
use Rattle.bq_simulate.proofs.WholeSimulationLemmas.{followed_whole}
use Rattle.bq_simulate.proofs.whole_simulation.simulate_seed.Goals as goal

pub returns-then-has_enough-clause-enough : goal.returns-then-has_enough-clause-enough
returns-then-has_enough-clause-enough g c =
    let enough = sym c.has_enough.ensures ∙ c.if-has_enough.true in
    let w = with_seed c.args.workload.now c.args.seed in
    λ is. (
      enough,
      subst (λ (b : Bool). Gets g.S.Sink.takes c.args.sink.now c.follow.new.sink (IsFollowed b c.args.policies.now w)) enough
          c.in-Ok.ensures.reported,
    )

pub returns-clause-reported : goal.returns-clause-reported
returns-clause-reported g c =
    followed_whole g.S.Sink.takes _ _ _ c.args.policies.now (with_seed c.args.workload.now c.args.seed)
    (sym c.has_enough.ensures ∙ c.if-has_enough.false) c.in-Ok.ensures.reported
