use Rattle.std.proofs.Common.{inl, subst, sym, ◌∙◌}
use Rattle.std.proofs.lemmas.Result.{on_ok_weaker}
use Rattle.bq_simulate.specs.GoingWell.{EndsEarly}
use Rattle.bq_simulate.specs.Simulations.{with_seed}
use Rattle.bq_simulate.proofs.GoesWellLemmas.{bound-of-too_many_steps, err-both, err-by, wants-no-end}
use Rattle.bq_simulate.proofs.OpensWellLemmas.{starts-well}
use Rattle.bq_simulate.proofs.WholeSimulationLemmas.{followed-of, is-new, too-long-of}
use Rattle.bq_simulate.proofs.whole_simulation.follow.Goals as goal

pub returns-clause-reported : goal.returns-clause-reported
returns-clause-reported g c =
    let s = c.in_ok-simulation.ensures in
    let w = with_seed c.args.workload.now c.args.seed in
    let new = is-new w _ _ s.driver s.accounts s.periods s.agrees s.seed s.streams s.firsts in
    on_ok_weaker c.run.result
    (λ h. followed-of g.S.Sink.takes g.S.Enough.has_enough _ _ _ c.args.policies.now w _ _ _ c.in_ok-driver.ensures.starts new h)
    c.run.ensures.runs

pub returns-in_err-driver-clause-ends : goal.returns-in_err-driver-clause-ends
returns-in_err-driver-clause-ends g c =
    λ sound. err-by c.from_residual.result c.from_residual.ensures.1 (λ e is. inl (is c.in_err-driver.ensures.fault))

pub returns-in_err-simulation-clause-ends : goal.returns-in_err-simulation-clause-ends
returns-in_err-simulation-clause-ends g c = λ sound.
    err-by c.from_residual-in_err-simulation.result c.from_residual-in_err-simulation.ensures.1
    (λ e is. inl (is ∙ c.in_err-simulation.ensures.ends))

-- nothing of it was done yet
pub returns-clause-ends : goal.returns-clause-ends
returns-clause-ends g c = λ sound.
    let s = c.in_ok-simulation.ensures in
    let w = c.args.workload.now in
    let made = c.in_ok-driver.ensures.starts in
    let new = is-new (with_seed w c.args.seed) _ _ s.driver s.accounts s.periods s.agrees s.seed s.streams s.firsts in
    c.run.ensures.ends (starts-well w c.args.seed _ _ made.reported sound made.holds new s.counts)

pub returns-in_err-driver-clause-too_many_steps : goal.returns-in_err-driver-clause-too_many_steps
returns-in_err-driver-clause-too_many_steps g c = λ sound.
    err-by c.from_residual.result c.from_residual.ensures.1
    (λ e is ends. absurd (wants-no-end (sym (is c.in_err-driver.ensures.fault) ∙ ends)))

pub returns-in_err-simulation-clause-too_many_steps : goal.returns-in_err-simulation-clause-too_many_steps
returns-in_err-simulation-clause-too_many_steps g c = λ sound.
    err-by c.from_residual-in_err-simulation.result c.from_residual-in_err-simulation.ensures.1
    (λ e is ends. absurd (wants-no-end (sym (is ∙ c.in_err-simulation.ensures.ends) ∙ ends)))

-- the bound is more than 64 bits count, and as many things have come due as 64 bits count
pub returns-clause-too_many_steps : goal.returns-clause-too_many_steps
returns-clause-too_many_steps g c = λ sound.
    let s = c.in_ok-simulation.ensures in
    let w = c.args.workload.now in
    let made = c.in_ok-driver.ensures.starts in
    let seeded = with_seed w c.args.seed in
    let new = is-new seeded _ _ s.driver s.accounts s.periods s.agrees s.seed s.streams s.firsts in
    let starts = starts-well w c.args.seed _ _ made.reported sound made.holds new s.counts in
    err-both c.run.result (c.run.ensures.ends starts) (c.run.ensures.too_many_steps starts) (λ e early runs is.
    too-long-of g.S.Sink.takes _ _ _ c.args.policies.now seeded _ _ _ made new
    (bound-of-too_many_steps w (subst (EndsEarly w) is early)) (runs is))
