use Rattle.std.proofs.Common.{[], ◌∷◌, ℕ, Option, refl, ap, sym, ◌∙◌}
use Rattle.std.proofs.lemmas.Result.{err_from_is_err_and}
use Rattle.bq_parts.specs.declared.event.Event.TheVariants.{Block}
use Rattle.bq_workload.specs.Accounts.{accounts_of, left_by}
use Rattle.bq_simulate.specs.Steps.{AreJustEvents}
use Rattle.bq_simulate.proofs.DeedLemmas.{GoesOnBy-event}
use Rattle.bq_simulate.proofs.FallsAsleepLemmas.{block_fails, block_leaves}
use Rattle.bq_simulate.proofs.simulation.Simulation.block.Goals as goal

pub returns-clause-goes_on : goal.returns-clause-goes_on
returns-clause-goes_on g c =
    let stated = c.in_ok-run.ensures.does in
    let was = c.args.self.now.roster in
    let event = Block c.args.processor c.args.now in
    let accounts =
    c.in_ok-leave.ensures.accounts
    ∙ ap (λ (r : Option ℕ). left_by c.args.processor r c.args.now was.periods (accounts_of was)) (sym stated.1) in
    GoesOnBy-event g.S.Sink.takes (AreJustEvents (event ∷ [])) _ _ _ _ event stated.0 (stated.0, [], refl, refl) tt
    (record { agrees = c.in_ok-leave.ensures.agrees; periods = c.in_ok-leave.ensures.periods; seed = refl; streams = refl; firsts = refl })
    stated.2 accounts

-- a block fails only for memory
pub returns-in_err-run-clause-ends : goal.returns-in_err-run-clause-ends
returns-in_err-run-clause-ends g c =
    let p = err_from_is_err_and c.from_residual.result c.from_residual.ensures.1 in
    λ w asleep.
    rw p.1 (p.2 (block_fails w c.args.now c.args.processor c.args.self.now asleep c.in_err-run.field-0.0 c.in_err-run.ensures.fault))

-- a task that blocks leaves
pub returns-in_err-leave-clause-ends : goal.returns-in_err-leave-clause-ends
returns-in_err-leave-clause-ends g c =
    let stated = c.in_ok-run.ensures.does in
    λ w asleep.
    absurd (block_leaves w c.args.now c.args.processor c.args.self.now c.block.new.self c.in_ok-run.run' stated.0
    stated.2.reported asleep stated.1 stated.2.holds c.in_err-leave.ensures.stray)
