use Rattle.std.proofs.Common.{[], ◌∷◌, ℕ, Option, refl, ap, sym, ◌∙◌}
use Rattle.std.proofs.lemmas.Result.{err_from_is_err_and}
use Rattle.bq_parts.specs.declared.event.Event.TheVariants.{Tick}
use Rattle.bq_workload.specs.Accounts.{accounts_of, accounts_switched}
use Rattle.bq_simulate.specs.Steps.{AreJustEvents}
use Rattle.bq_simulate.proofs.DeedLemmas.{GoesOnBy-event}
use Rattle.bq_simulate.proofs.NoStrayCallLemmas.{tick_fails, tick_switches}
use Rattle.bq_simulate.proofs.simulation.Simulation.tick.Goals as goal

pub returns-clause-goes_on : goal.returns-clause-goes_on
returns-clause-goes_on g c =
    let stated = c.in_ok-run.ensures.does in
    let was = c.args.self.now.roster in
    let event = Tick c.args.processor c.args.now in
    let accounts =
    c.in_ok-switch.ensures.accounts
    ∙ ap (λ (r : Option ℕ). accounts_switched c.args.processor r c.args.now was.periods (accounts_of was)) (sym stated.1) in
    GoesOnBy-event g.S.Sink.takes (AreJustEvents (event ∷ [])) _ _ _ _ event stated.0 (stated.0, [], refl, refl) tt
    (record {
      agrees = c.in_ok-switch.ensures.agrees;
      periods = c.in_ok-switch.ensures.periods;
      seed = refl;
      streams = refl;
      firsts = refl;
    }) stated.2 accounts

-- a tick fails only for memory
pub returns-in_err-run-clause-ends : goal.returns-in_err-run-clause-ends
returns-in_err-run-clause-ends g c =
    let p = err_from_is_err_and c.from_residual.result c.from_residual.ensures.1 in
    λ w well few.
    rw p.1
    (p.2 (tick_fails w c.args.now c.args.self.now c.args.processor well few c.in_err-run.field-0.0 c.in_err-run.ensures.fault))

-- after a tick no switch goes astray
pub returns-in_err-switch-clause-ends : goal.returns-in_err-switch-clause-ends
returns-in_err-switch-clause-ends g c =
    let stated = c.in_ok-run.ensures.does in
    λ w well few.
    absurd (tick_switches w c.args.now c.args.self.now c.tick.new.self c.args.processor c.in_ok-run.run' stated.0
    stated.2.reported well few stated.1 stated.2.holds c.in_err-switch.ensures.stray)
