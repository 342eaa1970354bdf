use Rattle.std.proofs.Common.{[], ◌∷◌, ℕ, inl, inr, Option, refl, ap, sym, ◌∙◌}
use Rattle.std.proofs.lemmas.Result.{err_from_is_err_and}
use Rattle.bq_parts.specs.declared.event.Event.TheVariants.{Pull}
use Rattle.bq_simulate.specs.Deeds.{accounts_pulled}
use Rattle.bq_simulate.specs.Drives.{runs_now}
use Rattle.bq_workload.specs.Accounts.{Accounts, accounts_of, accounts_switched}
use Rattle.bq_simulate.specs.Steps.{AreJustEvents}
use Rattle.bq_simulate.proofs.DeedLemmas.{GoesOnBy-event}
use Rattle.bq_simulate.proofs.NoStrayCallLemmas.{pull_fails, pull_passes, pull_switches}
use Rattle.bq_simulate.proofs.simulation.Simulation.pull_from.Goals as goal

pub returns-clause-goes_on : goal.returns-clause-goes_on
returns-clause-goes_on g c =
    let stated = c.in_ok-moved.ensures.does in
    let was = c.args.self.now.roster in
    let event = Pull c.args.processor c.args.from c.args.now in
    let moved : Option ℕ → Accounts = λ o. accounts_pulled c.args.from c.args.processor o (accounts_of was) in
    let runs = ap (λ (r : Option ℕ). accounts_switched c.args.processor r c.args.now was.periods (moved c.in_ok-moved.moved.task)) (sym stated.1) in
    let takes = ap (λ (o : Option ℕ). accounts_switched c.args.processor (runs_now stated.0) c.args.now was.periods (moved o)) (sym stated.2) in
    GoesOnBy-event g.S.Sink.takes (AreJustEvents (event ∷ [])) _ _ _ _ event stated.0 (stated.0, [], refl, refl) tt
    (record {
      agrees = c.in_ok-record_pull.ensures.agrees;
      periods = c.in_ok-record_pull.ensures.periods;
      seed = refl;
      streams = refl;
      firsts = refl;
    }) stated.3 (c.in_ok-record_pull.ensures.accounts ∙ runs ∙ takes)

-- a pull fails only for memory
pub returns-in_err-moved-clause-ends : goal.returns-in_err-moved-clause-ends
returns-in_err-moved-clause-ends g c =
    let p = err_from_is_err_and c.from_residual.result c.from_residual.ensures.1 in
    λ w well two.
    rw p.1 (p.2 (pull_fails w c.args.now c.args.self.now c.args.processor c.args.from well two.0 two.1 two.2
    c.in_err-moved.field-0.0 c.in_err-moved.ensures.fault))

-- a pull can be recorded
pub returns-in_err-record_pull-clause-ends : goal.returns-in_err-record_pull-clause-ends
returns-in_err-record_pull-clause-ends g c =
    let stated = c.in_ok-moved.ensures.does in
    let was = c.args.self.now in
    let here = c.pull.new.self in
    let now = c.args.now in
    λ w well two. elim c.in_err-record_pull.ensures.stray [
      | inl astray ↦
          absurd (pull_passes w now was here c.args.processor c.args.from c.in_ok-moved.moved.task stated.0 stated.3.reported
          well two.0 two.2 stated.2 stated.3.holds astray.0 astray.1)
      | inr astray ↦
          absurd (pull_switches w now was here c.args.processor c.args.from c.in_ok-moved.moved.task c.in_ok-moved.moved.run
          stated.0 stated.3.reported well two.0 stated.1 stated.2 stated.3.holds astray)
    ]
