use Rattle.std.proofs.Common.{◌≡◌, ◌≤◌, ◌-◌, ◌^◌, min, Option, sym, subst, ◌∙◌, arith}
use Rattle.bq_bounds.specs.declared.stretch.Stretch.{Stretch}
use Rattle.bq_bounds.specs.declared.lags.Effect.{Effect}
use Rattle.bq_bounds.specs.declared.lags.Effect.TheVariants.{Breaks}
use Rattle.bq_bounds.specs.Glances.{IsGlance, at_most_owed}
use Rattle.bq_bounds.specs.LagWatches.{lags_by}
use Rattle.bq_bounds.proofs.UnchangedLagLemmas.{only_stretch_changes}
use Rattle.bq_bounds.proofs.lags.Lags.take_unseen.Goals as goal

-- the stretch goes on as it would with these tasks
pub returns-clause-done : goal.returns-clause-done
returns-clause-done c = λ xs _ seen.
    let l = c.args.self.now in
    let s = c.in-Some-Some.stretch in
    let effect = c.effect_of-effect.result in
    let goes : effect ≡ Breaks → ⊥ = λ e. grind (arith, e, c.if-effect-eq2.false) in
    let low : min (at_most_owed c.args.glance s) (2 ^ 64 - 1) ≤ c.in-Some-Some.greatest.difference =
    omega (arith, c.at_most_owed.ensures, c.if-at_most_owed-greatest.false) in
    let there = subst (λ (o : Option Stretch). IsGlance c.args.glance o xs) c.in-Some-Some.is-0 seen in
    let same = only_stretch_changes effect c.args.rise c.args.glance s l c.in-Some-Some.greatest xs goes c.in-Some-Some.is-1 low there in
    let by =
    subst (λ (o : Option Stretch). lags_by effect o c.args.rise xs l ≡ c.extend_unseen.new.self) (sym c.in-Some-Some.is-0)
    (same ∙ sym c.extend_unseen.ensures) in
    sym (subst (λ (k : Effect). lags_by k l.stretch c.args.rise xs l ≡ c.extend_unseen.new.self) c.effect_of-effect.ensures by)
