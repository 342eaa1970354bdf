use Rattle.std.proofs.Common.{◌≡◌, ◌≤◌, ◌<◌, ◌+◌, ◌-◌, ◌^◌, arith, List, [], ◌++◌, Some, ap, length, refl, ◌∙◌, subst, take, take_all}
use Rattle.std.specs.Prelude.{slice_get}
use Rattle.std.proofs.lemmas.Option.{slice_get_read}
use Rattle.bq_parts.specs.declared.event.Event.TheVariants.{Draw}
use Rattle.bq_parts.specs.declared.reply.Reply.TheVariants.{Drawn}
use Rattle.bq_verify.specs.Accepted.{Accepted}
use Rattle.bq_simulate.specs.AgreementLaws.{FailsForMemory}
use Rattle.bq_simulate.specs.Deeds.{Deed}
use Rattle.bq_simulate.specs.Steps.{AreInstalled, AreJustEvents, IsInstalled, installs_of}
use Rattle.bq_simulate.proofs.CallFaultLemmas.{calls_fail_for_memory}
use Rattle.bq_simulate.proofs.DeedLemmas.{GoesOnBy-event, GoesOnBy-join, GoesOnBy-same, GoesOnBy-weaker, OnlyPlansOrCounts-here}
use Rattle.bq_simulate.proofs.DriverGenerationLemmas.{drawn-newer}
use Rattle.bq_simulate.proofs.GoesWellLemmas.{err-by}
use Rattle.bq_simulate.proofs.InstallInTurnLemmas.{AreInstalled-next}
use Rattle.bq_simulate.proofs.OpensWellLemmas.{IsDrawn, draw-opens, installed-well, opens-well}
use Rattle.bq_simulate.proofs.simulation.Simulation.install.Goals as goal

pub policies-preserved : goal.policies-preserved
policies-preserved g c =
    let takes = g.S.Sink.takes in
    let policies : List Accepted = c.args.policies.now in
    let all = c.args.processors in
    let generation = c.in_ok-generation.generation in
    let number = c.policies.policy-index in
    let policy : Accepted = c.policy-item.result in
    let early : number < 2 ^ 64 - 1 = omega (arith, c.policies-test.true) in
    let there : slice_get policies number ≡ Some policy =
    slice_get_read policies _ number policy refl c.policies-test.true c.policy-item.is in
    let drawn =
    GoesOnBy-event takes (IsDrawn generation) _ _ _ _ Draw (Drawn generation) refl tt
    (record { agrees = λ h. h; periods = refl; seed = refl; streams = refl; firsts = refl })
    c.in_ok-generation.ensures.does refl in
    let installs = AreJustEvents (installs_of all generation policy) in
    let one = IsInstalled all policy in
    let both : (xs ys : List Deed) → IsDrawn generation xs → installs ys → one (xs ++ ys) =
    λ xs ys draw install. (generation, ys, ap (λ (l : List Deed). l ++ ys) draw, install) in
    let before = AreInstalled all (take number policies) in
    let after = AreInstalled all (take (number + 1) policies) in
    let more : (xs ys : List Deed) → before xs → one ys → after (xs ++ ys) =
    λ xs ys h k. AreInstalled-next all policies number policy xs ys there h k in
    record {
      goes_on = λ kinds.
          GoesOnBy-join takes kinds before one after more _ _ _ _ _ _ (c.policies.invariant.goes_on kinds)
          (GoesOnBy-join takes kinds (IsDrawn generation) installs one both _ _ _ _ _ _ (drawn kinds)
          (c.in_ok-install_one.ensures.goes_on kinds));
      roster = c.in_ok-install_one.ensures.roster ∙ c.policies.invariant.roster;
      streams = c.in_ok-install_one.ensures.streams ∙ c.policies.invariant.streams;
      firsts = c.in_ok-install_one.ensures.firsts ∙ c.policies.invariant.firsts;
      counts = c.in_ok-install_one.ensures.counts ∙ c.policies.invariant.counts;
      generations = λ none.
          let newer =
          drawn-newer number generation _ _ _ early (c.policies.invariant.generations none)
          c.in_ok-generation.ensures.does.holds in
          c.in_ok-install_one.ensures.generations (number + 1) newer;
    }

pub policies-init : goal.policies-init
policies-init g c = record {
  goes_on = GoesOnBy-same g.S.Sink.takes (AreInstalled c.args.processors []) refl _ _ _ (OnlyPlansOrCounts-here _);
  roster = refl;
  streams = refl;
  firsts = refl;
  counts = refl;
  generations = λ none. none;
}

pub returns-clause-goes_on : goal.returns-clause-goes_on
returns-clause-goes_on g c =
    let policies : List Accepted = c.args.policies.now in
    let all = c.args.processors in
    let number = c.policies.policy-index in
    let late : length policies ≤ number = c.policies-test.false in
    λ kinds.
    GoesOnBy-weaker g.S.Sink.takes kinds (AreInstalled all (take number policies)) (AreInstalled all policies)
    (λ xs are. subst (λ (l : List Accepted). AreInstalled all l xs) (take_all number policies late) are) _ _ _ _
    (c.policies.invariant.goes_on kinds)

pub returns-in_err-generation-clause-ends : goal.returns-in_err-generation-clause-ends
returns-in_err-generation-clause-ends g c = λ w starts all.
    let fails : FailsForMemory c.policies.self.driver Draw = calls_fail_for_memory.draws c.policies.self.driver in
    err-by c.from_residual.result c.from_residual.ensures.1 (λ e is. is (fails _ c.in_err-generation.ensures.fault))

pub returns-in_err-install_one-clause-ends : goal.returns-in_err-install_one-clause-ends
returns-in_err-install_one-clause-ends g c = λ w starts all.
    let takes = g.S.Sink.takes in
    let policies : List Accepted = c.args.policies.now in
    let generation = c.in_ok-generation.generation in
    let number = c.policies.policy-index in
    let early : number < 2 ^ 64 - 1 = omega (arith, c.policies-test.true) in
    let before =
    installed-well takes _ _ w (take number policies) c.args.processors _ c.policies.self all c.policies.invariant.goes_on
    c.policies.invariant.counts starts.opens in
    let drawn =
    GoesOnBy-event takes (IsDrawn generation) _ _ _ _ Draw (Drawn generation) refl tt
    (record { agrees = λ h. h; periods = refl; seed = refl; streams = refl; firsts = refl })
    c.in_ok-generation.ensures.does refl in
    let well =
    opens-well takes (IsDrawn generation) _ _ w 0 0 _ _ (draw-opens w c.policies.self.seed 0 generation) before.counted
    (drawn w.tasks.items) before in
    let newer =
    drawn-newer number generation _ _ _ early (c.policies.invariant.generations starts.generations)
    c.in_ok-generation.ensures.does.holds in
    let wants = c.in_err-install_one.ensures.ends w (number + 1) well newer all in
    err-by c.from_residual-in_err-install_one.result c.from_residual-in_err-install_one.ensures.1 (λ e is. is ∙ wants)
