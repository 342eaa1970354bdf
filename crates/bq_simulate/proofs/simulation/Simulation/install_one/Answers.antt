use Rattle.std.proofs.Common.{◌≡◌, ◌+◌, ◌<◌, ℕ, List, [], ◌∷◌, ◌++◌, Some, refl, sym, ap, ◌∙◌, subst, arith}
use Rattle.bq_hooks.specs.declared.hook.Hook.{Hook}
use Rattle.bq_parts.specs.declared.event.Event.{Event}
use Rattle.bq_parts.specs.declared.event.Event.TheVariants.{Install}
use Rattle.bq_verify.specs.Accepted.{Accepted}
use Rattle.bq_parts.specs.World.{count_in}
use Rattle.bq_workload.specs.Accounts.{accounts_of}
use Rattle.bq_simulate.specs.AgreementLaws.{FailsForMemory}
use Rattle.bq_simulate.specs.Deeds.{Deed}
use Rattle.bq_simulate.specs.Drives.{IsDriveFault}
use Rattle.bq_simulate.specs.Steps.{AreJustEvents, installs_of}
use Rattle.bq_simulate.proofs.CallFaultLemmas.{calls_fail_for_memory}
use Rattle.bq_simulate.proofs.DeedLemmas.{GoesOnBy-drove, GoesOnBy-join, GoesOnBy-same, GoesOnBy-weaker, OnlyPlansOrCounts-here}
use Rattle.bq_simulate.proofs.DriverGenerationLemmas.{installed-newer}
use Rattle.bq_simulate.proofs.DueInOrderLemmas.{AreJustEvents-join}
use Rattle.bq_simulate.proofs.GoesWellLemmas.{err-by}
use Rattle.bq_simulate.proofs.InstallInTurnLemmas.{installs_more}
use Rattle.bq_simulate.proofs.OpensWellLemmas.{installs-open, opens-well}
use Rattle.bq_simulate.proofs.simulation.Simulation.install_one.Goals as goal

pub processors-preserved : goal.processors-preserved
processors-preserved g c =
    let takes = g.S.Sink.takes in
    let policy = c.args.policy.now in
    let count = c.processors.processor in
    let generation = c.args.generation in
    let event = Install count c.hook.result generation (Some c.in_ok-copy.copy) in
    let same : event ≡ Install count policy.hook generation (Some policy) =
    ap (λ (h : Hook). Install count h generation (Some c.in_ok-copy.copy)) c.hook.ensures
    ∙ ap (λ (p : Accepted). Install count policy.hook generation (Some p)) c.in_ok-copy.ensures.cases in
    let installed =
    GoesOnBy-drove takes (AreJustEvents (event ∷ [])) _ _ _ _ event (λ reply. (reply, [], refl, refl)) tt
    (record { agrees = λ h. h; periods = refl; seed = refl; streams = refl; firsts = refl })
    (λ reply a. refl) c.in_ok-install.ensures.does refl in
    let before = installs_of count generation policy in
    let after = installs_of (count + 1) generation policy in
    let events : before ++ event ∷ [] ≡ after = ap (λ (e : Event). before ++ e ∷ []) same ∙ sym (installs_more count generation policy) in
    let join : (xs ys : List Deed) → AreJustEvents before xs → AreJustEvents (event ∷ []) ys → AreJustEvents after (xs ++ ys) =
    λ xs ys h k. subst (λ (l : List Event). AreJustEvents l (xs ++ ys)) events (AreJustEvents-join before (event ∷ []) xs ys h k) in
    record {
      goes_on = λ kinds.
          GoesOnBy-join takes kinds (AreJustEvents before) (AreJustEvents (event ∷ [])) (AreJustEvents after) join _ _ _ _ _ _
          (c.processors.invariant.goes_on kinds) (installed kinds);
      roster = c.processors.invariant.roster;
      streams = c.processors.invariant.streams;
      firsts = c.processors.invariant.firsts;
      counts = c.processors.invariant.counts;
      generations = λ all drawn newer.
          let before = c.processors.invariant.generations all drawn newer in
          installed-newer all count generation c.hook.result (Some c.in_ok-copy.copy) _ _ _ before.0
          before.1 c.in_ok-install.ensures.does.holds;
    }

pub processors-init : goal.processors-init
processors-init g c = record {
  goes_on = GoesOnBy-same g.S.Sink.takes (AreJustEvents []) refl _ _ _ (OnlyPlansOrCounts-here _);
  roster = refl;
  streams = refl;
  firsts = refl;
  counts = refl;
  generations = λ all drawn newer. (drawn, newer);
}

pub returns-clause-goes_on : goal.returns-clause-goes_on
returns-clause-goes_on g c =
    let all : c.processors.processor ≡ c.args.processors = omega (arith, c.processors-test.false, c.processors.auto.processor-end) in
    let installs : ℕ → List Deed → Type 0 = λ n. AreJustEvents (installs_of n c.args.generation c.args.policy.now) in
    λ kinds.
    GoesOnBy-weaker g.S.Sink.takes kinds (installs c.processors.processor) (installs c.args.processors)
    (λ xs are. subst (λ (n : ℕ). installs n xs) all are) _ _ _ _ (c.processors.invariant.goes_on kinds)

pub returns-clause-generations : goal.returns-clause-generations
returns-clause-generations g c = λ count newer. (c.processors.invariant.generations count newer.0 newer.1).0

pub returns-in_err-install-clause-ends : goal.returns-in_err-install-clause-ends
returns-in_err-install-clause-ends g c = λ w drawn opens newer all.
    let policy = c.args.policy.now in
    let count = c.processors.processor in
    let generation = c.args.generation in
    let here = c.processors.self in
    let left = (c.processors.invariant.generations drawn newer.0 newer.1).1 in
    let well =
    opens-well g.S.Sink.takes _ _ _ w 0 0 _ _ (installs-open w c.args.self.now.seed 0 count generation policy)
    (ap (λ k. k.tasks) c.processors.invariant.counts ∙ opens.counted) (c.processors.invariant.goes_on w.tasks.items) opens in
    let low : count < count_in here.driver.machine.world = omega (arith, c.processors-test.true, all, well.opening.processors_there) in
    let fails : FailsForMemory here.driver (Install count policy.hook generation (Some policy)) =
    calls_fail_for_memory.installs here.driver (accounts_of here.roster) count generation policy well.opening.agree low
    (left.newer count policy.hook (omega arith)) left.drawn in
    let event = Install count c.hook.result generation (Some c.in_ok-copy.copy) in
    let same : event ≡ Install count policy.hook generation (Some policy) =
    ap (λ (h : Hook). Install count h generation (Some c.in_ok-copy.copy)) c.hook.ensures
    ∙ ap (λ (p : Accepted). Install count policy.hook generation (Some p)) c.in_ok-copy.ensures.cases in
    let why = subst (λ (e : Event). IsDriveFault here.driver e c.in_err-install.field-0.0) same c.in_err-install.ensures.fault in
    err-by c.from_residual-in_err-install.result c.from_residual-in_err-install.ensures.1 (λ e is. is (fails _ why))
