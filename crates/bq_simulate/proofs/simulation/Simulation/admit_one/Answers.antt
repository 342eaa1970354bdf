use Rattle.std.proofs.Common.{[], ◌∷◌, ℕ, ℤ, length, sym, arith, w8, refl, subst, rules}
use Rattle.std.specs.Prelude.{FitsSigned}
use Rattle.std.proofs.lemmas.Int.{to_z-of_z}
use Rattle.bq_parts.specs.declared.event.Event.TheVariants.{Admit}
use Rattle.bq_parts.specs.World.{count_in}
use Rattle.bq_workload.specs.Accounts.{accounts_of}
use Rattle.bq_workload.specs.Soundness.{IsFirstAllowed}
use Rattle.bq_simulate.specs.AgreementLaws.{FailsForMemory}
use Rattle.bq_simulate.specs.Drives.{EventIsDriven, IsDriveFault}
use Rattle.bq_simulate.specs.Steps.{AreJustEvents}
use Rattle.bq_simulate.proofs.CallFaultLemmas.{calls_fail_for_memory}
use Rattle.bq_simulate.proofs.DeedLemmas.{GoesOnBy-event}
use Rattle.bq_simulate.proofs.GoesWellLemmas.{err-by}
use Rattle.bq_simulate.proofs.simulation.Simulation.admit_one.Goals as goal

pub returns-clause-goes_on : goal.returns-clause-goes_on
returns-clause-goes_on g c =
    let takes = g.S.Sink.takes in
    let kind = c.args.kind.now in
    let reply = c.in_ok-admit.ensures.does.0 in
    let event = Admit c.args.task kind.nice kind.mask kind.slice in
    let fits : FitsSigned w8 kind.nice = search rules in
    let did =
    subst (λ (nice : ℤ).
    EventIsDriven takes c.args.sink.now c.args.self.now.driver (Admit c.args.task nice kind.mask kind.slice)
    reply c.admit.new.sink c.admit.new.self) (to_z-of_z w8 kind.nice fits) c.in_ok-admit.ensures.does.1 in
    GoesOnBy-event takes (AreJustEvents (event ∷ [])) _ _ _ _ event reply (reply, [], refl, refl) tt
    (record { agrees = λ h. h; periods = refl; seed = refl; streams = refl; firsts = refl }) did refl

pub returns-in_err-admit-clause-ends : goal.returns-in_err-admit-clause-ends
returns-in_err-admit-clause-ends g c = λ w home opens may.
    let kind = c.args.kind.now in
    let d = c.args.self.now.driver in
    let a = accounts_of c.args.self.now.roster in
    let o = opens.opening in
    let fits : FitsSigned w8 kind.nice = search rules in
    let allowed : IsFirstAllowed (count_in d.machine.world) kind.mask home =
    subst (λ (n : ℕ). IsFirstAllowed n kind.mask home) (sym o.processors_there) may.first in
    let fails : FailsForMemory d (Admit (length a.by_task) kind.nice kind.mask kind.slice) =
    calls_fail_for_memory.admissions d a home kind o.agree
    (record { few = omega (arith, o.tasks_there, may.few); numbers = may.numbers; first = allowed }) in
    let reported =
    subst (λ (nice : ℤ). IsDriveFault d (Admit c.args.task nice kind.mask kind.slice) c.in_err-admit.field-0.0)
    (to_z-of_z w8 kind.nice fits) c.in_err-admit.ensures.fault in
    let why =
    subst (λ (n : ℕ). IsDriveFault d (Admit n kind.nice kind.mask kind.slice) c.in_err-admit.field-0.0)
    (sym o.tasks_there) reported in
    err-by c.from_residual.result c.from_residual.ensures.1 (λ e is. is (fails _ why))
