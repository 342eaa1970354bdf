use Rattle.std.proofs.Common.{[], ◌∷◌, ℕ, Option, None, Some, refl, subst, ap, ◌∙◌, arith, length}
use Rattle.std.proofs.lemmas.Option.{slice_get_within}
use Rattle.bq_workload.specs.Accounts.{Accounts, accounts_of}
use Rattle.bq_simulate.proofs.AccountsReadLemmas.{changed_at-length}
use Rattle.std.proofs.lemmas.Result.{on_ok_weaker}
use Rattle.bq_workload.specs.declared.due.Due.TheVariants as due
use Rattle.bq_workload.specs.Dues.{IsSource}
use Rattle.bq_parts.specs.declared.event.Event.TheVariants.{Pull}
use Rattle.bq_simulate.specs.declared.simulation.Simulation.{Simulation}
use Rattle.bq_simulate.specs.Steps.{AreJustEvents, DeedsMeet}
use Rattle.bq_simulate.proofs.BeatAndLookLemmas.{looks, well_looked}
use Rattle.bq_simulate.proofs.ComesDueLemmas.{looks_now, pulls_from}
use Rattle.bq_simulate.proofs.DeedLemmas.{GoesOnForAnyKinds-looks, GoesOnBy-same, OnlyPlansOrCounts-here}
use Rattle.bq_simulate.proofs.simulation.Simulation.look_for_pull.Goals as goal

pub returns-in-Some-clause-goes_on : goal.returns-in-Some-clause-goes_on
returns-in-Some-clause-goes_on g c =
    let looks = c.in_ok-source.ensures in
    let was = c.args.self.now in
    let here : Simulation = record was { roster = c.look.new.self } in
    let processor = c.args.processor in
    let now = c.args.now in
    let from = c.in-Some.from in
    let source = subst (λ (o : Option ℕ). IsSource was.roster.by_processor.items processor o) c.in-Some.is looks.source in
    on_ok_weaker c.pull_from.result
    (λ h.
    GoesOnForAnyKinds-looks g.S.Sink.takes (AreJustEvents (Pull processor from now ∷ []))
    (DeedsMeet (due.Look processor) now) _ _ was here _ processor now (Some from) looks.due source
    (record { agrees = looks.agrees; periods = looks.periods; seed = refl; streams = refl; firsts = refl }) refl
    looks.accounts (λ deeds are. (Some from, deeds, refl, are)) h) c.pull_from.ensures.goes_on

pub returns-in-None-clause-goes_on : goal.returns-in-None-clause-goes_on
returns-in-None-clause-goes_on g c =
    let looks = c.in_ok-source.ensures in
    let was = c.args.self.now in
    let here : Simulation = record was { roster = c.look.new.self } in
    let processor = c.args.processor in
    let now = c.args.now in
    let source = subst (λ (o : Option ℕ). IsSource was.roster.by_processor.items processor o) c.in-None.is looks.source in
    GoesOnForAnyKinds-looks g.S.Sink.takes (AreJustEvents []) (DeedsMeet (due.Look processor) now) _ _ was here _ processor now None looks.due
    source (record { agrees = looks.agrees; periods = looks.periods; seed = refl; streams = refl; firsts = refl })
    refl looks.accounts (λ deeds are. (None, deeds, refl, are))
    (GoesOnBy-same g.S.Sink.takes (AreJustEvents []) refl _ here here (OnlyPlansOrCounts-here here))

-- a look goes well
pub returns-in_err-source-clause-ends : goal.returns-in_err-source-clause-ends
returns-in_err-source-clause-ends g c =
    λ w well next.
    absurd (looks w c.args.now c.args.self.now c.args.processor well
    (looks_now w.machine.duration c.args.processor c.args.now (accounts_of c.args.self.now.roster) next.comes)
    c.in_err-source.ensures.stray)

-- what a look finds is another processor
pub returns-in-Some-clause-ends : goal.returns-in-Some-clause-ends
returns-in-Some-clause-ends g c =
    let looks = c.in_ok-source.ensures in
    let was = c.args.self.now in
    let here = c.look.new.self in
    let processor = c.args.processor in
    let source = subst (λ (o : Option ℕ). IsSource was.roster.by_processor.items processor o) c.in-Some.is looks.source in
    let other = pulls_from was.roster.by_processor.items processor c.in-Some.from source in
    let many = ap (λ (a : Accounts). length a.by_processor) looks.accounts ∙ changed_at-length _ was.roster.by_processor.items processor in
    let there = slice_get_within was.roster.by_processor.items processor looks.due.processor_state looks.due.at in
    λ w well next.
    c.pull_from.ensures.ends w (well_looked w c.args.now was here processor well looks.periods looks.accounts looks.agrees)
    (omega (arith, there, many), omega (arith, other.0, many), other.1)
