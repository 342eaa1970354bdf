use Rattle.std.proofs.Common.{◌≡◌, [], ◌∷◌, Option, ℕ, is_some, length, true, false, true≢false, refl, sym, ap, ◌∙◌, arith}
use Rattle.std.proofs.lemmas.Option.{none-some, slice_get_within}
use Rattle.std.proofs.lemmas.Result.{on_ok_weaker}
use Rattle.bq_workload.specs.Accounts.{Accounts, accounts_of}
use Rattle.bq_workload.specs.declared.due.Due.TheVariants as due
use Rattle.bq_parts.specs.declared.event.Event.TheVariants.{Tick}
use Rattle.bq_simulate.specs.declared.simulation.Simulation.{Simulation}
use Rattle.bq_simulate.specs.Deeds.{is_busy}
use Rattle.bq_simulate.specs.Steps.{AreJustEvents, DeedsMeet}
use Rattle.bq_simulate.proofs.AccountsReadLemmas.{changed_at-length}
use Rattle.bq_simulate.proofs.AllProcessorsLemmas.{busy_at}
use Rattle.bq_simulate.proofs.BeatAndLookLemmas.{beats, ticks_busy, well_beaten}
use Rattle.bq_simulate.proofs.ComesDueLemmas.{ticks_now}
use Rattle.bq_simulate.proofs.DeedLemmas.{GoesOnForAnyKinds-beats}
use Rattle.bq_simulate.proofs.simulation.Simulation.tick_on_time.Goals as goal

pub returns-clause-goes_on : goal.returns-clause-goes_on
returns-clause-goes_on g c =
    let beats = c.in_ok-beat.ensures in
    let here : Simulation = record c.args.self.now { roster = c.beat.new.self } in
    let processor = c.args.processor in
    let now = c.args.now in
    let busy : is_busy (accounts_of c.args.self.now.roster) processor ≡ true =
    busy_at processor (accounts_of c.args.self.now.roster) c.in_ok-processor_state.processor_state
    c.in_ok-processor_state.ensures.there ∙ ap (λ (o : Option ℕ). is_some o) c.in-Some.is in
    let tick = AreJustEvents (Tick processor now ∷ []) in
    on_ok_weaker c.tick.result (λ h.
    GoesOnForAnyKinds-beats g.S.Sink.takes tick (DeedsMeet (due.Tick processor) now) _ _ c.args.self.now here _ processor now beats.due busy
    (record { agrees = beats.agrees; periods = beats.periods; seed = refl; streams = refl; firsts = refl }) refl
    beats.accounts (λ deeds are. (deeds, refl, are)) h) c.tick.ensures.goes_on

-- a clock that beats goes well
pub returns-clause-ends : goal.returns-clause-ends
returns-clause-ends g c =
    let beat = c.in_ok-beat.ensures in
    let states = c.args.self.now.roster.by_processor.items in
    let there = slice_get_within states c.args.processor c.in_ok-processor_state.processor_state c.in_ok-processor_state.ensures.there in
    let many : length c.beat.new.self.by_processor.items ≡ length states =
    ap (λ (a : Accounts). length a.by_processor) beat.accounts ∙ changed_at-length _ states c.args.processor in
    λ w well next.
    c.tick.ensures.ends w
    (well_beaten w c.args.now c.args.self.now c.beat.new.self c.args.processor well beat.due beat.periods beat.accounts beat.agrees)
    (omega (arith, there, many))

-- the processor is there
pub returns-in_err-processor_state-clause-ends : goal.returns-in_err-processor_state-clause-ends
returns-in_err-processor_state-clause-ends g c =
    λ w well next.
    let ticks = ticks_now w.machine.duration c.args.processor c.args.now (accounts_of c.args.self.now.roster) next.comes in
    absurd (none-some ticks.processor_state (sym c.in_err-processor_state.ensures.missing ∙ ticks.at))

-- something runs at a processor whose clock beats
pub returns-in_default-clause-ends : goal.returns-in_default-clause-ends
returns-in_default-clause-ends g c =
    λ w well next.
    let a = accounts_of c.args.self.now.roster in
    let ticks = ticks_now w.machine.duration c.args.processor c.args.now a next.comes in
    let idle : is_busy a c.args.processor ≡ false =
    busy_at c.args.processor a c.in_ok-processor_state.processor_state c.in_ok-processor_state.ensures.there
    ∙ ap (λ (o : Option ℕ). is_some o) c.in_default.is in
    absurd (true≢false (sym (ticks_busy w c.args.now c.args.self.now c.args.processor well ticks) ∙ idle))

-- its clock beats
pub returns-in_err-beat-clause-ends : goal.returns-in_err-beat-clause-ends
returns-in_err-beat-clause-ends g c =
    λ w well next.
    absurd (beats w c.args.now c.args.self.now c.args.processor well
    (ticks_now w.machine.duration c.args.processor c.args.now (accounts_of c.args.self.now.roster) next.comes)
    c.in_err-beat.ensures.stray)
