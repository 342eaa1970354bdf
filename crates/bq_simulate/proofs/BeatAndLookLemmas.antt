-- While a simulation goes well, clocks beat and processors look as they are to, and it goes well after that.
use Rattle.std.proofs.Common.{◌≡◌, ℕ, ◌<◌, ◌≤◌, inl, inr, true, Option, Some, refl, sym, subst, ap, ◌∙◌, arith}
use Rattle.std.specs.Prelude.{is_some, slice_get}
use Rattle.std.proofs.lemmas.Option.{none-some, slice_get_within}
use Rattle.bq_workload.specs.declared.processor_state.ProcessorState.{ProcessorState}
use Rattle.bq_workload.specs.declared.roster.Roster.{Roster}
use Rattle.bq_workload.specs.declared.workload.Workload.{Workload}
use Rattle.bq_workload.specs.Accounts.{Accounts, LooksAt, TicksAt, accounts_of, beaten, looked, of_processor}
use Rattle.bq_workload.specs.Dues.{next_multiple}
use Rattle.bq_workload.specs.Next.{StaysAgreed}
use Rattle.bq_workload.specs.Strays.{IsStrayBeat, IsStrayLook}
use Rattle.bq_workload.proofs.ListLemmas.{some_or_none}
use Rattle.bq_simulate.specs.declared.simulation.Simulation.{Simulation}
use Rattle.bq_simulate.specs.Agreement.{IsOnTime, ProcessorIsOnTime}
use Rattle.bq_simulate.specs.Deeds.{is_busy}
use Rattle.bq_simulate.specs.Kept.{IsKept}
use Rattle.bq_simulate.specs.GoingWell.{SimulationGoesWell}
use Rattle.bq_simulate.proofs.AllProcessorsLemmas.{busy_at}
use Rattle.bq_simulate.proofs.MeetAgreeLemmas.{agrees_processor, world_of}
use Rattle.bq_simulate.proofs.NoStrayCallLemmas.{well_looks, well_there, well_ticks}
use Rattle.bq_simulate.proofs.SoundWorkloadLemmas.{sound_times}
use Rattle.bq_simulate.proofs.StaysOnTimeLemmas.{beaten_kept, looked_kept}

-- a simulation of which only a processor's times change goes well as before, where nothing is past
well_timed : (f : ProcessorState → ProcessorState) → ((l : ProcessorState) → (f l).run ≡ l.run)
    → ((l : ProcessorState) → (f l).size ≡ l.size) → (w : Workload) (now : ℕ) (s : Simulation) (r : Roster) (processor : ℕ)
    → SimulationGoesWell w now s → r.periods ≡ s.roster.periods → accounts_of r ≡ of_processor f processor (accounts_of s.roster)
    → StaysAgreed s.roster r → IsOnTime now (of_processor f processor (accounts_of s.roster))
    → SimulationGoesWell w now (record s { roster = r })
well_timed f run size w now s r processor h periods is agrees time =
    let b : Accounts = of_processor f processor (accounts_of s.roster) in
    let k = h.kept in
    let kept : IsKept w.tasks.items now s.driver (record { accounts = b; drawn = h.drawn }) = record {
      agrees = agrees_processor f run size (world_of s.driver) (accounts_of s.roster) processor k.agrees;
      on_time = time;
      read = k.read;
      standing = record { tasks = k.standing.tasks; streams = k.standing.streams };
      all = k.all;
      few = k.few;
    } in
    record {
      sound = h.sound;
      until = h.until;
      periods = periods ∙ h.periods;
      drawn = h.drawn;
      streams = h.streams;
      firsts = h.firsts;
      all_firsts = h.all_firsts;
      kept = subst (λ (a : Accounts). IsKept w.tasks.items now s.driver (record { accounts = a; drawn = h.drawn })) (sym is) kept;
      agreed = agrees h.agreed;
    }

-- a processor of the accounts is one of 64
low_there : (w : Workload) (now : ℕ) (s : Simulation) (processor : ℕ) (l : ProcessorState)
    → SimulationGoesWell w now s → slice_get s.roster.by_processor.items processor ≡ Some l → processor < 64
low_there w now s processor l h at =
    omega (arith, well_there w now s processor h (slice_get_within s.roster.by_processor.items processor l at), h.kept.few)

-- Ticks

-- a processor that ticks now runs something
pub ticks_busy : (w : Workload) (now : ℕ) (s : Simulation) (processor : ℕ)
    → SimulationGoesWell w now s → TicksAt (accounts_of s.roster) processor now
    → is_busy (accounts_of s.roster) processor ≡ true
ticks_busy w now s processor h ticks =
    let l : ProcessorState = ticks.processor_state in
    let p : ProcessorIsOnTime now s.roster.by_task.items l = h.kept.on_time.processors processor l ticks.at in
    busy_at processor (accounts_of s.roster) l ticks.at ∙ elim (some_or_none l.run) [
      | inl none ↦ absurd (none-some now (sym (p.rests none) ∙ ticks.tick))
      | inr (task, runs) ↦ ap (λ (o : Option ℕ). is_some o) runs
    ]

-- the beat of a clock that ticks now is no stray one
pub beats : (w : Workload) (now : ℕ) (s : Simulation) (processor : ℕ)
    → SimulationGoesWell w now s → TicksAt (accounts_of s.roster) processor now
    → IsStrayBeat processor now s.roster.periods.tick (accounts_of s.roster)
    → ⊥
beats w now s processor h ticks (inl never) = never ticks
beats w now s processor h ticks (inr (inl high)) = omega (arith, high, low_there w now s processor ticks.processor_state h ticks.at)
beats w now s processor h ticks (inr (inr late)) = well_ticks w now s h late

-- after a clock has beaten the simulation goes well
pub well_beaten : (w : Workload) (now : ℕ) (s : Simulation) (r : Roster) (processor : ℕ)
    → SimulationGoesWell w now s → TicksAt (accounts_of s.roster) processor now → r.periods ≡ s.roster.periods
    → accounts_of r ≡ beaten processor now s.roster.periods.tick (accounts_of s.roster) → StaysAgreed s.roster r
    → SimulationGoesWell w now (record s { roster = r })
well_beaten w now s r processor h ticks periods is agrees =
    let tick : ℕ = s.roster.periods.tick in
    let some : 1 ≤ tick = omega (arith, ap (λ p. p.tick) h.periods, (sound_times w h.sound).tick) in
    well_timed (λ l. record l { tick = Some (next_multiple tick now) })
    (λ l. refl) (λ l. refl) w now s r processor h periods is agrees
    (beaten_kept now processor tick (accounts_of s.roster) some (ticks_busy w now s processor h ticks) h.kept.on_time)

-- Looks

-- a processor that is to look does so
pub looks : (w : Workload) (now : ℕ) (s : Simulation) (processor : ℕ)
    → SimulationGoesWell w now s → LooksAt (accounts_of s.roster) processor now
    → IsStrayLook processor now s.roster.periods.balance (accounts_of s.roster)
    → ⊥
looks w now s processor h looks_then (inl never) = never looks_then
looks w now s processor h looks_then (inr (inl high)) =
    omega (arith, high, low_there w now s processor looks_then.processor_state h looks_then.at)
looks w now s processor h looks_then (inr (inr late)) = well_looks w now s h late

-- after a processor has looked the simulation goes well
pub well_looked : (w : Workload) (now : ℕ) (s : Simulation) (r : Roster) (processor : ℕ)
    → SimulationGoesWell w now s → r.periods ≡ s.roster.periods
    → accounts_of r ≡ looked processor now s.roster.periods.balance (accounts_of s.roster) → StaysAgreed s.roster r
    → SimulationGoesWell w now (record s { roster = r })
well_looked w now s r processor h periods is agrees =
    let balance : ℕ = s.roster.periods.balance in
    let some : 1 ≤ balance = omega (arith, ap (λ p. p.balance) h.periods, (sound_times w h.sound).balance) in
    well_timed (λ l. record l { look = Some (next_multiple balance now) }) (λ l. refl) (λ l. refl) w now s r processor h
    periods is agrees (looked_kept now processor balance (accounts_of s.roster) some h.kept.on_time)
