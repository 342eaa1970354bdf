-- The ticks at the end of a simulation that goes well.
use Rattle.std.proofs.Common.{◌≡◌, ℕ, suc, ◌≤◌, length, true, List, [], ◌∷◌, None, Some, map, refl, sym, subst, ◌∙◌, arith}
use Rattle.std.specs.Prelude.{slice_get}
use Rattle.std.specs.List.{list_all}
use Rattle.std.proofs.lemmas.Bool.{and_from, le-leb}
use Rattle.bq_parts.specs.declared.event.Event.TheVariants.{Tick}
use Rattle.bq_parts.specs.declared.reply.Reply.{Reply}
use Rattle.bq_parts.specs.World.{World, count_in}
use Rattle.bq_parts.proofs.RefusalLemmas.{accepted, not_refused_is_there}
use Rattle.bq_trace.specs.TraceEvents.{TraceEvent, Reported}
use Rattle.bq_verify.specs.Accepted.{Accepted}
use Rattle.bq_words.specs.Sizes.{processors_in}
use Rattle.bq_workload.specs.declared.progress.TaskProgress.{TaskProgress}
use Rattle.bq_workload.specs.declared.periods.Periods.{Periods}
use Rattle.bq_workload.specs.declared.workload.TaskKind.{TaskKind}
use Rattle.bq_workload.specs.declared.workload.Workload.{Workload}
use Rattle.bq_workload.specs.Accounts.{Accounts, accounts_of}
use Rattle.bq_workload.specs.Next.{NothingComes}
use Rattle.bq_workload.specs.Soundness.{first_flaw}
use Rattle.bq_workload.specs.TaskProgress.{keeps_phase}
use Rattle.bq_simulate.specs.declared.driver.Driver.{Driver}
use Rattle.bq_simulate.specs.declared.simulation.Simulation.{Simulation}
use Rattle.bq_simulate.specs.Agreement.{IsOnTime}
use Rattle.bq_simulate.specs.AgreementLaws.{BookAgrees}
use Rattle.bq_simulate.specs.Deeds.{Book, Deed, DeedsLead, after_answer}
use Rattle.bq_simulate.specs.Drives.{DrivesEvent, runs_now}
use Rattle.bq_simulate.specs.GoingWell.{SimulationGoesWell, HasGoneWell, StartsWell}
use Rattle.bq_simulate.specs.Simulations.{GoesOnBy, HasProceeded, ProceedsIn, book_of, periods_of, with_seed}
use Rattle.bq_simulate.specs.Steps.{AreJustEvents, all_processors, last_ticks}
use Rattle.bq_simulate.proofs.AllIsKeptLemmas.{AreBy, by_kept}
use Rattle.bq_simulate.proofs.GoesWellLemmas.{KeepAll, goes-well, processors_kept}
use Rattle.bq_simulate.proofs.MeetAgreeLemmas.{step_of, tick_agrees, world_of}
use Rattle.bq_simulate.proofs.MirrorLemmas.{state_there}
use Rattle.bq_simulate.proofs.NothingMissedLemmas.{on_time_to_end}
use Rattle.bq_simulate.proofs.OpensWellLemmas.{processors-there}
use Rattle.bq_simulate.proofs.SimulationAgreeLemmas.{none_kept}
use Rattle.bq_simulate.proofs.SoundWorkloadLemmas.{sound_times}
use Rattle.bq_simulate.proofs.StandsAtActionLemmas.{standing_is_kept}
use Rattle.bq_simulate.proofs.StaysOnTimeLemmas.{switched_kept, tasks_run_alone}

-- world and accounts agree, and nothing is past
abbrev Fits : ℕ → Driver → Book → Type 0
Fits now d b = BookAgrees d b × IsOnTime now b.accounts

-- a tick keeps that
tick_fits : (periods : Periods) (d e : Driver) (b : Book) (processor now : ℕ) (reply : Reply) (reported : Reported)
    → 1 ≤ periods.tick → DrivesEvent d (Tick processor now) reply reported e → Fits now d b
    → Fits now e (after_answer periods (Tick processor now) reply b)
tick_fits periods d e b processor now reply reported tick does h =
    let w : World = world_of d in
    let a : Accounts = b.accounts in
    let step = step_of d (Tick processor now) reply reported e does in
    let low = (not_refused_is_there (count_in w) processor _ (accepted w (Tick processor now) step.0).0).0 in
    let there = state_there w a processor h.0.mirrors.processors low in
    let after = tick_agrees periods d e b processor now reply reported does h.0 in (
      after,
      switched_kept periods now processor (runs_now reply) (world_of e) a there.0 tick there.1
          (tasks_run_alone w a processor h.0) after h.1,
    )

-- ticks of some processors keep that phases fit
ticks_fit : (kinds : List TaskKind) (seed : ℕ) (periods : Periods) (d e : Driver) (b c : Book) (now : ℕ) (processors : List ℕ)
    (deeds : List Deed) (reported : Reported)
    → 1 ≤ periods.tick → AreJustEvents (map (λ processor. Tick processor now) processors) deeds
    → DeedsLead kinds seed periods d b deeds reported e c → Fits now d b
    → Fits now e c
ticks_fit kinds seed periods d e b c now [] deeds reported tick none leads h =
    none_kept (Fits now) kinds seed periods d e b c deeds reported none leads h
ticks_fit kinds seed periods d e b c now (processor ∷ processors) deeds reported tick (reply, more, is, just) leads h =
    let (due, mid, first, rest, does, later, whole) = subst (λ l. DeedsLead kinds seed periods d b l reported e c) is leads in
    ticks_fit kinds seed periods mid e (after_answer periods (Tick processor now) reply b) c now processors more rest tick
    just later (tick_fits periods d mid b processor now reply first tick does h)

-- with readings that are no later
ticks_by : (now : ℕ) (processors : List ℕ) (deeds : List Deed)
    → AreJustEvents (map (λ processor. Tick processor now) processors) deeds → AreBy now deeds
ticks_by now [] deeds none = subst (λ l. AreBy now l) (sym none) tt
ticks_by now (processor ∷ processors) deeds (reply, more, is, just) =
    let same : now ≤ now = omega arith in
    subst (λ l. AreBy now l) (sym is) (same, ticks_by now processors more just)

-- ticks of some processors keep all
ticks_keep : (w : Workload) (seed now : ℕ) (processors : List ℕ)
    → first_flaw w ≡ None → KeepAll w seed now (AreJustEvents (map (λ processor. Tick processor now) processors))
ticks_keep w seed now processors sound d e b c deeds reported are leads h =
    let v = with_seed w seed in
    let kinds = w.tasks.items in
    let periods = periods_of v.machine in
    let fit =
    ticks_fit kinds seed periods d e b c now processors deeds reported (sound_times v sound).tick are leads
    (h.agrees, h.on_time) in
    let by = by_kept kinds seed periods d e b c now deeds reported (ticks_by now processors deeds are) leads h.read in
    record {
      agrees = fit.0;
      on_time = fit.1;
      read = by.0;
      standing = standing_is_kept v d e b c deeds reported sound leads h.standing;
      all = by.1 ∙ h.all;
      few = omega (arith, by.2, h.few);
    }

-- a simulation goes on well by ticks of this many processors, and has as many processors as before
pub ticked-well : {S : Type 0} (takes : S → ℕ → TraceEvent → S → Type 0) (x y : S) (w : Workload) (now processors : ℕ)
    (s t : Simulation)
    → GoesOnBy takes w.tasks.items (AreJustEvents (last_ticks now processors)) x s y t → SimulationGoesWell w now s
    → SimulationGoesWell w now t × (length t.roster.by_processor.items ≡ length s.roster.by_processor.items)
ticked-well takes x y w now processors s t goes_on h =
    let g = goes_on h.drawn h.streams h.firsts in
    let well =
    goes-well takes (AreJustEvents (last_ticks now processors)) x y w now s t
    (ticks_keep w s.seed now (all_processors processors) h.sound) goes_on h in
    let still =
    processors_kept w.tasks.items s.seed s.roster.periods s.driver t.driver (book_of s h.drawn) (book_of t g.after) g.deeds
    g.reports.reported g.reports.holds in
    (well, well.kept.agrees.mirrors.processors.many ∙ still ∙ sym h.kept.agrees.mirrors.processors.many)

-- once nothing comes any more it has come to its end
ended-well : (w : Workload) (s : Simulation) → NothingComes s.roster.periods.end (accounts_of s.roster) → HasGoneWell w s
    → SimulationGoesWell w w.machine.duration s
ended-well w s none gone =
    let h = gone.well in
    let k = h.kept in
    let end = w.machine.duration in
    let left = subst (λ (p : Periods). NothingComes p.end (accounts_of s.roster)) h.periods none in
    record {
      sound = h.sound;
      until = omega arith;
      periods = h.periods;
      drawn = h.drawn;
      streams = h.streams;
      firsts = h.firsts;
      all_firsts = h.all_firsts;
      kept = record {
        agrees = k.agrees;
        on_time = on_time_to_end end gone.now (accounts_of s.roster) (sound_times w h.sound).duration h.until left k.on_time;
        read = omega (arith, k.read, h.until);
        standing = k.standing;
        all = k.all;
        few = k.few;
      };
      agreed = h.agreed;
    }

-- and it has as many processors as its workload says
pub came-to-end : {S : Type 0} (takes : S → ℕ → TraceEvent → S → Type 0) (policies : List Accepted) (w : Workload) (x y : S)
    (s t : Simulation)
    → StartsWell w s → HasProceeded takes policies w x s y t → NothingComes t.roster.periods.end (accounts_of t.roster) → HasGoneWell w t
    → SimulationGoesWell w w.machine.duration t × (length t.roster.by_processor.items ≡ processors_in w.machine.size)
came-to-end takes policies w x y s t starts goes_on none gone = (
  ended-well w t none gone,
  gone.well.kept.agrees.mirrors.processors.many
      ∙ processors-there takes (ProceedsIn policies w s.seed s.roster.periods) x y w 0 s t goes_on starts.opens,
)

-- no task has run past its phase
pub keep_phases : (now : ℕ) (a : Accounts) → IsOnTime now a → list_all keeps_phase a.by_task ≡ true
keep_phases now a h = all a.by_task (λ task c at. (h.tasks task c at).phase)
  where
    all : (cs : List TaskProgress) → ((task : ℕ) (c : TaskProgress) → slice_get cs task ≡ Some c → c.got ≤ c.due)
        → list_all keeps_phase cs ≡ true
    all [] each = refl
    all (c ∷ cs) each =
        and_from (keeps_phase c) (list_all keeps_phase cs) (le-leb c.got c.due (each 0 c refl))
        (all cs (λ task k at. each (suc task) k at))
