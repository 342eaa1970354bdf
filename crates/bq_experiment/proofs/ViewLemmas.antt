-- What a viewer has of a simulation that is reported to it.
use Rattle.std.proofs.Common.{◌≡◌, ◌+◌, ℕ, false, List, [], ◌∷◌, Some, None, Option, inl, inr, sym, ap, ◌∙◌, arith, subst, string_bytes}
use Rattle.std.specs.Prelude.{IfSome}
use Rattle.bq_workload.specs.Soundness.{first_flaw}
use Rattle.bq_workload.specs.declared.sound.Unsound.{Unsound}
use Rattle.bq_workload.specs.declared.workload.Workload.{Workload}
use Rattle.bq_parts.specs.declared.event.Event.{Event}
use Rattle.bq_simulate.specs.Deeds.{events_of}
use Rattle.bq_simulate.specs.Drives.{Drives}
use Rattle.bq_simulate.specs.Faults.{ReportsNoOther, reported_flaw}
use Rattle.bq_simulate.specs.Simulations.{Accepted, IsSimulation}
use Rattle.bq_simulate.specs.declared.driver.Driver.{Driver}
use Rattle.bq_simulate.specs.declared.fault.SimulateFault.{SimulateFault}
use Rattle.bq_timeline.specs.Timelines.{TakesEvent, WatchesEvent}
use Rattle.bq_timeline.specs.Watching.{schedule_after, bad_or_refused_after}
use Rattle.bq_timeline.specs.declared.viewer.Viewer.{Viewer}
use Rattle.bq_timeline.proofs.WatchLemmas.{Watched, bad_or_refused_after-append, watched_all}
use Rattle.bq_trace.specs.TraceEvents.{Gets, TraceEvent, TakesAll, Reported}
use Rattle.bq_experiment.specs.Faults.{IsRunStopped}
use Rattle.bq_experiment.specs.Limits.{PassesWithin, events_in}
use Rattle.bq_experiment.specs.Passing.{TakesAndPasses}
use Rattle.bq_experiment.specs.Views.{IsViewed}
use Rattle.bq_experiment.specs.declared.fault.RunFault.{RunFault}
use Rattle.bq_experiment.specs.declared.fault.RunFault.TheVariants as fault
use Rattle.bq_experiment.specs.declared.offset_viewer.OffsetViewer.{OffsetViewer}
use Rattle.bq_experiment.specs.declared.limited.Limited.{Limited}
use Rattle.bq_experiment.specs.declared.passing.Passing.{Passing}
use Rattle.bq_experiment.proofs.LimitLemmas.{lets_through}
use Rattle.bq_streams.specs.Counts.{counted_inner}

-- a viewer further below takes an event
abbrev pub TakesByOffset : OffsetViewer → ℕ → TraceEvent → OffsetViewer → Type 0
TakesByOffset old n traced new = (new.offset ≡ old.offset) × TakesEvent old.viewer traced new.viewer

-- the text of a viewer that is not written yet
abbrev pub pending : OffsetViewer → List ℕ
pending below = string_bytes below.viewer.screen.text

-- clearing leaves the schedule and the count of lines that were bad or refused
abbrev pub Clears : OffsetViewer → OffsetViewer → Type 0
Clears old new = (new.viewer.schedule ≡ old.viewer.schedule) × (new.viewer.bad_or_refused ≡ old.viewer.bad_or_refused)

-- what it takes its viewer watches, whatever is passed on
keeps_one : (old new : OffsetViewer) (was now : Option (List ℕ)) (n : ℕ) (traced : TraceEvent)
    → TakesAndPasses TakesByOffset pending Clears old was n traced new now
    → WatchesEvent old.viewer traced new.viewer
keeps_one old new was now n traced h = elim h.passed [
  | inl same ↦ (
    ap (λ (l : OffsetViewer). l.viewer.schedule) same.0 ∙ h.taken.1.watches.0,
    ap (λ (l : OffsetViewer). l.viewer.bad_or_refused) same.0 ∙ h.taken.1.watches.1,
  )
  | inr emptied ↦ (emptied.cleared.0 ∙ h.taken.1.watches.0, emptied.cleared.1 ∙ h.taken.1.watches.1)
]

-- all that it takes its viewer watches, whatever is passed on
pub viewer_watches : {P : Type 0} (sink : P → OffsetViewer) (got : P → Option (List ℕ)) (old new : P) (reported : Reported)
    → TakesAll (λ o n x w. TakesAndPasses TakesByOffset pending Clears (sink o) (got o) n x (sink w) (got w)) old reported new
    → TakesAll Watched (sink old).viewer reported (sink new).viewer
viewer_watches {P} sink got old new [] h = ap (λ (p : P). (sink p).viewer) h
viewer_watches sink got old new ((n, traced) ∷ more) h =
    ((sink h.0).viewer, keeps_one (sink old) (sink h.0) (got old) (got h.0) n traced h.1, viewer_watches sink got h.0 new more h.2)

-- events that are done, of which none is refused, add nothing to that count
bad_or_refused_driven : (n : ℕ) (d : Driver) (events : List Event) (reported : Reported) (e : Driver)
    → Drives d events reported e → bad_or_refused_after n reported ≡ n
bad_or_refused_driven n d [] reported e h = ap (bad_or_refused_after n) h.0
bad_or_refused_driven n d (event ∷ events) reported e (reply, mid, first, more, does, drives, whole) =
    ap (bad_or_refused_after n) whole ∙ bad_or_refused_after-append n first more
    ∙ ap (λ k. bad_or_refused_after k more) (ap (bad_or_refused_after n) does.happens.reports)
    ∙ bad_or_refused_driven n mid events more e drives

-- no line of a simulation is bad or refused
bad_or_refused_simulated : (policies : List Accepted) (w : Workload) (reported : Reported)
    → IsSimulation policies w reported → bad_or_refused_after 0 reported ≡ 0
bad_or_refused_simulated policies w reported s =
    ap (bad_or_refused_after 0) s.whole ∙ bad_or_refused_after-append 0 s.first s.more
    ∙ ap (λ k. bad_or_refused_after k s.more) (ap (bad_or_refused_after 0) s.starts.reports)
    ∙ bad_or_refused_driven 0 s.opening (events_of s.deeds) s.more s.closing s.drives

-- where a simulation is refused for the first flaw, no other is reported
pub no_other : (w : Workload) (why : SimulateFault) → reported_flaw why ≡ first_flaw w → ReportsNoOther w why
no_other w why is = of (reported_flaw why) is
  where
    of : (reported : Option Unsound) → reported ≡ first_flaw w → IfSome reported (λ flaw. first_flaw w ≡ Some flaw)
    of None h = tt
    of (Some flaw) h = sym h

-- what holds of a simulation's fault holds of why a run was stopped by it
pub IsStopped-by : (P : SimulateFault → Type 0) (why : SimulateFault) (e : RunFault) (failures : ℕ)
    → P why → IsRunStopped (λ (reported : SimulateFault). reported ≡ why) e failures → IsRunStopped P e failures
IsStopped-by P why (fault.Simulation reported) failures h k = (subst P (sym k.0) h, k.1)
IsStopped-by P why fault.Write failures h k = k
IsStopped-by P why fault.TooManyEvents failures h k = (subst P (sym k.0) h, k.1)

-- a viewer that watched a simulation has viewed it
pub views_simulation : (old new : Viewer) (policies : List Accepted) (w : Workload) (reported : Reported) (event_limit left : ℕ)
    → old.schedule ≡ None → old.bad_or_refused ≡ 0 → first_flaw w ≡ None → TakesAll Watched old reported new
    → IsSimulation policies w reported → event_limit ≡ events_in reported + left
    → IsViewed policies w event_limit new
views_simulation old new policies w reported event_limit left empty zero sound taken simulation limit =
    let all = watched_all old new reported taken in
    record {
      reported = reported;
      sound = sound;
      few = omega (arith, limit);
      simulation = simulation;
      schedule = all.0 ∙ ap (λ s. schedule_after s reported) empty;
      clean = all.1 ∙ ap (λ n. bad_or_refused_after n reported) zero ∙ bad_or_refused_simulated policies w reported simulation;
    }

-- a viewer and what its text is passed on to
abbrev pub ViewedRun : Type 0 → Type 0 → Type 0
ViewedRun W E = Passing OffsetViewer W E

-- the bytes that the output of a viewed run has
abbrev pub got : {W E : Type 0} → (W → Option (List ℕ)) → ViewedRun W E → Option (List ℕ)
got contents run = contents (counted_inner run.output)

-- what it takes, and passes on
abbrev pub TakesRun : {W E : Type 0} → (W → Option (List ℕ)) → ViewedRun W E → ℕ → TraceEvent → ViewedRun W E → Type 0
TakesRun contents old n traced new =
    TakesAndPasses TakesByOffset pending Clears old.sink (got contents old) n traced new.sink (got contents new)

-- where its limit is not passed, the viewer has viewed the simulation that came
pub run_viewed : {W E : Type 0} (contents : W → Option (List ℕ)) (old new : Limited (ViewedRun W E))
    (policies : List Accepted) (w : Workload)
    → Gets (PassesWithin (TakesRun contents)) old new (IsSimulation policies w) → new.is_over ≡ false
    → old.sink.sink.viewer.schedule ≡ None → old.sink.sink.viewer.bad_or_refused ≡ 0 → first_flaw w ≡ None
    → IsViewed policies w old.left new.sink.sink.viewer
run_viewed {W} {E} contents old new policies w g not empty zero sound =
    let through = lets_through (TakesRun contents) old new g.reported g.taken not in
    let taken = viewer_watches (λ (r : ViewedRun W E). r.sink) (got contents) old.sink new.sink g.reported through.0 in
    views_simulation old.sink.sink.viewer new.sink.sink.viewer policies w g.reported old.left new.left
    empty zero sound taken g.holds through.1
