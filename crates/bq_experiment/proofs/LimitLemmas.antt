-- What a limit lets through, and when it is passed.
use Rattle.std.proofs.Common.{◌≡◌, ◌+◌, ◌<◌, ◌⊎◌, ℕ, Bool, true, false, true≢false, List, [], ◌∷◌, None, Result, Ok, Err, refl, inl, inr, sym, ap, ◌∙◌, arith}
use Rattle.std.specs.Prelude.{OnOk}
use Rattle.bq_workload.specs.Soundness.{first_flaw}
use Rattle.bq_workload.specs.declared.workload.Workload.{Workload}
use Rattle.bq_simulate.specs.Simulations.{Accepted, IsFollowed}
use Rattle.bq_trace.specs.TraceEvents.{Gets, TraceEvent, TakesAll, Reported}
use Rattle.bq_experiment.specs.Limits.{IsLonger, PassesWithin, event_count, events_in}
use Rattle.bq_experiment.specs.declared.limited.Limited.{Limited}

-- a limit that is passed lets nothing through
pub passes_nothing : {S : Type 0} (takes : S → ℕ → TraceEvent → S → Type 0) (old new : Limited S) (n : ℕ) (traced : TraceEvent)
    → old.is_over ≡ true ⊎ (old.left < event_count traced) → new.sink ≡ old.sink → new.is_over ≡ true → PassesWithin takes old n traced new
passes_nothing takes old new n traced why same over = record {
  within = λ not. absurd (true≢false (sym over ∙ not));
  over = λ h. why;
  nothing = λ h. same;
}

-- what is let through is what its sink takes
pub OnOk-passes : {S T E : Type 0} (takes : S → ℕ → TraceEvent → S → Type 0) (old new : Limited S)
    (n : ℕ) (traced : TraceEvent) (r : Result T E)
    → old.is_over ≡ false → new.is_over ≡ false → old.left ≡ event_count traced + new.left
    → OnOk r (takes old.sink n traced new.sink)
    → OnOk r (PassesWithin takes old n traced new)
OnOk-passes takes old new n traced (Ok x) was is left taken = record {
  within = λ not. (taken, left, was);
  over = λ over. absurd (true≢false (sym over ∙ is));
  nothing = λ over. absurd (true≢false (sym over ∙ is));
}
OnOk-passes takes old new n traced (Err e) was is left taken = tt

-- a limit that is not passed has let all of it through, and that many events fewer are left
pub lets_through : {S : Type 0} (takes : S → ℕ → TraceEvent → S → Type 0) (old new : Limited S) (reported : Reported)
    → TakesAll (PassesWithin takes) old reported new → new.is_over ≡ false
    → TakesAll takes old.sink reported new.sink × (old.left ≡ events_in reported + new.left) × (old.is_over ≡ false)
lets_through {S} takes old new [] h not =
    let same : new.left ≡ old.left = ap (λ (l : Limited S). l.left) h in
    (ap (λ (l : Limited S). l.sink) h, omega (arith, same), sym (ap (λ (l : Limited S). l.is_over) h) ∙ not)
lets_through takes old new ((n, x) ∷ more) h not =
    let rest = lets_through takes h.0 new more h.2 not in
    let here = h.1.within rest.2 in
    let left = here.1 in
    let later = rest.1 in
    ((h.0.sink, here.0, rest.0), omega (arith, left, later), here.2)

-- a limit that is passed got more events than were left
pub more_came : {S : Type 0} (takes : S → ℕ → TraceEvent → S → Type 0) (old new : Limited S) (reported : Reported)
    → TakesAll (PassesWithin takes) old reported new → old.is_over ≡ false → new.is_over ≡ true
    → old.left < events_in reported
more_came {S} takes old new [] h not over = absurd (true≢false (sym over ∙ ap (λ (l : Limited S). l.is_over) h ∙ not))
more_came takes old new ((n, x) ∷ more) h not over = of h.0.is_over refl (λ within. more_came takes h.0 new more h.2 within over)
  where
    of : (b : Bool) → h.0.is_over ≡ b → (h.0.is_over ≡ false → h.0.left < events_in more) → old.left < event_count x + events_in more
    of false is rest =
        let here = (h.1.within is).1 in
        let later = rest is in
        omega (arith, here, later)
    of true is rest = elim (h.1.over is) [
      | inl was ↦ absurd (true≢false (sym was ∙ not))
      | inr few ↦ omega (arith, few)
    ]

-- where a limit is passed, more came than it lets through
pub longer : {S : Type 0} (takes : S → ℕ → TraceEvent → S → Type 0) (old new : Limited S)
    (policies : List Accepted) (w : Workload)
    → first_flaw w ≡ None → old.is_over ≡ false → new.is_over ≡ true
    → Gets (PassesWithin takes) old new (IsFollowed true policies w)
    → IsLonger policies w old.left
longer takes old new policies w sound not over g =
    record { reported = g.reported; sound = sound; followed = g.holds; many = more_came takes old new g.reported g.taken not over }
