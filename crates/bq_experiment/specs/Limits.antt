-- The number of a machine's events in a run, and what a limit lets through.
use Rattle.std.specs.Prelude.{◌≡◌, ◌⊎◌, ◌<◌, ℕ, ◌+◌, List, [], ◌∷◌, None, true, false}
use Rattle.bq_workload.specs.Soundness.{first_flaw}
use Rattle.bq_workload.specs.declared.workload.Workload.{Workload}
use Rattle.bq_simulate.specs.Simulations.{Accepted, IsFollowed}
use Rattle.bq_trace.specs.TraceEvents.{TraceEvent, Reported, Comes}
use Rattle.bq_experiment.specs.declared.limited.Limited.{Limited}

-- a machine's event that comes counts as one, and nothing else does
abbrev pub event_count : TraceEvent → ℕ
event_count (Comes event m) = 1
event_count traced = 0

-- how many events all of it tells
abbrev pub events_in : Reported → ℕ
events_in [] = 0
events_in ((n, traced) ∷ more) = event_count traced + events_in more

-- While the limit is not passed, the sink takes each event of the trace, and each of the machine's is counted. The limit is passed only by
-- an event for which nothing is left, stays passed, and then lets nothing through.
pub record PassesWithin {S : Type 0} (takes : S → ℕ → TraceEvent → S → Type 0) (old : Limited S) (n : ℕ) (traced : TraceEvent) (new : Limited S) : Type 0 where
  pub within : new.is_over ≡ false → takes old.sink n traced new.sink × (old.left ≡ event_count traced + new.left) × (old.is_over ≡ false)
  pub over : new.is_over ≡ true → (old.is_over ≡ true) ⊎ (old.left < event_count traced)
  pub nothing : new.is_over ≡ true → new.sink ≡ old.sink

-- The workload has no flaw, and a simulation of it with these policies has more events than that, or its beginning has.
pub record IsLonger (policies : List Accepted) (w : Workload) (event_limit : ℕ) : Type 0 where
  pub reported : Reported
  pub sound : first_flaw w ≡ None
  pub followed : IsFollowed true policies w reported
  pub many : event_limit < events_in reported
