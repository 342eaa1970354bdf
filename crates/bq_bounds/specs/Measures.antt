-- No measure passes its bound.
use Rattle.std.specs.Prelude.{◌≡◌, ℕ, ◌≤◌, Bool, List, [], ◌∷◌, ◌++◌, Option, Some, IfSome}
use Rattle.bq_disc.specs.Discipline.{Discipline}
use Rattle.bq_disc.specs.OneProcessor.{Running, present_at, charge, rise}
use Rattle.bq_cfs.specs.Cfs.{cfs}
use Rattle.bq_cfs.specs.Spread.{AreTasksSound}
use Rattle.bq_eevdf.specs.Eevdf.{eevdf}
use Rattle.bq_fairness.specs.Steps.{ProcessorStep, Pass, Decide, Enter, Leave, Mark, stepped, after_steps}
use Rattle.bq_hooks.specs.declared.settled.By.TheVariants as who
use Rattle.bq_parts.specs.declared.event.Event.{Event}
use Rattle.bq_parts.specs.declared.reply.Reply.{Reply}
use Rattle.bq_words.specs.declared.discipline_name.DisciplineName.{DisciplineName}
use Rattle.bq_words.specs.declared.discipline_name.DisciplineName.TheVariants.{Cfs, Eevdf}
use Rattle.bq_bounds.specs.declared.charge.Charge.{Charge}
use Rattle.bq_bounds.specs.declared.lags.Effect.TheVariants.{Passes, Decides}
use Rattle.bq_bounds.specs.declared.lags.Lags.{Lags}
use Rattle.bq_bounds.specs.declared.running_task.RunningTask.{RunningTask}
use Rattle.bq_bounds.specs.declared.stretch.Stretch.{Stretch}
use Rattle.bq_bounds.specs.declared.watch.Watch.{Watch}
use Rattle.bq_bounds.specs.Charges.{measured_charge}
use Rattle.bq_bounds.specs.RunningTasks.{IsRunningTask}
use Rattle.bq_bounds.specs.Watches.{read_by, watch_decided, decided_by_event}
use Rattle.bq_bounds.specs.Lags.{beginning, stretched}
use Rattle.bq_bounds.specs.LagWatches.{decided_in, begun_anew, lags_after}
use Rattle.bq_bounds.specs.Nearness.{runs_on, risen_since}
use Rattle.bq_bounds.specs.Owing.{KeepsAll}

-- a measure does not pass its bound
abbrev pub KeepsItsBound : Charge → Type 0
KeepsItsBound c = c.difference ≤ c.bound

-- The charge of the running task at a reading of the clock keeps its bound, if the discipline has decided and the clock was read a few
-- times since. The charge is measured by the clock's rise, its rise since the decision, and the mean that the charge computes
abbrev pub MeasureWithin : DisciplineName → Discipline → Type 0
MeasureWithin discipline d =
    (p : Running) (nows : List ℕ) (now : ℕ) (s : RunningTask) → AreTasksSound p →
    (let q = runs_on d p nows in
    IsRunningTask q.current q.queue (Some s) →
    IfSome (measured_charge discipline s (rise q now) (risen_since d p (nows ++ now ∷ [])) (charge d q now).mark) KeepsItsBound)

-- `MeasureWithin` holds under each discipline
pub record MeasuresWithin : Type 0 where
  pub cfs : MeasureWithin Cfs cfs
  pub eevdf : MeasureWithin Eevdf eevdf

-- a watch of a processor whose clock was read a few times since the discipline decided: it counts the rise since the decision, and the
-- greatest charge that it keeps does not pass its bound
pub record IsWatchOf (d : Discipline) (p : Running) (nows : List ℕ) (w : Watch) : Type 0 where
  pub elapsed : w.elapsed ≡ Some (risen_since d p nows)
  pub greatest : IfSome w.greatest KeepsItsBound

-- `IsWatchOf` still holds after one more reading
abbrev pub WatchWithin : DisciplineName → Discipline → Type 0
WatchWithin discipline d =
    (p : Running) (nows : List ℕ) (now : ℕ) (s : Option RunningTask) (w : Watch) → AreTasksSound p → IsWatchOf d p nows w →
    (let q = runs_on d p nows in
    IsRunningTask q.current q.queue s →
    IsWatchOf d p (nows ++ now ∷ []) (read_by discipline s (rise q now) (charge d q now).mark w))

-- `IsWatchOf` begins at a decision and holds under each discipline; and whatever an event does after its reading, the greatest charge stays
pub record WatchesWithin : Type 0 where
  pub begins : (d : Discipline) (p : Running) (w : Watch) → IfSome w.greatest KeepsItsBound → IsWatchOf d p [] (watch_decided who.Discipline w)
  pub cfs : WatchWithin Cfs cfs
  pub eevdf : WatchWithin Eevdf eevdf
  pub leaves : (e : Event) (r : Reply) (busy : Bool) (w : Watch) → (decided_by_event e r busy w).greatest ≡ w.greatest

-- a stretch after one step: a reading adds the clock's rise, and a decision restarts the count of `since`
abbrev pub stretch_by : Running → ProcessorStep → Stretch → Stretch
stretch_by p (Pass now) s = stretched (rise p now) s
stretch_by p Decide s = decided_in Decides s
stretch_by p (Enter t) s = s
stretch_by p (Leave id) s = s
stretch_by p Mark s = s

-- a stretch after steps, one after another
abbrev pub stretch_after : Running → List ProcessorStep → Stretch → Stretch
stretch_after p [] s = s
stretch_after p (x ∷ xs) s = stretch_after (stepped eevdf p x) xs (stretch_by p x s)

-- the lags of a processor since a stretch began, while no task came or went: the stretch has gone on by these steps, and the greatest
-- lag that is kept does not pass its bound
pub record AreLagsOf (p : Running) (ss : List ProcessorStep) (l : Lags) : Type 0 where
  pub stretch : l.stretch ≡ Some (stretch_after p ss (beginning (present_at p)))
  pub greatest : IfSome l.greatest KeepsItsBound

-- EEVDF: `AreLagsOf` holds when a stretch begins, and after each reading of the clock, with a decision or without
pub record LagsWithin : Type 0 where
  pub begins : (p : Running) (l : Lags) → IfSome l.greatest KeepsItsBound → AreLagsOf p [] (begun_anew (present_at p) l)
  pub passes : (p : Running) (ss : List ProcessorStep) (now : ℕ) (l : Lags) → AreTasksSound p → KeepsAll ss → AreLagsOf p ss l →
      (let q = after_steps eevdf p ss in AreLagsOf p (ss ++ Pass now ∷ []) (lags_after Passes (rise q now) (present_at (stepped eevdf q (Pass now))) l))
  pub decides : (p : Running) (ss : List ProcessorStep) (now : ℕ) (l : Lags) → AreTasksSound p → KeepsAll ss → AreLagsOf p ss l →
      (let q = after_steps eevdf p ss in AreLagsOf p (ss ++ Pass now ∷ Decide ∷ []) (lags_after Decides (rise q now) (present_at (after_steps eevdf q (Pass now ∷ Decide ∷ []))) l))
