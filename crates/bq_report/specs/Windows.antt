-- What is shown of a schedule.
use Rattle.std.specs.Prelude.{◌≡◌, ℕ, ◌<◌, ◌≤◌, max, min, ◌⊎◌, [], Contains, Option, Some, None, IsTrue, true}
use Rattle.std.specs.Option.{SomeIff}
use Rattle.bq_disc.specs.declared.limits.TheConstants.{PROCESSORS}
use Rattle.bq_disc.specs.Masks.{allows}
use Rattle.bq_schedule.specs.declared.change.Start.{Start}
use Rattle.bq_schedule.specs.declared.change.Wake.{Wake}
use Rattle.bq_schedule.specs.declared.slice.Slice.{Slice}
use Rattle.bq_schedule.specs.Running.{has_migrated}
use Rattle.bq_report.specs.declared.window.Window.{Window}

-- a processor is in a set that is given by bits
pub record IsProcessorIn (processors p : ℕ) : Type 0 where
  pub is_number : p < PROCESSORS
  pub is_chosen : IsTrue (allows processors p)

-- a processor is shown
abbrev pub ShowsProcessor : Window → ℕ → Type 0
ShowsProcessor w p = IsProcessorIn w.processors p

-- a task is shown: the window names it, or names no task
abbrev pub ShowsTask : Window → ℕ → Type 0
ShowsTask w t = (w.tasks.items ≡ []) ⊎ Contains w.tasks.items t

-- the window shows what happens to a task at a processor at a moment
pub record Shows (w : Window) (p t at : ℕ) : Type 0 where
  pub begun : w.from ≤ at
  pub not_over : at ≤ w.to
  pub processor : ShowsProcessor w p
  pub task : ShowsTask w t

-- the part of a run that is inside the window
abbrev pub part_in_window : Window → Slice → Slice
part_in_window w s = record s { from = max s.from w.from; to = min s.to w.to }

-- a part of a run is shown: it is not empty, and its processor and task are shown
pub record ShowsPart (w : Window) (s : Slice) : Type 0 where
  pub lasts : (part_in_window w s).from < (part_in_window w s).to
  pub processor : ShowsProcessor w s.processor
  pub task : ShowsTask w s.task

-- the part of a slice that is shown, if there is a slice and a part of it is shown
abbrev pub IsShownPart : Window → Option Slice → Option Slice → Type 0
IsShownPart w None part = part ≡ None
IsShownPart w (Some s) part = SomeIff part (ShowsPart w s) (part_in_window w s)

-- a wake is shown if the window shows the moment at which it ended
abbrev pub IsShownWake : Window → Option Wake → Option Wake → Type 0
IsShownWake w None part = part ≡ None
IsShownWake w (Some k) part = SomeIff part (Shows w k.from k.task k.at) k

-- a migration is shown if the window shows the moment at which the task starts running
abbrev pub IsShownMigration : Window → Option Start → Option Start → Type 0
IsShownMigration w None part = part ≡ None
IsShownMigration w (Some s) part = SomeIff part ((has_migrated s ≡ true) × Shows w s.processor s.task s.at) s
