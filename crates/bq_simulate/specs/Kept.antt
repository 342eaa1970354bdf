-- What is kept of a simulation between two things that come due, so that whatever comes next can be done.
use Rattle.std.specs.Prelude.{◌≡◌, ℕ, ◌<◌, ◌≤◌, List, Some, length, slice_get}
use Rattle.bq_disc.specs.declared.limits.TheConstants.{PROCESSORS}
use Rattle.bq_hooks.specs.declared.hook.Hook.{Hook}
use Rattle.bq_installed.specs.Installed.{at_hook}
use Rattle.bq_parts.specs.World.{World, count_in, processor_at}
use Rattle.bq_workload.specs.declared.action.Action.TheVariants.{Wake}
use Rattle.bq_workload.specs.declared.progress.TaskProgress.{TaskProgress}
use Rattle.bq_workload.specs.declared.workload.TaskKind.{TaskKind}
use Rattle.bq_workload.specs.Kinds.{kind_count, tasks_in}
use Rattle.bq_simulate.specs.declared.driver.Driver.{Driver}
use Rattle.bq_simulate.specs.declared.simulation.Simulation.{Simulation}
use Rattle.bq_simulate.specs.Actions.{IsTaskOfKind, action_count, next_action}
use Rattle.bq_simulate.specs.Agreement.{AgreesWith, IsOnTime}
use Rattle.bq_simulate.specs.Deeds.{Book}

-- a task is at one of the actions of its kind; if it wakes others next, its wake has come to fewer than there are
pub record StandsAtAction (kinds : List TaskKind) (task : ℕ) (progress : TaskProgress) : Type 0 where
  pub of_kind : IsTaskOfKind kinds task progress.kind
  pub action : progress.action < action_count kinds progress
  pub woken : (number : ℕ) → next_action kinds progress ≡ Some (Wake number) → progress.woken < kind_count kinds number

-- each task does, and has a stream of its own
pub record StandAtActions (kinds : List TaskKind) (b : Book) : Type 0 where
  pub tasks : (task : ℕ) (progress : TaskProgress) → slice_get b.accounts.by_task task ≡ Some progress → StandsAtAction kinds task progress
  pub streams : length b.drawn ≡ length b.accounts.by_task

-- All that is kept at an instant, once all tasks of these kinds have been admitted: the accounts agree with the machine's world,
-- nothing in them is past, no clock was given a later reading, each task is at an action, and there are 64 processors at most.
pub record IsKept (kinds : List TaskKind) (now : ℕ) (d : Driver) (b : Book) : Type 0 where
  pub agrees : AgreesWith d.machine.world b.accounts
  pub on_time : IsOnTime now b.accounts
  pub read : d.now ≤ now
  pub standing : StandAtActions kinds b
  pub all : length b.accounts.by_task ≡ tasks_in kinds
  pub few : count_in d.machine.world ≤ PROCESSORS

-- the first task of each kind is known
abbrev pub HasAllFirsts : List TaskKind → Simulation → Type 0
HasAllFirsts kinds s = length kinds ≤ length s.firsts.items

-- each generation at a hook was drawn
abbrev pub WereDrawn : World → Type 0
WereDrawn w = (processor : ℕ) (hook : Hook) → (at_hook hook (processor_at w processor).hooks).generation ≤ w.drawn

-- a generation was drawn, and is newer than each one at a hook of the processors from this one on
pub record IsNewerFrom (processor generation : ℕ) (w : World) : Type 0 where
  pub drawn : generation ≤ w.drawn
  pub newer : (other : ℕ) (hook : Hook) → processor ≤ other → (at_hook hook (processor_at w other).hooks).generation < generation
