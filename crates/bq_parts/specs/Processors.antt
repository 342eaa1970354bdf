-- A processor as the world sees it: who runs and waits there, the task in its hand, and what is installed at its hooks.
use Rattle.std.specs.Prelude.{◌≡◌, ℕ, ◌+◌, ◌≤◌, List, [], ◌∷◌, ◌++◌, length, slice_index_or, Option, None, if◌then◌else◌}
use Rattle.std.specs.Option.{option_map, option_to_list}
use Rattle.bq_disc.specs.declared.limits.TheConstants.{TASKS}
use Rattle.bq_disc.specs.Tasks.{Task, has_id}
use Rattle.bq_disc.specs.OneProcessor.{Running, at_rest, present_at}
use Rattle.bq_hooks.specs.declared.hook.Hook.{Hook}
use Rattle.bq_installed.specs.Installed.{InstalledFacts, HooksFacts, new_hooks, with_installed}
use Rattle.bq_parts.specs.declared.carried.Carried.{Carried}

-- a processor: its tasks, the woken task that it is to place, and what is installed at its hooks
pub record Processor : Type 0 where
  pub running : Running
  pub hand : Option Carried
  pub hooks : HooksFacts

-- a processor to which nothing has come, with nothing installed
abbrev pub new_processor : Processor
new_processor = record { running = at_rest; hand = None; hooks = new_hooks }

-- the processor with this in place of what is installed at a hook
abbrev pub with_at_hook : Hook → Processor → InstalledFacts → Processor
with_at_hook hook p installed = record p { hooks = with_installed hook p.hooks installed }

-- the task in a processor's hand, if any
abbrev pub in_hand : Processor → List Task
in_hand p = option_to_list (option_map (λ (c : Carried). c.task) p.hand)

-- all tasks that a processor has, the one in its hand included
abbrev pub held_by : Processor → List Task
held_by p = present_at p.running ++ in_hand p

-- size: how many tasks run or wait in the queue
abbrev pub size_of : Processor → ℕ
size_of p = length (present_at p.running)

-- load: the size, and the tasks of the inbox
abbrev pub load_of : Processor → List Task → ℕ
load_of p inbox = size_of p + length inbox

-- all tasks that run or wait at two of these processors
abbrev pub present_at_both : List Processor → ℕ → ℕ → List Task
present_at_both ps processor from = present_at (slice_index_or ps processor new_processor).running ++ present_at (slice_index_or ps from new_processor).running

-- how many of the tasks have this id
abbrev pub count_of_id : ℕ → List Task → ℕ
count_of_id id [] = 0
count_of_id id (x ∷ xs) = (if has_id id x then 1 else 0) + count_of_id id xs

-- no two of the tasks share an id
abbrev pub HasEachOnce : List Task → Type 0
HasEachOnce xs = (id : ℕ) → count_of_id id xs ≤ 1

-- each id is below TASKS
abbrev pub HasIdsBelowTasks : List Task → Type 0
HasIdsBelowTasks xs = (id : ℕ) → TASKS ≤ id → count_of_id id xs ≡ 0
