-- A measure by which the loop ends: a bound on how many things can still come due at the present instant, by the accounts. Each
-- thing that is done lowers it by at least one, and it is always below `steps_at_once`.
use Rattle.std.specs.Prelude.{ℕ, suc, ◌+◌, ◌-◌, ◌*◌, ◌==◌, Bool, if◌then◌else◌, nat_le, List, [], ◌∷◌, ◌++◌, Some, drop, slice_get, sum_by}
use Rattle.std.specs.Option.{option_map_or}
use Rattle.bq_workload.specs.declared.action.Action.{Action}
use Rattle.bq_workload.specs.declared.action.Action.TheVariants.{Run, Sleep, Wait, Wake}
use Rattle.bq_workload.specs.declared.processor_state.ProcessorState.{ProcessorState}
use Rattle.bq_workload.specs.declared.progress.TaskProgress.{TaskProgress}
use Rattle.bq_workload.specs.declared.progress.TaskState.{TaskState}
use Rattle.bq_workload.specs.declared.progress.TaskState.TheVariants.{Asleep, Waiting, Runnable, Over}
use Rattle.bq_workload.specs.declared.workload.TaskKind.{TaskKind}
use Rattle.bq_workload.specs.Accounts.{Accounts, is_same}
use Rattle.bq_workload.specs.Kinds.{kind_count}

-- how many steps a list of actions takes up to its first run or sleep, and with that one. A wake takes a step for each task
-- that it wakes; of the first wake `woken` steps are done
abbrev pub steps_until : List TaskKind → ℕ → List Action → ℕ
steps_until kinds woken [] = 0
steps_until kinds woken (Run asked ∷ actions) = 1
steps_until kinds woken (Sleep asked ∷ actions) = 1
steps_until kinds woken (Wait ∷ actions) = 1 + steps_until kinds 0 actions
steps_until kinds woken (Wake kind ∷ actions) = (kind_count kinds kind - woken) + steps_until kinds 0 actions

-- what tasks of the kind of this number do
abbrev pub kind_actions : List TaskKind → ℕ → List Action
kind_actions kinds number = option_map_or (λ (kind : TaskKind). kind.actions.items) (slice_get kinds number) []

-- the rest of a task's actions in this round, and then all of them again
abbrev pub actions_ahead : List TaskKind → TaskProgress → List Action
actions_ahead kinds progress = drop progress.action (kind_actions kinds progress.kind) ++ kind_actions kinds progress.kind

-- how many steps a task takes before its next action that takes time
abbrev pub steps_ahead : List TaskKind → TaskProgress → ℕ
steps_ahead kinds progress = steps_until kinds progress.woken (actions_ahead kinds progress)

-- for how long a task has run at a processor since its time was counted last
abbrev pub uncounted_at : ℕ → ℕ → ProcessorState → ℕ
uncounted_at now task state = if is_same state.run (Some task) then now - state.since else 0

-- for how long a task has run at all processors since its time was counted last
abbrev pub uncounted : ℕ → List ProcessorState → ℕ → ℕ
uncounted now by_processor task = sum_by (uncounted_at now task) by_processor

-- the most steps of a task at this instant, by its state, whether its timer rings now, whether nothing is left of its phase, and
-- how many steps it takes before one that takes time. Each step may leave a processor idle, which then looks for a task; so may
-- the timer.
abbrev pub left_in : TaskState → Bool → Bool → ℕ → ℕ
left_in Asleep rings done steps = if rings then 2 + steps * 2 else 0
left_in Waiting rings done steps = steps * 2
left_in Runnable rings done steps = if done then steps * 2 else 0
left_in Over rings done steps = 0

-- the most steps that a task takes at this instant
abbrev pub left_of_task : List TaskKind → ℕ → List ProcessorState → ℕ → TaskProgress → ℕ
left_of_task kinds now by_processor task progress = left_in progress.task_state (progress.timer == now) (nat_le progress.due (progress.got + uncounted now by_processor task)) (steps_ahead kinds progress)

-- the most steps of a processor at this instant: a tick, after which it may look for a task; or a look
abbrev pub left_of_processor : ℕ → ProcessorState → ℕ
left_of_processor now state = if is_same state.tick (Some now) then 2 else if is_same state.look (Some now) then 1 else 0

-- a sum over all tasks, each with its number
abbrev pub in_all : (ℕ → TaskProgress → ℕ) → List TaskProgress → ℕ
in_all f [] = 0
in_all f (progress ∷ more) = f 0 progress + in_all (λ task. f (suc task)) more

-- the most steps that all tasks and processors take at this instant
abbrev pub steps_left_at : List TaskKind → ℕ → Accounts → ℕ
steps_left_at kinds now a = in_all (left_of_task kinds now a.by_processor) a.by_task + sum_by (left_of_processor now) a.by_processor
