-- What a task does next, and what becomes of it with that.
use Rattle.std.specs.Prelude.{◌≡◌, ℕ, ◌+◌, ◌-◌, ◌^◌, ◌≤◌, ◌<◌, if◌then◌else◌, nat_lt, List, Option, Some, None, length, slice_get, min, sum_by, take, option_and_then}
use Rattle.std.specs.Option.{option_map_or}
use Rattle.rand_pcg.specs.Lcg.{Lcg}
use Rattle.bq_workload.specs.declared.action.Action.{Action}
use Rattle.bq_workload.specs.declared.action.Action.TheVariants.{Run, Sleep, Wait, Wake}
use Rattle.bq_workload.specs.declared.action.Length.{Length}
use Rattle.bq_workload.specs.declared.workload.TaskKind.{TaskKind}
use Rattle.bq_workload.specs.Draws.{length_drawn}
use Rattle.bq_workload.specs.Streams.{stream_of_task, first_word, second_word, after_draws}
use Rattle.bq_workload.specs.Accounts.{is_same}
use Rattle.bq_workload.specs.declared.progress.TaskProgress.{TaskProgress}
use Rattle.bq_workload.specs.declared.progress.TaskState.{TaskState}
use Rattle.bq_workload.specs.declared.progress.TaskState.TheVariants.{Asleep, Waiting, Over}
use Rattle.bq_workload.specs.TaskProgress.{advanced, phase_begun}
use Rattle.bq_workload.specs.Kinds.{kind_count}
use Rattle.bq_simulate.specs.declared.acting.Doing.{Doing}

-- the action that a task does next; none if it has done all of them as often as it is to
abbrev pub action_at : TaskKind → TaskProgress → Option Action
action_at kind progress = if is_same kind.loops (Some progress.loops) then None else slice_get kind.actions.items progress.action

-- the action that a task does next, by the kinds of all tasks
abbrev pub next_action : List TaskKind → TaskProgress → Option Action
next_action kinds progress = option_and_then (λ kind. action_at kind progress) (slice_get kinds progress.kind)

-- how many actions it goes through
abbrev pub action_count : List TaskKind → TaskProgress → ℕ
action_count kinds progress = option_map_or (λ (kind : TaskKind). length kind.actions.items) (slice_get kinds progress.kind) 0

-- when the timers of a kind first wake its tasks
abbrev pub kind_start : List TaskKind → ℕ → ℕ
kind_start kinds number = option_map_or (λ (kind : TaskKind). kind.start) (slice_get kinds number) 0

-- running and sleeping take a length
abbrev pub asked_by : Option Action → Option Length
asked_by (Some (Run asked)) = Some asked
asked_by (Some (Sleep asked)) = Some asked
asked_by action = None

-- the length that a stream gives next, for what is asked for
abbrev pub next_length : Length → Lcg → ℕ
next_length asked g = length_drawn asked (first_word g) (second_word g)

-- the length of a task, after this many others, for what is asked for
abbrev pub length_of_draw : ℕ → ℕ → ℕ → Length → ℕ
length_of_draw seed task others asked = next_length asked (after_draws others (stream_of_task seed task))

-- a task has done its action, and comes to the next
abbrev pub advanced_in : List TaskKind → TaskProgress → TaskProgress
advanced_in kinds progress = advanced (action_count kinds progress) progress

-- one more task of the kind has been woken; after the last one the waker goes on to its next action
abbrev pub woken_one_in : List TaskKind → ℕ → TaskProgress → TaskProgress
woken_one_in kinds kind progress = if nat_lt (progress.woken + 1) (kind_count kinds kind) then record progress { woken = progress.woken + 1 } else advanced_in kinds progress

-- a task has no phase, and sleeps
abbrev pub resting : TaskState → TaskProgress → TaskProgress
resting task_state progress = record (phase_begun 0 progress) { task_state = task_state }

-- a task sleeps until its timer wakes it after this length, as far as 64 bits count
abbrev pub asleep_for : ℕ → ℕ → TaskProgress → TaskProgress
asleep_for length now progress = record (resting Asleep progress) { timer = min (now + length) (2 ^ 64 - 1) }

-- a task takes up the action at an instant; `length` is how long it lasts, if it is a run or a sleep. Only a task that runs has
-- a phase afterwards
abbrev pub acted : List TaskKind → Option Action → ℕ → ℕ → TaskProgress → TaskProgress
acted kinds None length now progress = resting Over progress
acted kinds (Some (Run asked)) length now progress = phase_begun length (advanced_in kinds progress)
acted kinds (Some (Sleep asked)) length now progress = asleep_for length now (advanced_in kinds progress)
acted kinds (Some Wait) length now progress = resting Waiting (advanced_in kinds progress)
acted kinds (Some (Wake kind)) length now progress = phase_begun 0 (woken_one_in kinds kind progress)

-- how many tasks have kinds before this one
abbrev pub first_task_of : List TaskKind → ℕ → ℕ
first_task_of kinds number = sum_by (λ (kind : TaskKind). kind.count) (take number kinds)

-- the task to which a wake comes next, if the action is a wake: the first of its kind, and then one after another
abbrev pub aim_of : List TaskKind → TaskProgress → Option Action → Option ℕ
aim_of kinds progress (Some (Wake kind)) = Some (first_task_of kinds kind + progress.woken)
aim_of kinds progress action = None

-- the task to which the wake of a task comes next, if its next action is a wake
abbrev pub wake_target : List TaskKind → TaskProgress → Option ℕ
wake_target kinds progress = aim_of kinds progress (next_action kinds progress)

-- the task to which the wake comes of one that does this
abbrev pub aim_in : List TaskKind → Doing → Option ℕ
aim_in kinds doing = aim_of kinds doing.progress_before doing.action

-- a task is of the kind with this number: its tasks follow the tasks of the kinds before it
pub record IsTaskOfKind (kinds : List TaskKind) (task number : ℕ) : Type 0 where
  pub kind : TaskKind
  pub there : slice_get kinds number ≡ Some kind
  pub from : first_task_of kinds number ≤ task
  pub below : task < first_task_of kinds number + kind.count
