-- How far a task has come: its actions and rounds, its run phase, its timer.
use Rattle.std.specs.Prelude.{ℕ, ◌+◌, ◌-◌, ◌^◌, ◌==◌, Bool, true, false, not, ◌&&◌, if◌then◌else◌, min, nat_le, nat_lt}
use Rattle.bq_workload.specs.declared.progress.TaskProgress.{TaskProgress}
use Rattle.bq_workload.specs.declared.progress.TaskState.{TaskState}
use Rattle.bq_workload.specs.declared.progress.TaskState.TheVariants.{Asleep, Runnable}

-- a task that has done nothing, and sleeps until its timer wakes it first
abbrev pub fresh_task : ℕ → ℕ → ℕ → TaskProgress
fresh_task kind home start = record { kind = kind; action = 0; woken = 0; loops = 0; task_state = Asleep; timer = start; due = 0; got = 0; home = home; has_run = false }

-- a task has done one of this many actions, and comes to the next; after the last it comes to the first again, and its rounds
-- are counted as far as 64 bits count
abbrev pub advanced : ℕ → TaskProgress → TaskProgress
advanced actions progress =
    if nat_le actions (progress.action + 1) then record progress { action = 0; woken = 0; loops = min (progress.loops + 1) (2 ^ 64 - 1) } else record progress { action = progress.action + 1; woken = 0 }

-- a phase of this length begins
abbrev pub phase_begun : ℕ → TaskProgress → TaskProgress
phase_begun length progress = record progress { due = length; got = 0 }

-- a task has run for this long; a task that stops running keeps the rest of its phase
abbrev pub run_for : ℕ → TaskProgress → TaskProgress
run_for ran progress = record progress { got = progress.got + ran }

-- a task begins to run at another processor than before
abbrev pub migrates_to : ℕ → TaskProgress → Bool
migrates_to processor progress = progress.has_run && not (progress.home == processor)

-- a phase that is longer by a cost, as far as 64 bits count
abbrev pub lengthened : ℕ → ℕ → ℕ
lengthened cost due = due + min cost (2 ^ 64 - 1 - due)

-- a task begins to run at a processor. The rest of its phase grows by the cost if the task migrates and has not run past its phase
abbrev pub moved_to : ℕ → ℕ → TaskProgress → TaskProgress
moved_to processor cost progress = record progress { due = (if migrates_to processor progress && nat_le progress.got progress.due then lengthened cost progress.due else progress.due); home = processor; has_run = true }

-- a task is woken, and has no phase yet
abbrev pub progress_woken : TaskProgress → TaskProgress
progress_woken progress = record progress { task_state = Runnable; due = 0; got = 0 }

-- a task has got exactly what its phase takes
abbrev pub is_done : TaskProgress → Bool
is_done progress = progress.got == progress.due

-- a timer rings after the end, or wakes no task
abbrev pub rings_past : ℕ → TaskState → ℕ → Bool
rings_past end Asleep timer = nat_lt end timer
rings_past end task_state timer = true

-- no timer wakes a task until the end
abbrev pub sleeps_past : ℕ → TaskProgress → Bool
sleeps_past end progress = rings_past end progress.task_state progress.timer

-- a task has got no more than its phase takes
abbrev pub keeps_phase : TaskProgress → Bool
keeps_phase progress = nat_le progress.got progress.due

-- a task has got no more than its phase takes, and no timer wakes it until the end
abbrev pub keeps_time : ℕ → TaskProgress → Bool
keeps_time end progress = keeps_phase progress && sleeps_past end progress

-- a task lacks more of its phase than it can get from an instant until the end
abbrev pub lacks_more : ℕ → ℕ → TaskProgress → Bool
lacks_more since end progress = nat_lt (end + progress.got) (since + progress.due)
