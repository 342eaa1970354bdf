-- Which task runs longest between two moments, and how long all of them run.
use Rattle.std.specs.Prelude.{◌≡◌, ℕ, ◌<◌, ◌≤◌, ◌-◌, ◌==◌, max, min, List, sum_by, if◌then◌else◌}
use Rattle.bq_disc.specs.declared.limits.TheConstants.{TASKS}
use Rattle.bq_schedule.specs.declared.slice.Slice.{Slice}

-- how long a run lasts between two moments
abbrev pub time_between : ℕ → ℕ → Slice → ℕ
time_between from to run = min run.to to - max run.from from

-- how long a task runs between two moments, among these runs
abbrev pub task_time_between : ℕ → ℕ → List Slice → ℕ → ℕ
task_time_between from to runs task = sum_by (λ (run : Slice). if run.task == task then time_between from to run else 0) runs

-- how long these runs last between two moments, all together
abbrev pub time_of_all : ℕ → ℕ → List Slice → ℕ
time_of_all from to runs = sum_by (time_between from to) runs

-- runs that last as long as others between two moments: those of each task, and all together
pub record LastAsLong (from to : ℕ) (a b : List Slice) : Type 0 where
  pub each : (task : ℕ) → task_time_between from to a task ≡ task_time_between from to b task
  pub all : time_of_all from to a ≡ time_of_all from to b

-- the place of the greatest of the first n of these numbers: it is not 0, and the first of equal ones
pub record IsFirstGreatest (n : ℕ) (number : ℕ → ℕ) (place : ℕ) : Type 0 where
  pub there : place < n
  pub some : 0 < number place
  pub most : (other : ℕ) → other < n → number other ≤ number place
  pub first : (other : ℕ) → other < place → number other < number place

-- the task runs, and no other runs longer; of equal ones it is the task of least number
abbrev pub IsLongest : ℕ → ℕ → List Slice → ℕ → Type 0
IsLongest from to runs task = IsFirstGreatest TASKS (task_time_between from to runs) task
