-- The task that runs at a processor before a charge, as far as the charge needs it.
use Rattle.std.specs.Prelude.{◌≡◌, List, Option, Some, None}
use Rattle.bq_disc.specs.Tasks.{Task}
use Rattle.bq_bounds.specs.declared.running_task.RunningTask.{RunningTask}
use Rattle.bq_bounds.specs.Charges.{least_waiting}

-- the v and the weight of the running task, if there is one, and the least v of the tasks that wait
abbrev pub IsRunningTask : Option Task → List Task → Option RunningTask → Type 0
IsRunningTask None queue None = Unit {0}
IsRunningTask (Some t) queue (Some s) = (s.v ≡ t.v) × (s.weight ≡ t.weight) × (s.least ≡ least_waiting queue)
IsRunningTask current queue s = ⊥
