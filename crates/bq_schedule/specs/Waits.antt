-- When a task began to wait, and how long it has waited by what its pulls and starts report.
use Rattle.std.specs.Prelude.{ℕ, ◌+◌, Bool, not, ◌&&◌, ◌||◌, ◌==◌, [], ◌∷◌, Option, Some, None, Result, Ok, if◌then◌else◌, unwrap_or}
use Rattle.bq_disc.specs.OneProcessor.{reading}
use Rattle.bq_parts.specs.declared.event.Event.{Event}
use Rattle.bq_parts.specs.declared.event.Event.TheVariants.{EndWake, Drain, Tick, Pull}
use Rattle.bq_parts.specs.declared.reply.Reply.{Reply}
use Rattle.bq_parts.specs.declared.reply.Reply.TheVariants.{Placed, Drained, Ticked, Pulled}
use Rattle.bq_parts.specs.declared.refusal.Refusal.{Refusal}
use Rattle.bq_schedule.specs.declared.change.Change.{Change}
use Rattle.bq_schedule.specs.declared.change.Start.{Start}
use Rattle.bq_schedule.specs.declared.change.PulledTask.{PulledTask}
use Rattle.bq_schedule.specs.Histories.{History}
use Rattle.bq_schedule.specs.Slices.{clock, runner, is_this}
use Rattle.bq_schedule.specs.Steps.{change, figures}

-- the task gives way: it ran, and does not run from now on
abbrev pub gives_way : ℕ → Option ℕ → Option ℕ → Bool
gives_way id who run = is_this id who && not (is_this id run)

-- this point in time, if a condition holds
abbrev pub then_if : Bool → ℕ → Option ℕ
then_if b at = if b then Some at else None

-- when an answered event makes the task wait, by the clock of the event's processor: the task is placed, pulled or preempted
abbrev pub wait_begins : ℕ → History → Event → Result Reply Refusal → Option ℕ
wait_begins id past (EndWake processor now) (Ok (Placed task to by steps)) = then_if (task == id) (reading (clock processor past) now)
wait_begins id past (Drain processor now) (Ok (Drained count run by steps)) = then_if (gives_way id (runner processor past) run) (reading (clock processor past) now)
wait_begins id past (Tick processor now) (Ok (Ticked run by steps)) = then_if (gives_way id (runner processor past) run) (reading (clock processor past) now)
wait_begins id past (Pull processor from now) (Ok (Pulled task run by steps)) =
    then_if (is_this id task || gives_way id (runner processor past) run) (reading (clock processor past) now)
wait_begins id past e a = None

-- when the task's last wait began; 0 if it never waited
abbrev pub waits_since : ℕ → History → ℕ
waits_since id [] = 0
waits_since id (m ∷ past) = unwrap_or (wait_begins id past m.event m.answer) (waits_since id past)

-- how long a task has waited, as a pull reports it; 0 if the pull is not of this task
abbrev pub wait_of_pull : ℕ → Option PulledTask → ℕ
wait_of_pull id None = 0
wait_of_pull id (Some p) = if p.task == id then p.waited else 0

-- how long a task has waited, as a start reports it; 0 if the start is not of this task
abbrev pub wait_of_start : ℕ → Option Start → ℕ
wait_of_start id None = 0
wait_of_start id (Some s) = if s.task == id then s.waited else 0

-- how long a task has waited, as one change reports it
abbrev pub reported_wait : ℕ → Change → ℕ
reported_wait id c = wait_of_pull id c.pull + wait_of_start id c.start

-- how long a task has waited in all, as a history reports it
abbrev pub reported_waits : ℕ → ℕ → History → ℕ
reported_waits count id [] = 0
reported_waits count id (m ∷ past) = reported_waits count id past + reported_wait id (change (figures count past) m.event m.answer)
