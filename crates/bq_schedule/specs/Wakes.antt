-- Which wakes have not led to a run of their task yet.
use Rattle.std.specs.Prelude.{ℕ, Bool, false, not, ◌==◌, ◌&&◌, [], ◌∷◌, Option, Some, None, Result, Ok, if◌then◌else◌}
use Rattle.bq_disc.specs.OneProcessor.{reading}
use Rattle.bq_parts.specs.declared.event.Event.{Event}
use Rattle.bq_parts.specs.declared.event.Event.TheVariants.{EndWake}
use Rattle.bq_parts.specs.declared.reply.Reply.{Reply}
use Rattle.bq_parts.specs.declared.reply.Reply.TheVariants.{Placed}
use Rattle.bq_parts.specs.declared.refusal.Refusal.{Refusal}
use Rattle.bq_schedule.specs.Histories.{History}
use Rattle.bq_schedule.specs.Slices.{is_this, ShownByAnswer, shown_by_answer, clock, runner}

-- the task starts running: it runs from now on, and did not before
abbrev pub begins_as : ℕ → Option ℕ → Option (Option ℕ) → Bool
begins_as id who None = false
begins_as id who (Some run) = is_this id run && not (is_this id who)

-- the task starts running with what an answer shows
abbrev pub begins_run : ℕ → History → Option ShownByAnswer → Bool
begins_run id past None = false
begins_run id past (Some s) = begins_as id (runner s.processor past) s.run

-- when a wake of the task ends, by the clock of the processor that wakes it
abbrev pub wake_end : ℕ → History → Event → Result Reply Refusal → Option ℕ
wake_end id past (EndWake processor now) (Ok (Placed task to by steps)) = if task == id then Some (reading (clock processor past) now) else None
wake_end id past e a = None

-- the end of the wake that has not led to a run: a new wake's, or none if the task starts running, or the same as before
abbrev pub awaited_after : Option ℕ → Bool → Option ℕ → Option ℕ
awaited_after (Some at) has_begun before = Some at
awaited_after None has_begun before = if has_begun then None else before

-- when the last wake of the task ended, if the task has not run since
abbrev pub awaited : ℕ → History → Option ℕ
awaited id [] = None
awaited id (m ∷ past) =
    awaited_after (wake_end id past m.event m.answer) (begins_run id past (shown_by_answer m.event m.answer)) (awaited id past)
