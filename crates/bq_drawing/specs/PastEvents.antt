-- What the events of a trace need to know of the events before them.
use Rattle.std.specs.Prelude.{ℕ, ◌+◌, ◌-◌, ◌^◌, min, Bool, List, replicate, slice_get, slice_index_or, slice_set, Option, Some, None, unwrap_or, if◌then◌else◌}
use Rattle.bq_schedule.specs.declared.slice.Slice.{Slice}
use Rattle.bq_drawing.specs.declared.past_events.Arrows.{Arrows}

-- for each processor the arrows that end at the beginning of its current run, and how many tasks were runnable when the count was last
-- written; for each task the arrow of its wake, if it has not run since, and the shown part of its last run that ended; and how many
-- arrows have begun
pub record Past : Type 0 where
  pub ends : List Arrows
  pub counts : List ℕ
  pub woken : List (Option ℕ)
  pub runs : List (Option Slice)
  pub arrows : ℕ

-- a run without arrows
abbrev pub no_arrows : Arrows
no_arrows = record { wake = None; migration = None }

-- no past events yet, with this many processors and tasks
abbrev pub empty_past : ℕ → ℕ → Past
empty_past processors tasks = record {
  ends = replicate processors no_arrows;
  counts = replicate processors 0;
  woken = replicate tasks None;
  runs = replicate tasks None;
  arrows = 0;
}

-- the number of the next arrow; numbers stop at the greatest of 64 bits
abbrev pub next_arrow : Past → ℕ
next_arrow h = min (h.arrows + 1) (2 ^ 64 - 1)

-- the number of the next arrow if an arrow begins, otherwise none
abbrev pub arrow_if : Bool → Past → Option ℕ
arrow_if begins h = if begins then Some (next_arrow h) else None

-- a task was woken, and the arrow of its wake begins if the wake is shown
abbrev pub after_wake : ℕ → Bool → Past → Past
after_wake task begins h =
    record h { woken = slice_set h.woken task (arrow_if begins h); arrows = unwrap_or (arrow_if begins h) h.arrows }

-- the arrow from a task's wake to its next run, if there is one
abbrev pub wake_arrow : Past → ℕ → Option ℕ
wake_arrow h task = slice_index_or h.woken task None

-- a task started at a processor, and an arrow leads there from its last run if `begins`
abbrev pub after_start : ℕ → ℕ → Bool → Past → Past
after_start processor task begins h = record h {
  ends = slice_set h.ends processor (record { wake = wake_arrow h task; migration = arrow_if begins h });
  woken = slice_set h.woken task None;
  arrows = unwrap_or (arrow_if begins h) h.arrows;
}

-- the arrows that end at the beginning of a processor's current run
abbrev pub arrows_to : Past → ℕ → Arrows
arrows_to h processor = slice_index_or h.ends processor no_arrows

-- a run of a task ended, and this part of it is shown
abbrev pub after_run : ℕ → Option Slice → Past → Past
after_run task part h = record h { runs = slice_set h.runs task part }

-- the shown part of a task's last run that ended, if any
abbrev pub last_run : Past → ℕ → Option Slice
last_run h task = slice_index_or h.runs task None

-- how many tasks were runnable at a processor when the count was last written, if the processor exists
abbrev pub written_count : Past → ℕ → Option ℕ
written_count h processor = slice_get h.counts processor

-- this count is written for a processor
abbrev pub after_count : ℕ → ℕ → Past → Past
after_count processor count h = record h { counts = slice_set h.counts processor count }
