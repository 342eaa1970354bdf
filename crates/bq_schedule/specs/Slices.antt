-- The slices of a history, from only its events and answers: which task ran at a processor between two readings of its clock.
use Rattle.std.specs.Prelude.{ℕ, ◌-◌, ◌<◌, ◌≤◌, All, filter, ◌==◌, nat_lt, Bool, false, List, [], ◌∷◌, ◌++◌, Option, Some, None, Result, Ok, Err, if◌then◌else◌, unwrap_or, option_to_list}
use Rattle.std.specs.List.{sum_by}
use Rattle.bq_disc.specs.OneProcessor.{reading}
use Rattle.bq_parts.specs.declared.event.Event.{Event}
use Rattle.bq_parts.specs.declared.event.Event.TheVariants.{EndWake, Drain, Tick, Block, Pull}
use Rattle.bq_parts.specs.declared.reply.Reply.{Reply}
use Rattle.bq_parts.specs.declared.reply.Reply.TheVariants.{Placed, Drained, Ticked, Blocked, Pulled}
use Rattle.bq_parts.specs.declared.refusal.Refusal.{Refusal}
use Rattle.bq_schedule.specs.declared.slice.Slice.{Slice}
use Rattle.bq_schedule.specs.Histories.{History}
use Rattle.bq_schedule.specs.Passing.{continues_run}

-- there is a number, and it is this one
abbrev pub is_this : ℕ → Option ℕ → Bool
is_this number None = false
is_this number (Some k) = k == number

-- what an answer shows of a processor: the reading of its clock, and the task that runs there from then on, if the answer says so
pub record ShownByAnswer : Type 0 where
  pub processor : ℕ
  pub now : ℕ
  pub run : Option (Option ℕ)

-- what a reply to an event shows; a reply that is not of the event's kind shows nothing
abbrev pub shown_by_reply : Event → Reply → Option ShownByAnswer
shown_by_reply (EndWake processor now) (Placed task to by steps) = Some (record { processor = processor; now = now; run = None })
shown_by_reply (Drain processor now) (Drained count run by steps) = Some (record { processor = processor; now = now; run = Some run })
shown_by_reply (Tick processor now) (Ticked run by steps) = Some (record { processor = processor; now = now; run = Some run })
shown_by_reply (Block processor now) (Blocked task run) = Some (record { processor = processor; now = now; run = Some run })
shown_by_reply (Pull processor from now) (Pulled task run by steps) = Some (record { processor = processor; now = now; run = Some run })
shown_by_reply e r = None

-- a refused event shows nothing
abbrev pub shown_by_answer : Event → Result Reply Refusal → Option ShownByAnswer
shown_by_answer e (Ok r) = shown_by_reply e r
shown_by_answer e (Err r) = None

-- the last reading of a processor's clock, after what an answer shows
abbrev pub clock_after : ℕ → ℕ → Option ShownByAnswer → ℕ
clock_after processor last None = last
clock_after processor last (Some s) = if s.processor == processor then reading last s.now else last

-- the last reading of a processor's clock in a history, 0 if there was none
abbrev pub clock : ℕ → History → ℕ
clock processor [] = 0
clock processor (m ∷ past) = clock_after processor (clock processor past) (shown_by_answer m.event m.answer)

-- the task that runs at a processor, after what an answer shows
abbrev pub runner_after : ℕ → Option ℕ → Option ShownByAnswer → Option ℕ
runner_after processor who None = who
runner_after processor who (Some s) = if s.processor == processor then unwrap_or s.run who else who

-- the task that runs at a processor after a history, if one does
abbrev pub runner : ℕ → History → Option ℕ
runner processor [] = None
runner processor (m ∷ past) = runner_after processor (runner processor past) (shown_by_answer m.event m.answer)

-- the slice of the running task from one reading to another, unless it is empty
abbrev pub slice_of : ℕ → Option ℕ → ℕ → ℕ → Option Slice
slice_of processor None from to = None
slice_of processor (Some id) from to = if nat_lt from to then Some (record { processor = processor; task = id; from = from; to = to }) else None

-- the slice that an answered event ends, after the history before it
abbrev pub slice_shown : History → Option ShownByAnswer → Option Slice
slice_shown past None = None
slice_shown past (Some s) = slice_of s.processor (runner s.processor past) (clock s.processor past) (reading (clock s.processor past) s.now)

-- all slices of a history, in the order in which they ended
abbrev pub slices : History → List Slice
slices [] = []
slices (m ∷ past) = slices past ++ option_to_list (slice_shown past (shown_by_answer m.event m.answer))

-- the length of a slice if it is chosen, otherwise 0
abbrev pub time_if : (Slice → Bool) → Slice → ℕ
time_if chosen s = if chosen s then s.to - s.from else 0

-- the sum of the lengths of the chosen slices
abbrev pub time_in : (Slice → Bool) → List Slice → ℕ
time_in chosen xs = sum_by (time_if chosen) xs

-- whether a slice is of this task
abbrev pub is_of : ℕ → Slice → Bool
is_of id s = s.task == id

-- whether a slice is of this processor
abbrev pub is_slice_at : ℕ → Slice → Bool
is_slice_at processor s = s.processor == processor

-- each slice ends no later than any later one begins, and none is empty
abbrev pub StandApart : List Slice → Type 0
StandApart [] = Unit {0}
StandApart (s ∷ xs) = (s.from < s.to) × All (λ next. s.to ≤ next.from) xs × StandApart xs

-- the slices of one processor
abbrev pub slices_at : ℕ → History → List Slice
slices_at processor past = filter (is_slice_at processor) (slices past)

-- a slice in front of some runs: it joins the first run if that one continues it
abbrev pub slice_joined : Slice → List Slice → List Slice
slice_joined s [] = s ∷ []
slice_joined s (r ∷ rs) = if continues_run s r then record s { to = r.to } ∷ rs else s ∷ r ∷ rs

-- the runs that slices make: slices of one task that touch are one run
abbrev pub runs : List Slice → List Slice
runs [] = []
runs (s ∷ xs) = slice_joined s (runs xs)
