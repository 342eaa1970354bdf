-- Histories in which tasks come and go. What happens at a processor is made of a few kinds of step: time passes and is
-- charged, the discipline decides, a task enters the queue, a task leaves, the mark is computed again. A Tick is the first two. A
-- Block has a Leave between them, and a Drain its entries. The end of a wake only passes time. A pull passes time,
-- and a task may enter; it decides only at a processor where nothing runs (specs/Events).
use Rattle.std.specs.Prelude.{◌≡◌, ℕ, ◌+◌, ◌≤◌, max, Bool, false, ◌==◌, if◌then◌else◌, List, [], ◌∷◌, Option, None, Some}
use Rattle.bq_cfs.specs.declared.discipline.TheConstants.{GRANULARITY}
use Rattle.bq_weights.specs.VirtualTime.{IsWeight, vdelta_of}
use Rattle.bq_disc.specs.Tasks.{Task, has_id, inserted, without}
use Rattle.bq_disc.specs.Discipline.{Discipline}
use Rattle.bq_disc.specs.OneProcessor.{Running, marked, charge, decided, own_preempt, rise}
use Rattle.bq_cfs.specs.Cfs.{cfs}
use Rattle.bq_cfs.specs.Spread.{AreTasksSound}
use Rattle.bq_eevdf.specs.Eevdf.{eevdf}
use Rattle.bq_fairness.specs.Histories.{HasRoom, task_at, tick_charge}
use Rattle.bq_fairness.specs.EevdfDeadlines.{HasDeadlines}
use Rattle.bq_weights.specs.declared.TheConstants.{GREATEST_V}

-- one step at a processor
pub data ProcessorStep : Type 0 where
  -- the clock is read, and the time since the last reading is charged
  Pass : ℕ → ProcessorStep
  -- only the discipline decides
  Decide : ProcessorStep
  -- a task enters the queue, at whatever virtual time
  Enter : Task → ProcessorStep
  -- the task of an id leaves, from the queue or from running
  Leave : ℕ → ProcessorStep
  -- the mark is computed again, as before another processor pulls
  Mark : ProcessorStep

-- the current task, unless it has that id
abbrev pub kept_current : ℕ → Option Task → Option Task
kept_current id None = None
kept_current id (Some t) = if has_id id t then None else Some t

-- the processor after a step
abbrev pub stepped : Discipline → Running → ProcessorStep → Running
stepped d p (Pass now) = charge d p now
stepped d p Decide = decided d p p.current (own_preempt d p.queue p.current)
stepped d p (Enter t) = record p { queue = inserted t p.queue }
stepped d p (Leave id) = record p { current = kept_current id p.current; queue = without id p.queue }
stepped d p Mark = marked d p

-- the processor after some steps, one after another
abbrev pub after_steps : Discipline → Running → List ProcessorStep → Running
after_steps d p [] = p
after_steps d p (s ∷ ss) = after_steps d (stepped d p s) ss

-- what a step charges the task with this id
abbrev pub step_charge : ℕ → Running → ProcessorStep → ℕ
step_charge id p (Pass now) = tick_charge id p now
step_charge id p Decide = 0
step_charge id p (Enter t) = 0
step_charge id p (Leave k) = 0
step_charge id p Mark = 0

-- the virtual time that some steps serve the task with this id
abbrev pub served_by : ℕ → Discipline → Running → List ProcessorStep → ℕ
served_by id d p [] = 0
served_by id d p (s ∷ ss) = step_charge id p s + served_by id d (stepped d p s) ss

-- how far the clock has risen since the discipline last decided; n before the step
abbrev pub since : ℕ → Running → ProcessorStep → ℕ
since n p (Pass now) = n + rise p now
since n p Decide = 0
since n p (Enter t) = n
since n p (Leave id) = n
since n p Mark = n

-- the clock rises by at most r between two decisions
abbrev pub DecidesWithin : ℕ → Discipline → ℕ → Running → List ProcessorStep → Type 0
DecidesWithin r d n p [] = Unit {0}
DecidesWithin r d n p (s ∷ ss) = (since n p s ≤ r) × DecidesWithin r d (since n p s) (stepped d p s) ss

-- a task that enters has an id that no present task has, a weight in the table's range and a v of at most 2^62
pub record IsNew (p : Running) (t : Task) : Type 0 where
  pub id : task_at t.id p ≡ None
  pub weight : IsWeight t.weight
  pub ends : t.v ≤ GREATEST_V

-- if the step is an Enter, its task is new
abbrev pub EntersNew : Running → ProcessorStep → Type 0
EntersNew p (Enter t) = IsNew p t
EntersNew p (Pass now) = Unit {0}
EntersNew p Decide = Unit {0}
EntersNew p (Leave id) = Unit {0}
EntersNew p Mark = Unit {0}

-- each task that enters is new
abbrev pub EachEntersNew : Discipline → Running → List ProcessorStep → Type 0
EachEntersNew d p [] = Unit {0}
EachEntersNew d p (s ∷ ss) = EntersNew p s × EachEntersNew d (stepped d p s) ss

-- the deadline of each task that enters is no earlier than its v, and at most one slice later
abbrev pub EntersDue : List ProcessorStep → Type 0
EntersDue [] = Unit {0}
EntersDue (Enter t ∷ ss) = ((t.v ≤ t.deadline) × (t.deadline ≤ t.v + vdelta_of t.slice t.weight)) × EntersDue ss
EntersDue (Pass now ∷ ss) = EntersDue ss
EntersDue (Decide ∷ ss) = EntersDue ss
EntersDue (Leave id ∷ ss) = EntersDue ss
EntersDue (Mark ∷ ss) = EntersDue ss

-- whether a step is the leave of the task with this id
abbrev pub is_leave_of : ℕ → ProcessorStep → Bool
is_leave_of id (Leave k) = k == id
is_leave_of id (Pass now) = false
is_leave_of id Decide = false
is_leave_of id (Enter t) = false
is_leave_of id Mark = false

-- the task with this id does not leave
abbrev pub StaysThroughout : ℕ → List ProcessorStep → Type 0
StaysThroughout id [] = Unit {0}
StaysThroughout id (s ∷ ss) = (is_leave_of id s ≡ false) × StaysThroughout id ss

-- CFS: of two tasks that are present throughout, a comes to no more virtual time than the sum of three: the greater of where
-- it began and 1,000,000 beyond where b began; what b was served; and one rise at a's own weight. Other tasks may come and
-- go
abbrev pub CfsServesThroughout : Type 0
CfsServesThroughout =
    (r : ℕ) (p : Running) (ss : List ProcessorStep) (i j : ℕ) (a b : Task) →
    AreTasksSound p → HasRoom p → EachEntersNew cfs p ss → DecidesWithin r cfs 0 p ss →
    task_at i p ≡ Some a → task_at j p ≡ Some b → StaysThroughout i ss → StaysThroughout j ss →
    a.v + served_by i cfs p ss ≤ served_by j cfs p ss + max a.v (b.v + GRANULARITY) + vdelta_of r a.weight

-- EEVDF: the bound of CFS holds with one slice of b's in place of 1,000,000
abbrev pub EevdfServesThroughout : Type 0
EevdfServesThroughout =
    (r : ℕ) (p : Running) (ss : List ProcessorStep) (i j : ℕ) (a b : Task) →
    AreTasksSound p → HasRoom p → HasDeadlines p → EachEntersNew eevdf p ss → EntersDue ss → DecidesWithin r eevdf 0 p ss →
    task_at i p ≡ Some a → task_at j p ≡ Some b → StaysThroughout i ss → StaysThroughout j ss →
    a.v + served_by i eevdf p ss ≤ served_by j eevdf p ss + max a.v (b.v + vdelta_of b.slice b.weight) + vdelta_of r a.weight
