-- A discipline: how a processor chooses among its tasks, and how virtual time passes.
use Rattle.std.specs.Prelude.{◌≡◌, ◌≢◌, ℕ, ℤ, Bool, ◌==◌, if◌then◌else◌, List, [], ◌∷◌, Option, Some, None, Contains, IsSome, IfSome, unwrap_or}
use Rattle.bq_disc.specs.Tasks.{Task, id_of}
use Rattle.bq_disc.specs.Queues.{HasDistinctIds}
use Rattle.bq_disc.specs.declared.run_queue.Entry.{Entry}
use Rattle.bq_disc.specs.declared.run_queue.Entry.TheVariants.{Wake, Pull}
use Rattle.bq_weights.specs.VirtualTime.{advance_of, shift_of, distance_from_mark}

-- a discipline: its choices among tasks, and how it gives them times
pub record Discipline : Type 0 where
  -- the task that should run, of the given ones
  pub choice : List Task → Option Task
  -- whether a task of the queue should take the place of the current one
  pub wants_preempt : Task → List Task → Bool
  -- the new mark, from the old one and the tasks that are present
  pub mark : ℕ → List Task → ℕ
  -- the v at which a woken task enters, from the mark and its rel, slice and weight
  pub wake : ℕ → ℤ → ℕ → ℕ → ℕ
  -- the deadline of a task that enters, from its v, slice and weight
  pub deadline : ℕ → ℕ → ℕ → ℕ
  -- the deadline of a task that has run, from its v, slice, weight and old deadline
  pub renewed : ℕ → ℕ → ℕ → ℕ → ℕ

-- two lists hold the same tasks
abbrev pub SameSet : List Task → List Task → Type 0
SameSet xs ys = ((t : Task) → Contains xs t → Contains ys t) × ((t : Task) → Contains ys t → Contains xs t)

-- the laws of a discipline: it chooses a task exactly when there is one; the choice is one of the given tasks; and equal
-- sets of tasks give equal choices, in whatever order they are listed
pub record IsLawful (d : Discipline) : Type 0 where
  pub exists : (xs : List Task) → xs ≢ [] → IsSome (d.choice xs)
  pub nobody : d.choice [] ≡ None
  pub member : (xs : List Task) → IfSome (d.choice xs) (Contains xs)
  pub same : (xs ys : List Task) → HasDistinctIds xs → HasDistinctIds ys → SameSet xs ys → d.choice xs ≡ d.choice ys

-- a task after it has run for a time
abbrev pub charged : Discipline → Task → ℕ → Task
charged d t time =
    let v = advance_of t.v time t.weight in
    record t { v = v; deadline = d.renewed v t.slice t.weight t.deadline }

-- a woken task as it enters, at this mark
abbrev pub woken : Discipline → ℕ → Task → Task
woken d mark t =
    let v = d.wake mark t.rel t.slice t.weight in
    record t { v = v; deadline = d.deadline v t.slice t.weight }

-- a pulled task as it enters, at this mark
abbrev pub pulled : Discipline → ℕ → Task → Task
pulled d mark t =
    let v = shift_of mark t.rel in
    record t { v = v; deadline = d.deadline v t.slice t.weight }

-- a woken or pulled task as it enters, at this mark
abbrev pub entered_by : Discipline → ℕ → Entry → Task → Task
entered_by d mark Wake t = woken d mark t
entered_by d mark Pull t = pulled d mark t

-- a task as it leaves, at this mark
abbrev pub left_at : ℕ → Task → Task
left_at mark t = record t { rel = distance_from_mark t.v mark }

-- the id of the task to run: the choice of all, if it is not the current task; else the choice of the queue; else the
-- current task
abbrev pub next_of : Discipline → Task → List Task → ℕ
next_of d current queue =
    let chosen = unwrap_or (id_of (d.choice (current ∷ queue))) current.id in
    if chosen == current.id then unwrap_or (id_of (d.choice queue)) current.id else chosen

-- the id of the task that the current one gives way to; None if the current task runs on
abbrev pub next_other : Discipline → Task → List Task → Option ℕ
next_other d current queue = let id = next_of d current queue in if id == current.id then None else Some id
