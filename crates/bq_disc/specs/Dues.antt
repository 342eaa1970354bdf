-- Virtual deadlines, by (deadline, id).
use Rattle.std.specs.Prelude.{Bool, if◌then◌else◌, List, Option, Some, None}
use Rattle.std.specs.Option.{option_map}
use Rattle.bq_disc.specs.Tasks.{Task, first_by, comes_before}
use Rattle.bq_disc.specs.declared.deadline.Deadline.{Deadline}

-- a task's deadline, with its id
abbrev pub due_of : Task → Deadline
due_of t = record { deadline = t.deadline; id = t.id }

-- whether a deadline is earlier than another, by (deadline, id)
abbrev pub is_earlier : Deadline → Deadline → Bool
is_earlier a b = comes_before a.deadline a.id b.deadline b.id

-- whether a task is due before another
abbrev pub due_before : Task → Task → Bool
due_before a b = is_earlier (due_of a) (due_of b)

-- the earliest deadline of some tasks
abbrev pub first_due : List Task → Option Deadline
first_due xs = option_map due_of (first_by due_before xs)

-- the earlier of two deadlines
abbrev pub earlier_of : Deadline → Deadline → Deadline
earlier_of a b = if is_earlier b a then b else a

-- the earlier of a deadline and of another, if there is another
abbrev pub earliest_of : Deadline → Option Deadline → Deadline
earliest_of a None = a
earliest_of a (Some b) = earlier_of a b

-- the earlier of two deadlines, each of which may be missing
abbrev pub sooner_of : Option Deadline → Option Deadline → Option Deadline
sooner_of None b = b
sooner_of (Some a) b = Some (earliest_of a b)
