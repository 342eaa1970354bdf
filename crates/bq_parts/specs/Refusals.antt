-- Which events are refused, and why: for their arguments, or for what the world holds. The first reason is named.
use Rattle.std.specs.Prelude.{ℕ, ◌%◌, ◌^◌, Bool, true, false, not, ◌==◌, ◌||◌, ◌&&◌, nat_lt, nat_le, List, [], ◌∷◌, Option, Some, None, if◌then◌else◌, is_some, is_none}
use Rattle.bq_weights.specs.VirtualTime.{is_nice}
use Rattle.bq_disc.specs.declared.limits.TheConstants.{GREATEST_SLICE, LEAST_SLICE, TASKS}
use Rattle.bq_parts.specs.declared.carried.Carried.{Carried}
use Rattle.bq_parts.specs.declared.lobby_entry.LobbyEntry.{LobbyEntry}
use Rattle.bq_parts.specs.declared.lobby_entry.LobbyEntry.TheVariants.{Absent, Sleeping, Away}
use Rattle.bq_hooks.specs.declared.hook.Hook.{Hook}
use Rattle.bq_hooks.specs.declared.hook.Hook.TheVariants as hooks
use Rattle.bq_verify.specs.Accepted.{Accepted}
use Rattle.bq_installed.specs.Installed.{at_hook}
use Rattle.bq_parts.specs.declared.event.Event.{Event}
use Rattle.bq_parts.specs.declared.event.Event.TheVariants.{Admit, Retire, Draw, Install, BeginWake, EndWake, Drain, Tick, Block, Pull}
use Rattle.bq_parts.specs.declared.refusal.Refusal.{Refusal}
use Rattle.bq_parts.specs.declared.refusal.Refusal.TheVariants as no
use Rattle.bq_parts.specs.World.{World, processor_at, entry_of_id, count_in}

-- the first refusal whose condition holds
abbrev pub first_refusal : List (Bool × Refusal) → Option Refusal
first_refusal [] = None
first_refusal ((holds, refusal) ∷ rest) = if holds then Some refusal else first_refusal rest

-- whether an entry has no task
abbrev pub is_absent : LobbyEntry → Bool
is_absent Absent = true
is_absent (Sleeping t) = false
is_absent Away = false

-- whether an entry's task is with a processor
abbrev pub is_away : LobbyEntry → Bool
is_away Absent = false
is_away (Sleeping t) = false
is_away Away = true

-- whether two hooks are one
abbrev pub same_hook : Hook → Hook → Bool
same_hook hooks.Place hooks.Place = true
same_hook hooks.Preempt hooks.Preempt = true
same_hook hooks.Pull hooks.Pull = true
same_hook a b = false

-- whether a policy, if there is one, was verified for the hook
abbrev pub is_for : Hook → Option Accepted → Bool
is_for h None = true
is_for h (Some p) = same_hook h p.hook

-- the refusal of a number that names no processor, with its condition
abbrev pub no_processor : ℕ → ℕ → Bool × Refusal
no_processor count processor = (nat_le count processor, no.NoProcessor)

-- the refusal of an id that is not below TASKS, with its condition
abbrev pub no_task : ℕ → Bool × Refusal
no_task id = (nat_le TASKS id, no.NoTask)

-- why an event's arguments are refused in a world of this many processors, if they are
abbrev pub argument_refusal : ℕ → Event → Option Refusal
argument_refusal count (Admit id nice mask slice) =
    first_refusal (no_task id ∷ (mask % 2 ^ count == 0, no.EmptyMask) ∷ (not (is_nice nice), no.Nice) ∷ (nat_lt slice LEAST_SLICE || nat_lt GREATEST_SLICE slice, no.Slice) ∷ [])
argument_refusal count (Retire id) = first_refusal (no_task id ∷ [])
argument_refusal count Draw = None
argument_refusal count (Install processor h g policy) = first_refusal (no_processor count processor ∷ (not (is_for h policy), no.WrongHook) ∷ [])
argument_refusal count (BeginWake processor id) = first_refusal (no_processor count processor ∷ no_task id ∷ [])
argument_refusal count (EndWake processor now) = first_refusal (no_processor count processor ∷ [])
argument_refusal count (Drain processor now) = first_refusal (no_processor count processor ∷ [])
argument_refusal count (Tick processor now) = first_refusal (no_processor count processor ∷ [])
argument_refusal count (Block processor now) = first_refusal (no_processor count processor ∷ [])
argument_refusal count (Pull processor from now) = first_refusal (no_processor count processor ∷ no_processor count from ∷ (processor == from, no.SameProcessor) ∷ [])

-- why a retirement is refused at this entry, if it is
abbrev pub retire_refusal : LobbyEntry → Option Refusal
retire_refusal s = first_refusal ((is_absent s, no.NoTask) ∷ (is_away s, no.NotBlocked) ∷ [])

-- why the begin of a wake is refused at this entry and hand, if it is
abbrev pub begin_refusal : LobbyEntry → Option Carried → Option Refusal
begin_refusal s hand = first_refusal ((is_absent s, no.NoTask) ∷ (is_away s, no.NotBlocked) ∷ (is_some hand, no.InHand) ∷ [])

-- why generation g is refused, if it is: `newest` is the one at the hook, and `drawn` numbers were drawn
abbrev pub generation_refusal : ℕ → ℕ → ℕ → Option Refusal
generation_refusal newest drawn g = first_refusal ((nat_lt 0 newest && nat_le g newest, no.Older newest) ∷ (g == 0 || nat_lt drawn g, no.NotDrawn) ∷ [])

-- why this world refuses an event, if it does
abbrev pub state_refusal : World → Event → Option Refusal
state_refusal w (Admit id nice mask slice) = first_refusal ((not (is_absent (entry_of_id w id)), no.TaskExists) ∷ [])
state_refusal w (Retire id) = retire_refusal (entry_of_id w id)
state_refusal w Draw = None
state_refusal w (Install processor h g policy) = generation_refusal (at_hook h (processor_at w processor).hooks).generation w.drawn g
state_refusal w (BeginWake processor id) = begin_refusal (entry_of_id w id) (processor_at w processor).hand
state_refusal w (EndWake processor now) = first_refusal ((is_none (processor_at w processor).hand, no.NothingInHand) ∷ [])
state_refusal w (Drain processor now) = None
state_refusal w (Tick processor now) = None
state_refusal w (Block processor now) = first_refusal ((is_none (processor_at w processor).running.current, no.Idle) ∷ [])
state_refusal w (Pull processor from now) = None

-- the first refusal, or else the second
abbrev pub either_refusal : Option Refusal → Option Refusal → Option Refusal
either_refusal None other = other
either_refusal (Some r) other = Some r

-- why an event is refused, if it is; a reason in its arguments comes first
abbrev pub refusal : World → Event → Option Refusal
refusal w e = either_refusal (argument_refusal (count_in w) e) (state_refusal w e)
