-- The charges of a processor, one after another.
use Rattle.std.specs.Prelude.{ℕ, Bool, true, false, nat_le, if◌then◌else◌, List, [], ◌∷◌, Option, Some, None, is_some, slice_index_or, slice_set}
use Rattle.std.specs.Option.{option_map}
use Rattle.bq_hooks.specs.declared.settled.By.{By}
use Rattle.bq_hooks.specs.declared.settled.By.TheVariants as who
use Rattle.bq_words.specs.declared.discipline_name.DisciplineName.{DisciplineName}
use Rattle.bq_words.specs.declared.discipline_name.DisciplineName.TheVariants.{Eevdf}
use Rattle.bq_parts.specs.declared.event.Event.{Event}
use Rattle.bq_parts.specs.declared.event.Event.TheVariants.{Drain, Tick, Block, Pull}
use Rattle.bq_parts.specs.declared.reply.Reply.{Reply}
use Rattle.bq_parts.specs.declared.reply.Reply.TheVariants.{Drained, Ticked, Blocked, Pulled}
use Rattle.bq_disc.specs.Counts.{saturating_sum}
use Rattle.bq_bounds.specs.declared.running_task.RunningTask.{RunningTask}
use Rattle.bq_bounds.specs.declared.charge.Charge.{Charge}
use Rattle.bq_bounds.specs.declared.watch.Watch.{Watch}
use Rattle.bq_bounds.specs.Charges.{measured_charge}

-- a watch before the first event
abbrev pub unwatched : Watch
unwatched = record { elapsed = None; measured = 0; left_out = 0; greatest = None }

-- the watch after a rise of the clock
abbrev pub risen : ℕ → Watch → Watch
risen rise w = record w { elapsed = option_map (λ (n : ℕ). saturating_sum n rise) w.elapsed }

-- the charge of greater difference, the first of two equal ones
abbrev pub greater : Option Charge → Charge → Charge
greater None c = c
greater (Some d) c = if nat_le c.difference d.difference then d else c

-- the watch after a charge was measured
abbrev pub measured : Charge → Watch → Watch
measured c w = record w { measured = saturating_sum w.measured 1; greatest = Some (greater w.greatest c) }

-- the watch after a charge, if there was one to measure
abbrev pub measured_if : Option Charge → Watch → Watch
measured_if None w = w
measured_if (Some c) w = measured c w

-- the running task is charged: the charge is measured if the discipline decided last and nothing has disturbed that since
abbrev pub watch_charged : DisciplineName → RunningTask → ℕ → ℕ → Option ℕ → Watch → Watch
watch_charged discipline s rise mean None w = record w { left_out = saturating_sum w.left_out 1 }
watch_charged discipline s rise mean (Some elapsed) w = measured_if (measured_charge discipline s rise elapsed mean) w

-- the watch after the running task was charged, if one ran
abbrev pub charged_if : DisciplineName → Option RunningTask → ℕ → ℕ → Watch → Watch
charged_if discipline None rise mean w = w
charged_if discipline (Some s) rise mean w = watch_charged discipline s rise mean w.elapsed w

-- the watch after a decision: the discipline's starts the count, a policy's ends it
abbrev pub watch_decided : By → Watch → Watch
watch_decided who.Discipline w = record w { elapsed = Some 0 }
watch_decided who.Policy w = record w { elapsed = None }

-- the watch after a task came or went that the discipline did not see
abbrev pub disturbed : Watch → Watch
disturbed w = record w { elapsed = None }

-- a pull decides if nothing ran before, and disturbs if something ran and a task comes
abbrev pub watch_pulled : Option ℕ → Bool → Watch → Watch
watch_pulled task false w = watch_decided who.Discipline w
watch_pulled None true w = w
watch_pulled (Some id) true w = disturbed w

-- the watch after an event, by who decided at it, if anyone did
abbrev pub decided_by_event : Event → Reply → Bool → Watch → Watch
decided_by_event (Tick processor now) (Ticked run by steps) busy w = watch_decided by w
decided_by_event (Drain processor now) (Drained count run by steps) busy w = watch_decided by w
decided_by_event (Block processor now) (Blocked task run) busy w = watch_decided who.Discipline w
decided_by_event (Pull processor from now) (Pulled task run by steps) busy w = watch_pulled task busy w
decided_by_event e r busy w = w

-- a reading of the clock: the clock has risen, and the running task is charged
abbrev pub read_by : DisciplineName → Option RunningTask → ℕ → ℕ → Watch → Watch
read_by discipline s rise mean w = charged_if discipline s rise mean (risen rise w)

-- an event of the processor: its clock is read, and a decision may be made
abbrev pub watch_after : DisciplineName → Event → Reply → Option RunningTask → ℕ → ℕ → Watch → Watch
watch_after discipline e r s rise mean w = decided_by_event e r (is_some s) (read_by discipline s rise mean w)

-- the watch of a processor
abbrev pub watch_of : List Watch → ℕ → Watch
watch_of ws processor = slice_index_or ws processor unwatched

-- under EEVDF a pull disturbs the processor that it takes a task from: the mean moves there
abbrev pub source_disturbed : DisciplineName → Event → Reply → List Watch → List Watch
source_disturbed Eevdf (Pull processor from now) (Pulled (Some id) run by steps) ws = slice_set ws from (disturbed (watch_of ws from))
source_disturbed discipline e r ws = ws

-- the watches of all processors after an event of one of them
abbrev pub watches_after : DisciplineName → ℕ → Event → Reply → Option RunningTask → ℕ → ℕ → List Watch → List Watch
watches_after discipline processor e r s rise mean ws = source_disturbed discipline e r (slice_set ws processor (watch_after discipline e r s rise mean (watch_of ws processor)))

-- the greatest of some charges, of which the last one comes first in the list
abbrev pub greatest_of : List Charge → Option Charge
greatest_of [] = None
greatest_of (c ∷ past) = Some (greater (greatest_of past) c)
