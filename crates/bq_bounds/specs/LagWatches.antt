-- The lags of a processor's tasks, event by event.
use Rattle.std.specs.Prelude.{◌≡◌, ◌^◌, ◌-◌, ℕ, zero, suc, min, Bool, false, nat_le, List, Option, Some, None, slice_index_or, slice_set}
use Rattle.bq_hooks.specs.declared.settled.By.{By}
use Rattle.bq_hooks.specs.declared.settled.By.TheVariants as who
use Rattle.bq_parts.specs.declared.event.Event.{Event}
use Rattle.bq_parts.specs.declared.event.Event.TheVariants.{EndWake, Drain, Tick, Pull}
use Rattle.bq_parts.specs.declared.reply.Reply.{Reply}
use Rattle.bq_parts.specs.declared.reply.Reply.TheVariants.{Placed, Drained, Ticked, Pulled}
use Rattle.bq_disc.specs.Tasks.{Task}
use Rattle.bq_disc.specs.Counts.{saturating_sum}
use Rattle.bq_bounds.specs.declared.charge.Charge.{Charge}
use Rattle.bq_bounds.specs.declared.stretch.Stretch.{Stretch}
use Rattle.bq_bounds.specs.declared.lags.Effect.{Effect}
use Rattle.bq_bounds.specs.declared.lags.Effect.TheVariants.{Passes, Decides, Breaks}
use Rattle.bq_bounds.specs.declared.lags.Lags.{Lags}
use Rattle.bq_bounds.specs.declared.glance.Glance.{Glance}
use Rattle.bq_bounds.specs.Glances.{IsGlance, at_most_owed}
use Rattle.bq_bounds.specs.Lags.{beginning, stretched, most_owed}
use Rattle.bq_bounds.specs.Watches.{greater}

-- lags before the first event
abbrev pub no_lags : Lags
no_lags = record { stretch = None; measured = 0; left_out = 0; greatest = None }

-- the effect of a decision: the discipline's keeps the stretch, a policy's breaks it
abbrev pub effect_by : By → Effect
effect_by who.Discipline = Decides
effect_by who.Policy = Breaks

-- a drain that brings no task acts as a tick
abbrev pub effect_drained : ℕ → By → Effect
effect_drained zero by = effect_by by
effect_drained (suc n) by = Breaks

-- what an event does to the tasks that are there
abbrev pub effect_of : Event → Reply → Effect
effect_of (Tick processor now) (Ticked run by steps) = effect_by by
effect_of (Drain processor now) (Drained count run by steps) = effect_drained count by
effect_of (EndWake processor now) (Placed task to by steps) = Passes
effect_of e r = Breaks

-- the lags after a measure: the greatest of what any task is owed
abbrev pub owing : Option Charge → Lags → Lags
owing None l = l
owing (Some c) l = record l { measured = saturating_sum l.measured 1; greatest = Some (greater l.greatest c) }

-- the lags after a task was pulled away: no stretch goes on
abbrev pub forgotten : Lags → Lags
forgotten l = record l { stretch = None }

-- if the stretch goes on, the glance shows that no task is owed more than one was before
abbrev pub is_within : Effect → Glance → Stretch → Charge → Bool
is_within Breaks g s best = false
is_within c g s best = nat_le (min (at_most_owed g s) (2 ^ 64 - 1)) best.difference

-- `is_within` for the stretch and the greatest lag, if both exist
abbrev pub is_within_of : Effect → Glance → Option Stretch → Option Charge → Bool
is_within_of c g (Some s) (Some best) = is_within c g s best
is_within_of c g s best = false

-- whether the lags after an event are known without a look at each task
abbrev pub needs_no_look : Effect → Glance → Lags → Bool
needs_no_look c g l = is_within_of c g l.stretch l.greatest

-- the lags with a stretch that begins with these tasks
abbrev pub begun_anew : List Task → Lags → Lags
begun_anew xs l = record l { stretch = Some (beginning xs); left_out = saturating_sum l.left_out 1 }

-- if the discipline decides, the clock's rise is counted from there
abbrev pub decided_in : Effect → Stretch → Stretch
decided_in Decides s = record s { since = 0 }
decided_in c s = s

-- the lags when the stretch goes on: a measure, and perhaps a decision
abbrev pub gone_on : Effect → ℕ → List Task → Stretch → Lags → Lags
gone_on c rise xs s l = record (owing (most_owed (stretched rise s) xs) l) { stretch = Some (decided_in c (stretched rise s)) }

-- the lags after an event, from the stretch before it, the rise of the clock and the tasks after it
abbrev pub lags_by : Effect → Option Stretch → ℕ → List Task → Lags → Lags
lags_by c None rise xs l = begun_anew xs l
lags_by Breaks (Some s) rise xs l = begun_anew xs l
lags_by Passes (Some s) rise xs l = gone_on Passes rise xs s l
lags_by Decides (Some s) rise xs l = gone_on Decides rise xs s l

-- the lags after an event, from the rise of the clock and the tasks after it
abbrev pub lags_after : Effect → ℕ → List Task → Lags → Lags
lags_after c rise xs l = lags_by c l.stretch rise xs l

-- the lags of a processor
abbrev pub lags_of : List Lags → ℕ → Lags
lags_of ls processor = slice_index_or ls processor no_lags

-- a pull ends the stretch of the processor that it takes a task from
abbrev pub source_forgotten : Event → Reply → List Lags → List Lags
source_forgotten (Pull processor from now) (Pulled (Some id) run by steps) ls = slice_set ls from (forgotten (lags_of ls from))
source_forgotten e r ls = ls

-- the lags of all processors after an event of one of them
abbrev pub all_lags_after : ℕ → Event → Reply → ℕ → List Task → List Lags → List Lags
all_lags_after processor e r rise xs ls = source_forgotten e r (slice_set ls processor (lags_after (effect_of e r) rise xs (lags_of ls processor)))

-- if the glance holds for these tasks of the processor, the new lags are the old ones after the event
abbrev pub LagsByGlance : ℕ → Event → Reply → ℕ → Glance → List Task → List Lags → List Lags → Type 0
LagsByGlance processor e r rise glance xs old new = IsGlance glance (lags_of old processor).stretch xs → new ≡ all_lags_after processor e r rise xs old
