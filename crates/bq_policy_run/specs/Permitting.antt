-- What the rule says of an answer, by what the context of a hook shows.
use Rattle.std.specs.Prelude.{ℕ, ◌+◌, ◌*◌, Bool, ◌==◌, ◌||◌, ◌&&◌, min, nat_lt, List, map, slice_range, if◌then◌else◌}
use Rattle.std.specs.List.{list_any, range_with_len}
use Rattle.byteorder.specs.Endian.{little_number}
use Rattle.bq_hooks.specs.Contexts.{nobody}
use Rattle.bq_disc.specs.Masks.{allows}
use Rattle.bq_hooks.specs.Permitted.{may_preempt}
use Rattle.bq_hooks.specs.declared.hook.Hook.{Hook}
use Rattle.bq_hooks.specs.declared.hook.Hook.TheVariants.{Place, Preempt, Pull}
use Rattle.bq_policy_run.specs.declared.permitted.Permission.{Permission}
use Rattle.bq_policy_run.specs.declared.permitted.Permission.TheVariants.{Permitted, NotPermitted, NotShown}

-- the number that the four bytes at this place write
abbrev pub context_number : List ℕ → ℕ → ℕ
context_number context at = little_number 4 (slice_range context at (at + 4))

-- one of as many processors as the context says, in the mask that it shows; a mask has 64 bits
abbrev pub place_permits : List ℕ → ℕ → Bool
place_permits context r0 =
    nat_lt r0 (context_number context 32) && (nat_lt r0 64 && allows (little_number 8 (slice_range context 8 16)) r0)

-- the id of the task that is shown at that place
abbrev pub shown_id : List ℕ → ℕ → ℕ
shown_id context place = context_number context (32 + 16 * place)

-- the ids of the movable tasks that the context shows: as many as it says, eight at most
abbrev pub shown_ids : List ℕ → List ℕ
shown_ids context = map (shown_id context) (range_with_len 0 (min (context_number context 20) 8))

-- a pull context shows a task
abbrev pub shows_task : List ℕ → ℕ → Bool
shows_task context r0 = list_any (λ id. id == r0) (shown_ids context)

-- more tasks are movable than are shown
abbrev pub hides_tasks : List ℕ → Bool
hides_tasks context = nat_lt (context_number context 20) (context_number context 16)

-- a processor that the context shows, in the mask
abbrev pub place_permission : List ℕ → ℕ → Permission
place_permission context r0 = if place_permits context r0 then Permitted else NotPermitted

-- the answer decides
abbrev pub preempt_permission : ℕ → Permission
preempt_permission r0 = if may_preempt r0 then Permitted else NotPermitted

-- permitted: no task, or one that is shown. Another may be movable only if not all movable tasks are shown
abbrev pub pull_permission : List ℕ → ℕ → Permission
pull_permission context r0 =
    if r0 == nobody || shows_task context r0 then Permitted else if hides_tasks context then NotShown else NotPermitted

-- the word on an answer, for a context of the hook
abbrev pub permission_of : Hook → List ℕ → ℕ → Permission
permission_of Place context r0 = place_permission context r0
permission_of Preempt context r0 = preempt_permission r0
permission_of Pull context r0 = pull_permission context r0
