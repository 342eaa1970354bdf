-- What may still come at an instant once a task has done an action.
use Rattle.std.proofs.Common.{◌≡◌, ℕ, suc, ◌+◌, ◌-◌, ◌*◌, ◌/◌, ◌<◌, ◌≤◌, ◌^◌, Bool, true, false, List, [], ◌∷◌, ◌++◌, length, Option, Some, None, refl, sym, ap, ◌∙◌, arith, drop, max, min}
use Rattle.std.specs.Prelude.{◌&&◌, ◌||◌, ◌==◌, if◌then◌else◌, nat_le, nat_lt, option_and_then, slice_get}
use Rattle.std.specs.List.{list_any}
use Rattle.std.specs.Option.{option_map_or}
use Rattle.std.proofs.lemmas.Bool.{and_parts, le-leb, leb-true, lt-leb, ne_eqb}
use Rattle.std.proofs.lemmas.List.{drop_all}
use Rattle.std.proofs.lemmas.List.Folds.{list_any-append}
use Rattle.std.proofs.lemmas.Option.{none-some}
use Rattle.bq_workload.specs.declared.action.Action.{Action}
use Rattle.bq_workload.specs.declared.action.Action.TheVariants.{Run, Sleep, Wait, Wake}
use Rattle.bq_workload.specs.declared.action.Length.{Length}
use Rattle.bq_workload.specs.declared.action.Length.TheVariants.{Fixed, Uniform, Exponential}
use Rattle.bq_workload.specs.declared.processor_state.ProcessorState.{ProcessorState}
use Rattle.bq_workload.specs.declared.progress.TaskProgress.{TaskProgress}
use Rattle.bq_workload.specs.declared.progress.TaskState.{TaskState}
use Rattle.bq_workload.specs.declared.progress.TaskState.TheVariants.{Runnable}
use Rattle.bq_workload.specs.declared.workload.TaskKind.{TaskKind}
use Rattle.bq_workload.specs.Accounts.{is_same}
use Rattle.bq_workload.specs.Draws.{length_drawn, logarithm}
use Rattle.bq_workload.specs.Kinds.{kind_count}
use Rattle.bq_workload.specs.Lengths.{is_length, longest, takes_time}
use Rattle.bq_workload.specs.Soundness.{is_action}
use Rattle.bq_simulate.specs.Actions.{acted, action_at, action_count, advanced_in, asked_by, next_action, woken_one_in}
use Rattle.bq_simulate.specs.AtOnce.{actions_ahead, kind_actions, left_in, left_of_task, steps_ahead, steps_until, uncounted}
use Rattle.bq_simulate.specs.Deeds.{length_taken}
use Rattle.bq_simulate.proofs.MeetAgreeLemmas.{advanced_state, woken_one_state}
use Rattle.bq_simulate.proofs.StandsAtActionLemmas.{else_of}
use Rattle.bq_simulate.proofs.StepsAheadLemmas.{dropped-first, steps-first, steps-some}
use Rattle.bq_disc.specs.declared.clock.TheConstants.{LATEST}

-- Lengths

-- each length that is drawn is one at least
drawn-some : (asked : Length) (first second : ℕ) → is_length asked ≡ true → 1 ≤ length_drawn asked first second
drawn-some (Fixed n) first second h = leb-true 1 n (and_parts (nat_le 1 n) (nat_le n longest) h).0
drawn-some (Uniform least greatest) first second h =
    let some =
    leb-true 1 least (and_parts (nat_le 1 least) (nat_le least greatest)
    (and_parts (nat_le 1 least && nat_le least greatest) (nat_le greatest longest) h).0).0 in
    omega (arith, some)
drawn-some (Exponential mean) first second h = capped (logarithm first second * 2977044472 * mean / 2 ^ 64)
  where
    capped : (n : ℕ) → 1 ≤ min (max n 1) longest
    capped n = omega arith

-- the length of an action that takes one is one at least
taken-some : (seed task : ℕ) (drawn : List ℕ) (asked : Length) → is_length asked ≡ true → 1 ≤ length_taken seed task drawn (Some asked)
taken-some seed task drawn asked h = drawn-some asked _ _ h

-- What is ahead

-- the action that a task does next is that of its kind at which it stands
at-kind : (c : TaskProgress) (action : Action) (o : Option TaskKind)
    → option_and_then (λ (kind : TaskKind). action_at kind c) o ≡ Some action
    → slice_get (option_map_or (λ (kind : TaskKind). kind.actions.items) o []) c.action ≡ Some action
at-kind c action None h = absurd (none-some action h)
at-kind c action (Some kind) h = else_of (is_same kind.loops (Some c.loops)) (slice_get kind.actions.items c.action) action h

-- a task's next action stands among all that tasks of its kind do
pub stands-at : (kinds : List TaskKind) (c : TaskProgress) (action : Action)
    → next_action kinds c ≡ Some action → slice_get (kind_actions kinds c.kind) c.action ≡ Some action
stands-at kinds c action h = at-kind c action (slice_get kinds c.kind) h

-- the actions ahead begin with the action at which the task stands
ahead-is : (kinds : List TaskKind) (c : TaskProgress) (action : Action)
    → next_action kinds c ≡ Some action
    → steps_ahead kinds c
    ≡ steps_until kinds c.woken (action ∷ (drop (suc c.action) (kind_actions kinds c.kind) ++ kind_actions kinds c.kind))
ahead-is kinds c action next =
    ap (λ (l : List Action). steps_until kinds c.woken (l ++ kind_actions kinds c.kind))
    (dropped-first (kind_actions kinds c.kind) c.action action (stands-at kinds c action next))

-- one of what is ahead takes time
ahead-some : (kinds : List TaskKind) (c : TaskProgress) → list_any takes_time (kind_actions kinds c.kind) ≡ true → 1 ≤ steps_ahead kinds c
ahead-some kinds c h =
    steps-some kinds c.woken (actions_ahead kinds c)
    (list_any-append takes_time (drop c.action (kind_actions kinds c.kind)) (kind_actions kinds c.kind)
    ∙ either (list_any takes_time (drop c.action (kind_actions kinds c.kind))) (list_any takes_time (kind_actions kinds c.kind)) h)
  where
    either : (a b : Bool) → b ≡ true → (a || b) ≡ true
    either true b h = refl
    either false b h = h

-- a task goes through as many actions as its kind has
count-is : (kinds : List TaskKind) (c : TaskProgress) → action_count kinds c ≡ length (kind_actions kinds c.kind)
count-is kinds c =
    elim (slice_get kinds c.kind) as (λ (o : Option TaskKind).
    option_map_or (λ (kind : TaskKind). length kind.actions.items) o 0
    ≡ length (option_map_or (λ (kind : TaskKind). kind.actions.items) o [])) [ None ↦ refl | Some kind ↦ refl ]

-- once it has come to the next action, what was behind is ahead
advanced-by_test : (kinds : List TaskKind) (c : TaskProgress) (b : Bool)
    → nat_le (action_count kinds c) (c.action + 1) ≡ b → list_any takes_time (kind_actions kinds c.kind) ≡ true
    → steps_ahead kinds (if b
    then record c { action = 0; woken = 0; loops = min (c.loops + 1) (2 ^ 64 - 1) }
    else record c { action = c.action + 1; woken = 0 })
    ≡ steps_until kinds 0 (drop (suc c.action) (kind_actions kinds c.kind) ++ kind_actions kinds c.kind)
advanced-by_test kinds c true test h =
    let xs = kind_actions kinds c.kind in
    let all : length xs ≤ suc c.action = omega (arith, leb-true (action_count kinds c) (c.action + 1) test, count-is kinds c) in
    steps-first kinds 0 xs xs h ∙ sym (ap (λ (l : List Action). steps_until kinds 0 (l ++ xs)) (drop_all (suc c.action) xs all))
advanced-by_test kinds c false test h =
    let xs = kind_actions kinds c.kind in
    let e : c.action + 1 ≡ suc c.action = omega arith in
    ap (λ n. steps_until kinds 0 (drop n xs ++ xs)) e

-- a task that goes on has ahead of it the actions after this one, and then one more round
advanced-ahead : (kinds : List TaskKind) (c : TaskProgress) → list_any takes_time (kind_actions kinds c.kind) ≡ true
    → steps_ahead kinds (advanced_in kinds c)
    ≡ steps_until kinds 0 (drop (suc c.action) (kind_actions kinds c.kind) ++ kind_actions kinds c.kind)
advanced-ahead kinds c h = advanced-by_test kinds c (nat_le (action_count kinds c) (c.action + 1)) refl h

-- a wait takes a step
waited-ahead : (kinds : List TaskKind) (c : TaskProgress) → list_any takes_time (kind_actions kinds c.kind) ≡ true
    → next_action kinds c ≡ Some Wait
    → steps_ahead kinds (advanced_in kinds c) + 1 ≤ steps_ahead kinds c
waited-ahead kinds c h next = omega (arith, advanced-ahead kinds c h, ahead-is kinds c Wait next)

-- a wake takes a step for each task that it wakes
woken-by_test : (kinds : List TaskKind) (kind : ℕ) (c : TaskProgress) (b : Bool)
    → nat_lt (c.woken + 1) (kind_count kinds kind) ≡ b → list_any takes_time (kind_actions kinds c.kind) ≡ true
    → next_action kinds c ≡ Some (Wake kind) → c.woken < kind_count kinds kind
    → steps_ahead kinds (if b then record c { woken = c.woken + 1 } else advanced_in kinds c) + 1 ≤ steps_ahead kinds c
woken-by_test kinds kind c true test h next low =
    omega (arith, low, ahead-is kinds c (Wake kind) next, ahead-is kinds (record c { woken = c.woken + 1 }) (Wake kind) next)
woken-by_test kinds kind c false test h next low = omega (arith, low, ahead-is kinds c (Wake kind) next, advanced-ahead kinds c h)

-- a wake that comes to one more task has one step less ahead of it
woken-ahead : (kinds : List TaskKind) (kind : ℕ) (c : TaskProgress)
    → list_any takes_time (kind_actions kinds c.kind) ≡ true → next_action kinds c ≡ Some (Wake kind)
    → c.woken < kind_count kinds kind
    → steps_ahead kinds (woken_one_in kinds kind c) + 1 ≤ steps_ahead kinds c
woken-ahead kinds kind c h next low = woken-by_test kinds kind c (nat_lt (c.woken + 1) (kind_count kinds kind)) refl h next low

-- What is left

-- a task that can run, and whose phase is not done, takes no step at this instant
runs-left : (s : TaskState) (rings : Bool) (steps : ℕ) → s ≡ Runnable → left_in s rings false steps ≡ 0
runs-left s rings steps is = ap (λ (x : TaskState). left_in x rings false steps) is

-- a task that can run has no more left than its steps
pub at-most : (s : TaskState) (rings done : Bool) (steps : ℕ) → s ≡ Runnable → left_in s rings done steps ≤ steps * 2
at-most s rings true steps is =
    let e : left_in s rings true steps ≡ steps * 2 = ap (λ (x : TaskState). left_in x rings true steps) is in omega (arith, e)
at-most s rings false steps is = omega (arith, runs-left s rings steps is)

-- of a task that can run, has done its phase, and does its next action: two are taken, for the action and for a processor that it may leave
-- idle
pub act-takes : (kinds : List TaskKind) (now seed task : ℕ) (drawn : List ℕ) (ls : List ProcessorState) (c : TaskProgress)
    → now ≤ LATEST → list_any takes_time (kind_actions kinds c.kind) ≡ true
    → ((action : Action) → next_action kinds c ≡ Some action → is_action (length kinds) action ≡ true)
    → ((number : ℕ) → next_action kinds c ≡ Some (Wake number) → c.woken < kind_count kinds number) → c.task_state ≡ Runnable
    → c.got ≡ c.due → uncounted now ls task ≡ 0 → (action : Option Action) → next_action kinds c ≡ action
    → left_of_task kinds now ls task (acted kinds action (length_taken seed task drawn (asked_by action)) now c) + 2
    ≤ left_of_task kinds now ls task c
act-takes kinds now seed task drawn ls c early some sound low runs done none action next =
    omega (arith, before, ahead-some kinds c some, after action next)
  where
    before : left_of_task kinds now ls task c ≡ steps_ahead kinds c * 2
    before =
        ap (λ (x : TaskState). left_in x (c.timer == now) (nat_le c.due (c.got + uncounted now ls task)) (steps_ahead kinds c)) runs
        ∙ ap (λ b. left_in Runnable (c.timer == now) b (steps_ahead kinds c))
        (le-leb c.due (c.got + uncounted now ls task) (omega (arith, done)))

    after : (action : Option Action) → next_action kinds c ≡ action
        → left_of_task kinds now ls task (acted kinds action (length_taken seed task drawn (asked_by action)) now c) + 2
        ≤ steps_ahead kinds c * 2
    after None next = omega (arith, ahead-some kinds c some)
    after (Some (Run asked)) next =
        let long : ℕ = length_taken seed task drawn (Some asked) in
        let e : TaskProgress = acted kinds (Some (Run asked)) long now c in
        let more : nat_le long (0 + uncounted now ls task) ≡ false =
        lt-leb long (0 + uncounted now ls task)
        (omega (arith, none, taken-some seed task drawn asked (sound (Run asked) next))) in
        let k : left_of_task kinds now ls task e ≡ 0 =
        ap (λ b. left_in e.task_state (e.timer == now) b (steps_ahead kinds e)) more
        ∙ runs-left e.task_state (e.timer == now) (steps_ahead kinds e) (advanced_state (action_count kinds c) c ∙ runs) in
        omega (arith, k, ahead-some kinds c some)
    after (Some (Sleep asked)) next =
        let long : ℕ = length_taken seed task drawn (Some asked) in
        let e : TaskProgress = acted kinds (Some (Sleep asked)) long now c in
        let rings : (e.timer == now) ≡ false =
        ne_eqb e.timer now (λ is. omega (arith, early, is, taken-some seed task drawn asked (sound (Sleep asked) next))) in
        let k : left_of_task kinds now ls task e ≡ 0 = ap (λ b. if b then 2 + steps_ahead kinds e * 2 else 0) rings in
        omega (arith, k, ahead-some kinds c some)
    after (Some Wait) next = omega (arith, waited-ahead kinds c some next)
    after (Some (Wake kind)) next =
        let e : TaskProgress = acted kinds (Some (Wake kind)) 0 now c in
        omega (
          arith,
          woken-ahead kinds kind c some next (low kind next),
          at-most e.task_state (e.timer == now) (nat_le e.due (e.got + uncounted now ls task)) (steps_ahead kinds e)
              (woken_one_state kinds kind c ∙ runs),
        )
