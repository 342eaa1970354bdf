-- How long tasks wait, as pulls and starts tell it, is what the history says.
use Rattle.std.proofs.Common.{◌≡◌, ◌≢◌, ℕ, ◌+◌, ◌-◌, ◌^◌, ◌<◌, ◌≤◌, Bool, true, false, not, [], ◌∷◌, length, Option, Some, None, Result, Ok, Err, refl, sym, ap, ◌∙◌, inl, inr, eqb, cond, subst, zero-add, arith}
use Rattle.std.specs.Prelude.{◌&&◌, ◌||◌, unwrap_or}
use Rattle.std.specs.Option.{option_map}
use Rattle.std.proofs.lemmas.Bool.Decides.{eqb_tells, nat_tests}
use Rattle.std.proofs.lemmas.List.{get_or-replicate, length-set}
use Rattle.bq_disc.specs.OneProcessor.{reading}
use Rattle.bq_parts.specs.declared.event.Event.{Event}
use Rattle.bq_parts.specs.declared.event.Event.TheVariants.{Admit, EndWake, Drain, Tick, Block, Pull}
use Rattle.bq_parts.specs.declared.reply.Reply.{Reply}
use Rattle.bq_parts.specs.declared.reply.Reply.TheVariants.{Admitted, Placed, Drained, Ticked, Blocked as Went, Pulled}
use Rattle.bq_parts.specs.declared.refusal.Refusal.{Refusal}
use Rattle.bq_hooks.specs.declared.hook.Hook.TheVariants.{Place, Preempt, Pull as OnPull}
use Rattle.bq_schedule.specs.declared.slice.Slice.{Slice}
use Rattle.bq_schedule.specs.declared.change.Change.{Change}
use Rattle.bq_schedule.specs.declared.change.Decision.{Decision}
use Rattle.bq_schedule.specs.declared.change.PulledTask.{PulledTask}
use Rattle.bq_schedule.specs.declared.change.Start.{Start}
use Rattle.bq_schedule.specs.declared.change.StopReason.{StopReason}
use Rattle.bq_schedule.specs.declared.change.StopReason.TheVariants.{Preempted, Blocked}
use Rattle.bq_schedule.specs.declared.figures.ProcessorFigures.{ProcessorFigures}
use Rattle.bq_schedule.specs.declared.figures.TaskFigures.{TaskFigures}
use Rattle.bq_disc.specs.Counts.{saturating_sum}
use Rattle.bq_schedule.specs.Histories.{AnsweredEvent, History}
use Rattle.bq_schedule.specs.Figures.{Figures, unknown, processor_in_figures, task_in_figures, figures_with_processor, figures_with_task}
use Rattle.bq_schedule.specs.Passing.{figures_read, with_charged, processor_read, slice_at}
use Rattle.bq_schedule.specs.Runnable.{left_from, figures_left, processor_joined, comes}
use Rattle.bq_schedule.specs.Running.{running_task, stopped, started, starts_as, start_of, start_at, begun_if, figures_switched, is_run_by, with_latency}
use Rattle.bq_schedule.specs.Slices.{shown_by_reply, shown_by_answer, clock, is_this}
use Rattle.bq_schedule.specs.Steps.{nothing, figures_counted, waited_there, figures_taken, pulled_report, moves_as, placed, figures_pulled, performed, report_of_answer, time_at, is_there, figures_after, change, figures}
use Rattle.bq_schedule.specs.Waits.{gives_way, then_if, wait_begins, waits_since, wait_of_pull, wait_of_start, reported_wait}
use Rattle.bq_schedule.specs.Laws.{IsShownWithin, IsOfProcessors, ReportsWaits, AddsUpWaits}
use Rattle.bq_schedule.proofs.TestLemmas.{Tells}
use Rattle.bq_schedule.proofs.CountLemmas.{saturating_sum-both}
use Rattle.bq_schedule.proofs.FrameLemmas.{task_kept, task_set, who_is}
use Rattle.bq_schedule.proofs.ClockLemmas.{figures-clocks, within-figures, shown_by_reply-none}
use Rattle.bq_schedule.proofs.SumLemmas.{tasks-figures}
use Rattle.bq_schedule.proofs.WakeLemmas.{runs-counted, runs-block, runs-pull}
use Rattle.bq_schedule.proofs.SwitchLemmas.{not_who, of_some}

-- what keeps since when tasks wait, and how long they have
pub record KeepsWaits (s s' : Figures) : Type 0 where
  pub waiting_since : (id : ℕ) → (task_in_figures s' id).waiting_since ≡ (task_in_figures s id).waiting_since
  pub waited : (id : ℕ) → (task_in_figures s' id).waited ≡ (task_in_figures s id).waited
  pub tasks : length s'.tasks ≡ length s.tasks

-- what changes nothing keeps waits; so do two such steps, a task set with the same waits, and a processor that is set:
same : (s : Figures) → KeepsWaits s s
same s = record { waiting_since = λ id. refl; waited = λ id. refl; tasks = refl }

both : (s t u : Figures) → KeepsWaits s t → KeepsWaits t u → KeepsWaits s u
both s t u a b = record { waiting_since = λ id. b.waiting_since id ∙ a.waiting_since id; waited = λ id. b.waited id ∙ a.waited id; tasks = b.tasks ∙ a.tasks }

with_one : (s : Figures) (i : ℕ) (t : TaskFigures) → t.waiting_since ≡ (task_in_figures s i).waiting_since → t.waited ≡ (task_in_figures s i).waited
    → KeepsWaits s (figures_with_task s i t)
with_one s i t e f = record {
  waiting_since = λ id. task_kept (λ (u : TaskFigures). u.waiting_since) s i id t e;
  waited = λ id. task_kept (λ (u : TaskFigures). u.waited) s i id t f;
  tasks = length-set s.tasks i t;
}

of_processor : (s : Figures) (i : ℕ) (p : ProcessorFigures) → KeepsWaits s (figures_with_processor s i p)
of_processor s i p = record { waiting_since = λ id. refl; waited = λ id. refl; tasks = refl }

-- to charge a task for a slice keeps waits, and so does a decision that is counted after a reading:
kept-with_charged : (s : Figures) (o : Option Slice) → KeepsWaits s (with_charged s o)
kept-with_charged s None = same s
kept-with_charged s (Some x) = with_one s x.task _ refl refl

kept-counted : (processor now : ℕ) (d : Decision) (s : Figures) → KeepsWaits s (figures_counted processor d (figures_read processor now s))
kept-counted processor now d s =
    let r = figures_with_processor s processor (processor_read processor (processor_in_figures s processor) now) in
    both s (figures_read processor now s) _
    (both s r _ (of_processor s processor _) (kept-with_charged r (slice_at processor (processor_in_figures s processor) now)))
    (of_processor (figures_read processor now s) processor _)

-- a task that leaves its processor keeps waits, also after a reading:
kept-left_from : (id : ℕ) (s : Figures) (processor : Option ℕ) → KeepsWaits s (left_from id s processor)
kept-left_from id s None = same s
kept-left_from id s (Some processor) = both s _ _ (of_processor s processor _) (with_one _ id _ refl refl)

kept-leaves : (id : ℕ) (s : Figures) → KeepsWaits s (figures_left id s)
kept-leaves id s = kept-left_from id s (task_in_figures s id).processor

kept-block : (processor now id : ℕ) (s : Figures) → KeepsWaits s (figures_left id (figures_read processor now s))
kept-block processor now id s =
    let r = figures_with_processor s processor (processor_read processor (processor_in_figures s processor) now) in
    both s (figures_read processor now s) _
    (both s r _ (of_processor s processor _) (kept-with_charged r (slice_at processor (processor_in_figures s processor) now)))
    (kept-leaves id (figures_read processor now s))

-- a count that holds stays where nothing more comes
saturating_sum-none : (n : ℕ) → n ≤ 2 ^ 64 - 1 → n ≡ saturating_sum n 0
saturating_sum-none n h = omega arith

-- one task's count is so much further
saturating_sum-at : (s : Figures) (i j more : ℕ) (b : Bool) → Tells b (i ≡ j) (i ≢ j)
    → (task_in_figures s j).waited ≤ 2 ^ 64 - 1
    → cond b (saturating_sum (task_in_figures s i).waited more) (task_in_figures s j).waited ≡ saturating_sum (task_in_figures s j).waited (cond b more 0)
saturating_sum-at s i j more true (inl e) h = ap (λ k. saturating_sum (task_in_figures s k).waited more) e.1
saturating_sum-at s i j more false (inl e) h = absurd (cc)
saturating_sum-at s i j more true (inr e) h = absurd (cc)
saturating_sum-at s i j more false (inr e) h = omega arith

-- a task that comes to a processor waits from then on
since-comes : (id processor at : ℕ) (s : Figures) (j : ℕ) → j < length s.tasks
    → (task_in_figures (comes id processor at s) j).waiting_since ≡ cond (eqb id j) at (task_in_figures s j).waiting_since
since-comes id processor at s j inside =
    let l = figures_left id s in
    let k = kept-leaves id s in
    let q = figures_with_processor l processor (processor_joined (processor_in_figures l processor) (task_in_figures l id).weight) in
    task_set (λ (t : TaskFigures). t.waiting_since) q id j _ (λ same. omega (arith, k.tasks)) ∙ ap (λ n. cond (eqb id j) at n) (k.waiting_since j)

-- to come to a processor adds nothing to how long a task has waited
waited-comes : (id processor at : ℕ) (s : Figures) (j : ℕ) → (task_in_figures (comes id processor at s) j).waited ≡ (task_in_figures s j).waited
waited-comes id processor at s j =
    let l = figures_left id s in
    let q = figures_with_processor l processor (processor_joined (processor_in_figures l processor) (task_in_figures l id).weight) in
    task_kept (λ (t : TaskFigures). t.waited) q id j _ refl ∙ (kept-leaves id s).waited j

-- a task that is pulled, if there is one, waits from then on
since-taken : (processor at : ℕ) (task : Option ℕ) (s : Figures) (j : ℕ)
    → j < length s.tasks
    → (task_in_figures (figures_taken processor at task s) j).waiting_since ≡ cond (is_this j task) at (task_in_figures s j).waiting_since
since-taken processor at None s j inside = refl
since-taken processor at (Some id) s j inside =
    let w = waited_there id at s in
    since-comes id processor at w j
    (omega (
      arith,
      length-set s.tasks id (record (task_in_figures s id) { waited = saturating_sum (task_in_figures s id).waited (at - (task_in_figures s id).waiting_since) }),
    ))
    ∙ ap (λ n. cond (eqb id j) at n) (task_kept (λ (t : TaskFigures). t.waiting_since) s id j _ refl)

-- what it has waited counts
waited-taken : (processor from at : ℕ) (task : Option ℕ) (s : Figures) (j : ℕ)
    → j < length s.tasks → (task_in_figures s j).waited ≤ 2 ^ 64 - 1
    → (task_in_figures (figures_taken processor at task s) j).waited
    ≡ saturating_sum (task_in_figures s j).waited (wait_of_pull j (moves_as from processor at task s))
waited-taken processor from at None s j inside h = saturating_sum-none (task_in_figures s j).waited h
waited-taken processor from at (Some id) s j inside h =
    waited-comes id processor at (waited_there id at s) j
    ∙ task_set (λ (t : TaskFigures). t.waited) s id j _ (λ same. inside)
    ∙ saturating_sum-at s id j (at - (task_in_figures s id).waiting_since) (eqb id j) (eqb_tells id j) h

-- one that is preempted waits from then on, and one that blocks does not
abbrev pub if_preempted : StopReason → Bool → Bool
if_preempted Preempted b = b
if_preempted Blocked b = false

-- after a stop the task that ran waits from then on, if it was preempted
since-stopped : (reason : StopReason) (at : ℕ) (running : Option Start) (s : Figures) (j : ℕ)
    → j < length s.tasks
    → (task_in_figures (stopped reason at running s) j).waiting_since
    ≡ cond (if_preempted reason (is_this j (option_map (λ (x : Start). x.task) running))) at (task_in_figures s j).waiting_since
since-stopped Preempted at None s j inside = refl
since-stopped Blocked at None s j inside = refl
since-stopped Blocked at (Some old) s j inside = refl
since-stopped Preempted at (Some old) s j inside = task_set (λ (t : TaskFigures). t.waiting_since) s old.task j _ (λ same. inside)

-- a stop adds nothing to how long tasks have waited, and leaves as many tasks as before:
waited-stopped : (reason : StopReason) (at : ℕ) (running : Option Start) (s : Figures) (j : ℕ)
    → (task_in_figures (stopped reason at running s) j).waited ≡ (task_in_figures s j).waited
waited-stopped reason at None s j = refl
waited-stopped Blocked at (Some old) s j = refl
waited-stopped Preempted at (Some old) s j = task_kept (λ (t : TaskFigures). t.waited) s old.task j _ refl

tasks-stopped : (reason : StopReason) (at : ℕ) (running : Option Start) (s : Figures) → length (stopped reason at running s).tasks ≡ length s.tasks
tasks-stopped reason at None s = refl
tasks-stopped Blocked at (Some old) s = refl
tasks-stopped Preempted at (Some old) s = length-set s.tasks old.task _

-- the start of a task leaves since when each waits:
since-with_latency : (t : TaskFigures) (o : Option ℕ) → (with_latency t o).waiting_since ≡ t.waiting_since
since-with_latency t None = refl
since-with_latency t (Some n) = refl

since-begun_if : (processor at : ℕ) (run : Option ℕ) (s : Figures) (j : ℕ)
    → (task_in_figures (begun_if processor at run s) j).waiting_since ≡ (task_in_figures s j).waiting_since
since-begun_if processor at None s j = refl
since-begun_if processor at (Some id) s j = task_kept (λ (t : TaskFigures). t.waiting_since) s id j _ (since-with_latency (task_in_figures s id) _)

-- the start of a task counts what it has waited
waited-begun_if : (processor at : ℕ) (run : Option ℕ) (s : Figures) (j : ℕ)
    → j < length s.tasks → (task_in_figures s j).waited ≤ 2 ^ 64 - 1
    → (task_in_figures (begun_if processor at run s) j).waited
    ≡ saturating_sum (task_in_figures s j).waited (wait_of_start j (starts_as processor at run s))
waited-begun_if processor at None s j inside h = saturating_sum-none (task_in_figures s j).waited h
waited-begun_if processor at (Some id) s j inside h =
    task_set (λ (t : TaskFigures). t.waited) s id j _ (λ same. inside)
    ∙ saturating_sum-at s id j (at - (task_in_figures s id).waiting_since) (eqb id j) (eqb_tells id j) h

-- where there is said to be this number, it is this one
is_this-shows : (j : ℕ) (o : Option ℕ) → is_this j o ≡ true → o ≡ Some j
is_this-shows j None e = cc
is_this-shows j (Some k) e =
    let same : k ≡ j = grind (arith, nat_tests) in
    ap (λ (n : ℕ). Some n) same

-- who ran gives way where another runs now
gives_way-new : (j : ℕ) (w run : Option ℕ) (b c : Bool) → is_this j w ≡ b → is_this j run ≡ c → w ≢ run → (b && not c) ≡ b
gives_way-new j w run true true e f ne = absurd (ne (is_this-shows j w e ∙ sym (is_this-shows j run f)))
gives_way-new j w run true false e f ne = refl
gives_way-new j w run false c e f ne = refl

-- a task that runs on does not give way, and none is preempted where none gives way:
gives_way-same : (b : Bool) → (b && not b) ≡ false
gives_way-same true = refl
gives_way-same false = refl

none-preempted : (reason : StopReason) → if_preempted reason false ≡ false
none-preempted Preempted = refl
none-preempted Blocked = refl

-- since when a task waits after a switch, by whether another runs
since-switched_if : (b : Bool) (reason : StopReason) (processor at : ℕ) (run : Option ℕ) (s : Figures) (j : ℕ)
    → is_run_by (processor_in_figures s processor).running run ≡ b → j < length s.tasks
    → (task_in_figures (cond b s (started processor at run (stopped reason at (processor_in_figures s processor).running s))) j).waiting_since
    ≡ cond (if_preempted reason (gives_way j (running_task (processor_in_figures s processor)) run)) at (task_in_figures s j).waiting_since
since-switched_if true reason processor at run s j e inside =
    let running = (processor_in_figures s processor).running in
    let same : running_task (processor_in_figures s processor) ≡ run = who_is running run e in
    sym (ap (λ b. cond (if_preempted reason b) at (task_in_figures s j).waiting_since)
    (ap (λ w. is_this j w && not (is_this j run)) same ∙ gives_way-same (is_this j run))
    ∙ ap (λ b. cond b at (task_in_figures s j).waiting_since) (none-preempted reason))
since-switched_if false reason processor at run s j e inside =
    let running = (processor_in_figures s processor).running in
    since-begun_if processor at run (stopped reason at running s) j ∙ since-stopped reason at running s j inside
    ∙ ap (λ b. cond (if_preempted reason b) at (task_in_figures s j).waiting_since)
    (sym (gives_way-new j (running_task (processor_in_figures s processor)) run (is_this j (running_task (processor_in_figures s processor)))
    (is_this j run) refl refl (not_who running run e)))

-- after a switch the task that gave way waits, where it is preempted
since-switched : (reason : StopReason) (processor at : ℕ) (run : Option ℕ) (s : Figures) (j : ℕ)
    → j < length s.tasks
    → (task_in_figures (figures_switched reason processor at run s) j).waiting_since
    ≡ cond (if_preempted reason (gives_way j (running_task (processor_in_figures s processor)) run)) at (task_in_figures s j).waiting_since
since-switched reason processor at run s j inside =
    since-switched_if (is_run_by (processor_in_figures s processor).running run) reason processor at run s j refl inside

-- how long a task has waited after a switch, by whether another runs
waited-switched_if : (b : Bool) (reason : StopReason) (processor at : ℕ) (run : Option ℕ) (s : Figures) (j : ℕ)
    → j < length s.tasks → (task_in_figures s j).waited ≤ 2 ^ 64 - 1
    → let u = stopped reason at (processor_in_figures s processor).running s in
    (task_in_figures (cond b s (started processor at run u)) j).waited
    ≡ saturating_sum (task_in_figures s j).waited (wait_of_start j (cond b None (starts_as processor at run u)))
waited-switched_if true reason processor at run s j inside h = saturating_sum-none (task_in_figures s j).waited h
waited-switched_if false reason processor at run s j inside h =
    let running = (processor_in_figures s processor).running in
    let u = stopped reason at running s in
    let w = waited-stopped reason at running s j in
    waited-begun_if processor at run u j (omega (arith, tasks-stopped reason at running s)) (omega (arith, w))
    ∙ ap (λ n. saturating_sum n (wait_of_start j (starts_as processor at run u))) w

-- after a switch what the task that begins has waited counts
waited-switched : (reason : StopReason) (processor at : ℕ) (run : Option ℕ) (s : Figures) (j : ℕ)
    → j < length s.tasks → (task_in_figures s j).waited ≤ 2 ^ 64 - 1
    → (task_in_figures (figures_switched reason processor at run s) j).waited
    ≡ saturating_sum (task_in_figures s j).waited (wait_of_start j (start_at reason processor at run s))
waited-switched reason processor at run s j inside h =
    waited-switched_if (is_run_by (processor_in_figures s processor).running run) reason processor at run s j inside h

-- what a start says of its task's wait, by whether another runs
starts-waited_if : (b : Bool) (reason : StopReason) (processor at : ℕ) (run : Option ℕ) (s : Figures) (st : Start)
    → let u = stopped reason at (processor_in_figures s processor).running s in
    cond b None (starts_as processor at run u) ≡ Some st →
    st.waited ≡ st.at - (task_in_figures (cond b s (started processor at run u)) st.task).waiting_since
starts-waited_if true reason processor at run s st e = cc
starts-waited_if false reason processor at None s st e = cc
starts-waited_if false reason processor at (Some id) s st e =
    let u = stopped reason at (processor_in_figures s processor).running s in
    let x : start_of processor id at (task_in_figures u id) ≡ st = cc in
    let P : Start → Type 0 = λ y. y.waited ≡ y.at - (task_in_figures (started processor at (Some id) u) y.task).waiting_since in
    subst P x (ap (λ n. at - n) (sym (since-begun_if processor at (Some id) u id)))

-- a start that a switch tells says how long its task has waited
starts-waited : (reason : StopReason) (processor at : ℕ) (run : Option ℕ) (s : Figures) (st : Start)
    → start_at reason processor at run s ≡ Some st
    → st.waited ≡ st.at - (task_in_figures (figures_switched reason processor at run s) st.task).waiting_since
starts-waited reason processor at run s st e =
    starts-waited_if (is_run_by (processor_in_figures s processor).running run) reason processor at run s st e

-- a pull says how long its task has waited
pull-waited : (from processor at : ℕ) (task : Option ℕ) (s : Figures) (p : PulledTask)
    → moves_as from processor at task s ≡ Some p → p.waited ≡ p.at - (task_in_figures s p.task).waiting_since
pull-waited from processor at None s p e = cc
pull-waited from processor at (Some id) s p e =
    let x : pulled_report from processor at id s ≡ p = cc in
    let P : PulledTask → Type 0 = λ y. y.waited ≡ y.at - (task_in_figures s y.task).waiting_since in
    subst P x refl

-- when an answer has a task wait, by who ran in the figures
abbrev pub wait_seen : ℕ → Figures → Event → Result Reply Refusal → Option ℕ
wait_seen j s (EndWake processor now) (Ok (Placed task to by steps)) = then_if (eqb task j) (time_at processor now s)
wait_seen j s (Drain processor now) (Ok (Drained count run by steps)) =
    then_if (gives_way j (running_task (processor_in_figures s processor)) run) (time_at processor now s)
wait_seen j s (Tick processor now) (Ok (Ticked run by steps)) =
    then_if (gives_way j (running_task (processor_in_figures s processor)) run) (time_at processor now s)
wait_seen j s (Pull processor from now) (Ok (Pulled task run by steps)) =
    then_if (is_this j task || gives_way j (running_task (processor_in_figures s processor)) run) (time_at processor now s)
wait_seen j s e a = None

-- what shows nothing has no task wait
wait_seen-none : (j : ℕ) (s : Figures) (e : Event) (r : Reply) → shown_by_reply e r ≡ None → wait_seen j s e (Ok r) ≡ None
wait_seen-none j s (EndWake processor now) (Placed task to by steps) h = absurd (cc)
wait_seen-none j s (Drain processor now) (Drained count run by steps) h = absurd (cc)
wait_seen-none j s (Tick processor now) (Ticked run by steps) h = absurd (cc)
wait_seen-none j s (Pull processor from now) (Pulled task run by steps) h = absurd (cc)
wait_seen-none j s e r h = refl

-- since when a task waits, and how long it has, after an answer; and what that tells
pub record ReportsWaited (s s' : Figures) (j : ℕ) (seen : Option ℕ) (c : Change) : Type 0 where
  pub waiting_since : (task_in_figures s' j).waiting_since ≡ unwrap_or seen (task_in_figures s j).waiting_since
  pub waited : (task_in_figures s j).waited ≤ 2 ^ 64 - 1 → (task_in_figures s' j).waited ≡ saturating_sum (task_in_figures s j).waited (reported_wait j c)

-- a time that is set on a condition is the one that the condition shows, or the one before
then-is : (b : Bool) (at since : ℕ) → cond b at since ≡ unwrap_or (then_if b at) since
then-is true at since = refl
then-is false at since = refl

-- a placement, and a switch after steps that keep waits, tell the waits that they make:
placed-waits : (processor now : ℕ) (d : Decision) (id to : ℕ) (s : Figures) (j : ℕ) (c : Change)
    → j < length s.tasks → c.pull ≡ None → c.start ≡ None
    → ReportsWaited s (placed processor now d id to s) j (then_if (eqb id j) (time_at processor now s)) c
placed-waits processor now d id to s j c inside p st =
    let at = time_at processor now s in
    let a = figures_counted processor d (figures_read processor now s) in
    let k = kept-counted processor now d s in
    let m = comes id to at a in
    record {
      waiting_since =
          task_kept (λ (t : TaskFigures). t.waiting_since) m id j _ refl ∙ since-comes id to at a j (omega (arith, k.tasks))
          ∙ ap (λ n. cond (eqb id j) at n) (k.waiting_since j) ∙ then-is (eqb id j) at (task_in_figures s j).waiting_since;
      waited = λ h.
          task_kept (λ (t : TaskFigures). t.waited) m id j _ refl ∙ waited-comes id to at a j ∙ k.waited j
          ∙ saturating_sum-none (task_in_figures s j).waited h
          ∙ sym (ap (λ o. saturating_sum (task_in_figures s j).waited (wait_of_pull j o + wait_of_start j c.start)) p
          ∙ ap (λ o. saturating_sum (task_in_figures s j).waited (0 + wait_of_start j o)) st);
    }

switched-waits : (reason : StopReason) (processor at : ℕ) (run : Option ℕ) (s t : Figures) (j : ℕ) (c : Change)
    → j < length s.tasks → KeepsWaits s t → (processor_in_figures t processor).running ≡ (processor_in_figures s processor).running
    → c.pull ≡ None → c.start ≡ start_at reason processor at run t
    → ReportsWaited s (figures_switched reason processor at run t) j
    (then_if (if_preempted reason (gives_way j (running_task (processor_in_figures s processor)) run)) at) c
switched-waits reason processor at run s t j c inside k r p st =
    let inside' : j < length t.tasks = omega (arith, k.tasks) in
    record {
      waiting_since = since-switched reason processor at run t j inside'
          ∙ ap (λ n. cond (if_preempted reason (gives_way j (running_task (processor_in_figures t processor)) run)) at n) (k.waiting_since j)
          ∙ ap (λ o. cond (if_preempted reason (gives_way j (option_map (λ (x : Start). x.task) o) run)) at (task_in_figures s j).waiting_since) r
          ∙ then-is (if_preempted reason (gives_way j (running_task (processor_in_figures s processor)) run)) at (task_in_figures s j).waiting_since;
      waited = λ h.
          waited-switched reason processor at run t j inside' (omega (arith, k.waited j))
          ∙ ap (λ n. saturating_sum n (wait_of_start j (start_at reason processor at run t))) (k.waited j)
          ∙ ap (saturating_sum (task_in_figures s j).waited) (sym (zero-add (wait_of_start j (start_at reason processor at run t))))
          ∙ sym (ap (λ o. saturating_sum (task_in_figures s j).waited (wait_of_pull j o + wait_of_start j c.start)) p
          ∙ ap (λ o. saturating_sum (task_in_figures s j).waited (0 + wait_of_start j o)) st);
    }

-- a task that comes to a processor, or is pulled, leaves as many tasks as before:
tasks-comes : (id processor at : ℕ) (s : Figures) → length (comes id processor at s).tasks ≡ length s.tasks
tasks-comes id processor at s = length-set (figures_left id s).tasks id _ ∙ (kept-leaves id s).tasks

tasks-taken : (processor at : ℕ) (task : Option ℕ) (s : Figures) → length (figures_taken processor at task s).tasks ≡ length s.tasks
tasks-taken processor at None s = refl
tasks-taken processor at (Some id) s = tasks-comes id processor at (waited_there id at s) ∙ length-set s.tasks id _

-- a time that is set on one condition, and then on another, is set on either
or-is : (b c : Bool) (at since : ℕ) → cond c at (cond b at since) ≡ cond (b || c) at since
or-is true true at since = refl
or-is true false at since = refl
or-is false true at since = refl
or-is false false at since = refl

-- a pull tells the waits that it makes: of the task it takes, and of those that give way and begin
pulled-waits : (processor from now : ℕ) (d : Decision) (task run : Option ℕ) (s : Figures) (j : ℕ) (c : Change)
    → j < length s.tasks → c.pull ≡ moves_as from processor (time_at processor now s) task (figures_counted processor d (figures_read processor now s))
    → c.start ≡ start_at Preempted processor (time_at processor now s) run
    (figures_taken processor (time_at processor now s) task (figures_counted processor d (figures_read processor now s)))
    → ReportsWaited s (figures_pulled processor now d task run s) j
    (then_if (is_this j task || gives_way j (running_task (processor_in_figures s processor)) run) (time_at processor now s)) c
pulled-waits processor from now d task run s j c inside p st =
    let at = time_at processor now s in
    let a = figures_counted processor d (figures_read processor now s) in
    let t = figures_taken processor at task a in
    let k = kept-counted processor now d s in
    let inside' : j < length a.tasks = omega (arith, k.tasks) in
    let inside'' : j < length t.tasks = omega (arith, inside', tasks-taken processor at task a) in
    record {
      waiting_since =
          since-switched Preempted processor at run t j inside''
          ∙ ap (λ n. cond (gives_way j (running_task (processor_in_figures t processor)) run) at n)
          (since-taken processor at task a j inside' ∙ ap (λ n. cond (is_this j task) at n) (k.waiting_since j))
          ∙ ap (λ o. cond (gives_way j (option_map (λ (x : Start). x.task) o) run) at (cond (is_this j task) at (task_in_figures s j).waiting_since))
          (runs-pull processor now d task s processor)
          ∙ or-is (is_this j task) (gives_way j (running_task (processor_in_figures s processor)) run) at (task_in_figures s j).waiting_since
          ∙ then-is (is_this j task || gives_way j (running_task (processor_in_figures s processor)) run) at (task_in_figures s j).waiting_since;
      waited = λ h.
          let w : (task_in_figures t j).waited ≡ saturating_sum (task_in_figures s j).waited (wait_of_pull j (moves_as from processor at task a)) =
          waited-taken processor from at task a j inside' (omega (arith, h, k.waited j))
          ∙ ap (λ n. saturating_sum n (wait_of_pull j (moves_as from processor at task a))) (k.waited j) in
          waited-switched Preempted processor at run t j inside'' (omega (arith, w))
          ∙ ap (λ n. saturating_sum n (wait_of_start j (start_at Preempted processor at run t))) w
          ∙ saturating_sum-both (task_in_figures s j).waited (wait_of_pull j (moves_as from processor at task a))
          (wait_of_start j (start_at Preempted processor at run t))
          ∙ sym (ap (λ o. saturating_sum (task_in_figures s j).waited (wait_of_pull j o + wait_of_start j c.start)) p
          ∙ ap (λ o. saturating_sum (task_in_figures s j).waited (wait_of_pull j (moves_as from processor at task a) + wait_of_start j o)) st);
    }

-- where no pull and no start is reported, figures that stay the same leave the waits, and so does what keeps them:
same-waits : (s : Figures) (j : ℕ) (c : Change) → c.pull ≡ None → c.start ≡ None → ReportsWaited s s j None c
same-waits s j c p st = record {
  waiting_since = refl;
  waited = λ h.
      saturating_sum-none (task_in_figures s j).waited h
      ∙ sym (ap (λ o. saturating_sum (task_in_figures s j).waited (wait_of_pull j o + wait_of_start j c.start)) p
      ∙ ap (λ o. saturating_sum (task_in_figures s j).waited (0 + wait_of_start j o)) st);
}

kept-waits : (s s' : Figures) (j : ℕ) (c : Change) → KeepsWaits s s' → c.pull ≡ None → c.start ≡ None → ReportsWaited s s' j None c
kept-waits s s' j c k p st =
    let n = same-waits s j c p st in
    record { waiting_since = k.waiting_since j; waited = λ h. k.waited j ∙ n.waited h }

-- each event tells the waits that it makes, by cases:
performed-waits : (s : Figures) (e : Event) (r : Reply) (j : ℕ)
    → j < length s.tasks
    → ReportsWaited s (performed s e r) j (wait_seen j s e (Ok r)) (report_of_answer s e r)
performed-waits s (Admit id nice mask slice) Admitted j inside =
    let l = figures_left id s in
    kept-waits s (performed s (Admit id nice mask slice) Admitted) j nothing
    (both s l _ (kept-leaves id s) (with_one l id _ refl refl)) refl refl
performed-waits s (EndWake processor now) (Placed task to by steps) j inside =
    let d : Decision = record { hook = Place; by = by; steps = steps } in
    placed-waits processor now d task to s j (report_of_answer s (EndWake processor now) (Placed task to by steps)) inside refl refl
performed-waits s (Drain processor now) (Drained count run by steps) j inside =
    let d : Decision = record { hook = Preempt; by = by; steps = steps } in
    let t =
    switched-waits Preempted processor (time_at processor now s) run s (figures_counted processor d (figures_read processor now s)) j
    (report_of_answer s (Drain processor now) (Drained count run by steps)) inside (kept-counted processor now d s)
    (runs-counted processor now d s processor) refl refl in
    record { waiting_since = t.waiting_since; waited = t.waited }
performed-waits s (Tick processor now) (Ticked run by steps) j inside =
    let d : Decision = record { hook = Preempt; by = by; steps = steps } in
    switched-waits Preempted processor (time_at processor now s) run s (figures_counted processor d (figures_read processor now s)) j
    (report_of_answer s (Tick processor now) (Ticked run by steps)) inside (kept-counted processor now d s)
    (runs-counted processor now d s processor) refl refl
performed-waits s (Block processor now) (Went task run) j inside =
    switched-waits Blocked processor (time_at processor now s) run s (figures_left task (figures_read processor now s)) j
    (report_of_answer s (Block processor now) (Went task run)) inside (kept-block processor now task s)
    (runs-block processor now task s processor) refl refl
performed-waits s (Pull processor from now) (Pulled task run by steps) j inside =
    let d : Decision = record { hook = OnPull; by = by; steps = steps } in
    pulled-waits processor from now d task run s j (report_of_answer s (Pull processor from now) (Pulled task run by steps))
    inside refl refl
performed-waits s e r j inside = same-waits s j nothing refl refl

nothing-waits : (s : Figures) (e : Event) (r : Reply) (j : ℕ) → is_there s e ≡ false
    → IsShownWithin (length s.processors) (shown_by_reply e r)
    → ReportsWaited s s j (wait_seen j s e (Ok r)) nothing
nothing-waits s e r j none h =
    subst (λ seen. ReportsWaited s s j seen nothing) (sym (wait_seen-none j s e r (shown_by_reply-none s e r none h))) (same-waits s j nothing refl refl)

waits-if : (b : Bool) (s : Figures) (e : Event) (r : Reply) (j : ℕ)
    → is_there s e ≡ b → j < length s.tasks → IsShownWithin (length s.processors) (shown_by_reply e r)
    → ReportsWaited s (cond b (performed s e r) s) j (wait_seen j s e (Ok r)) (cond b (report_of_answer s e r) nothing)
waits-if true s e r j there inside h = performed-waits s e r j inside
waits-if false s e r j there inside h = nothing-waits s e r j there h

waits-after : (s : Figures) (e : Event) (a : Result Reply Refusal) (j : ℕ)
    → j < length s.tasks → IsShownWithin (length s.processors) (shown_by_answer e a)
    → ReportsWaited s (figures_after s e a) j (wait_seen j s e a) (change s e a)
waits-after s e (Ok r) j inside h = waits-if (is_there s e) s e r j refl inside h
waits-after s (EndWake processor now) (Err r) j inside h =
    let t = same-waits s j nothing refl refl in
    record { waiting_since = t.waiting_since; waited = t.waited }
waits-after s e (Err r) j inside h =
    let t = same-waits s j nothing refl refl in
    record { waiting_since = t.waiting_since; waited = t.waited }

-- the figures' waits are those of the history
seen-wait : (count : ℕ) (past : History) (e : Event) (a : Result Reply Refusal) (j : ℕ)
    → IsOfProcessors count past → IsShownWithin count (shown_by_answer e a)
    → wait_seen j (figures count past) e a ≡ wait_begins j past e a
seen-wait count past (EndWake processor now) (Ok (Placed task to by steps)) j h w =
    ap (λ n. then_if (eqb task j) (reading n now)) (figures-clocks count past processor h w).0
seen-wait count past (Drain processor now) (Ok (Drained n run by steps)) j h w =
    let c = figures-clocks count past processor h w in
    ap (λ n. then_if (gives_way j (running_task (processor_in_figures (figures count past) processor)) run) (reading n now)) c.0
    ∙ ap (λ y. then_if (gives_way j y run) (reading (clock processor past) now)) c.1
seen-wait count past (Tick processor now) (Ok (Ticked run by steps)) j h w =
    let c = figures-clocks count past processor h w in
    ap (λ n. then_if (gives_way j (running_task (processor_in_figures (figures count past) processor)) run) (reading n now)) c.0
    ∙ ap (λ y. then_if (gives_way j y run) (reading (clock processor past) now)) c.1
seen-wait count past (Pull processor from now) (Ok (Pulled task run by steps)) j h w =
    let c = figures-clocks count past processor h w in
    ap (λ n. then_if (is_this j task || gives_way j (running_task (processor_in_figures (figures count past) processor)) run) (reading n now)) c.0
    ∙ ap (λ y. then_if (is_this j task || gives_way j y run) (reading (clock processor past) now)) c.1
seen-wait count past e a j h w = refl

-- what the figures know of waits after an answered event
reported-of : (count : ℕ) (past : History) (m : AnsweredEvent) (j : ℕ)
    → IsOfProcessors count (m ∷ past) → j < 1024
    → ReportsWaited (figures count past) (figures count (m ∷ past)) j (wait_seen j (figures count past) m.event m.answer)
    (change (figures count past) m.event m.answer)
reported-of count past m j h inside =
    waits-after (figures count past) m.event m.answer j (omega (arith, tasks-figures count past h.1))
    (within-figures count past m h)

-- figures show since when each task waits
since-shown : (count : ℕ) (past : History) (j : ℕ) → IsOfProcessors count past → j < 1024
    → (task_in_figures (figures count past) j).waiting_since ≡ waits_since j past
since-shown count [] j h inside = ap (λ (t : TaskFigures). t.waiting_since) (get_or-replicate 1024 j unknown unknown inside)
since-shown count (m ∷ past) j h inside =
    (reported-of count past m j h inside).waiting_since
    ∙ ap (λ o. unwrap_or o (task_in_figures (figures count past) j).waiting_since) (seen-wait count past m.event m.answer j h.1 h.0)
    ∙ ap (λ n. unwrap_or (wait_begins j past m.event m.answer) n) (since-shown count past j h.1 inside)

-- a start and a pull say how long their task has waited, by the figures
start-performed : (s : Figures) (e : Event) (r : Reply) (st : Start)
    → (report_of_answer s e r).start ≡ Some st
    → st.waited ≡ st.at - (task_in_figures (performed s e r) st.task).waiting_since
start-performed s (EndWake processor now) (Placed task to by steps) st e = cc
start-performed s (Drain processor now) (Drained count run by steps) st e =
    starts-waited Preempted processor (time_at processor now s) run
    (figures_counted processor (record { hook = Preempt; by = by; steps = steps }) (figures_read processor now s)) st e
start-performed s (Tick processor now) (Ticked run by steps) st e =
    starts-waited Preempted processor (time_at processor now s) run
    (figures_counted processor (record { hook = Preempt; by = by; steps = steps }) (figures_read processor now s)) st e
start-performed s (Block processor now) (Went task run) st e =
    starts-waited Blocked processor (time_at processor now s) run (figures_left task (figures_read processor now s)) st e
start-performed s (Pull processor from now) (Pulled task run by steps) st e =
    starts-waited Preempted processor (time_at processor now s) run
    (figures_taken processor (time_at processor now s) task
    (figures_counted processor (record { hook = OnPull; by = by; steps = steps }) (figures_read processor now s))) st e
start-performed s e r st h = cc

start-reported_if : (b : Bool) (s : Figures) (e : Event) (r : Reply) (st : Start)
    → (cond b (report_of_answer s e r) nothing).start ≡ Some st
    → st.waited ≡ st.at - (task_in_figures (cond b (performed s e r) s) st.task).waiting_since
start-reported_if true s e r st h = start-performed s e r st h
start-reported_if false s e r st h = cc

start-reported : (s : Figures) (e : Event) (a : Result Reply Refusal) (st : Start)
    → (change s e a).start ≡ Some st → st.waited ≡ st.at - (task_in_figures (figures_after s e a) st.task).waiting_since
start-reported s e (Ok r) st h = start-reported_if (is_there s e) s e r st h
start-reported s e (Err r) st h = cc

-- so does a pull, by the figures before it, by cases:
pull-performed : (s : Figures) (e : Event) (r : Reply) (p : PulledTask)
    → (report_of_answer s e r).pull ≡ Some p → p.waited ≡ p.at - (task_in_figures s p.task).waiting_since
pull-performed s (EndWake processor now) (Placed task to by steps) p e = cc
pull-performed s (Drain processor now) (Drained count run by steps) p e = cc
pull-performed s (Tick processor now) (Ticked run by steps) p e = cc
pull-performed s (Block processor now) (Went task run) p e = cc
pull-performed s (Pull processor from now) (Pulled task run by steps) p e =
    let d : Decision = record { hook = OnPull; by = by; steps = steps } in
    pull-waited from processor (time_at processor now s) task (figures_counted processor d (figures_read processor now s)) p e
    ∙ ap (λ n. p.at - n) ((kept-counted processor now d s).waiting_since p.task)
pull-performed s e r p h = cc

pull-reported_if : (b : Bool) (s : Figures) (e : Event) (r : Reply) (p : PulledTask)
    → (cond b (report_of_answer s e r) nothing).pull ≡ Some p → p.waited ≡ p.at - (task_in_figures s p.task).waiting_since
pull-reported_if true s e r p h = pull-performed s e r p h
pull-reported_if false s e r p h = cc

pull-reported : (s : Figures) (e : Event) (a : Result Reply Refusal) (p : PulledTask)
    → (change s e a).pull ≡ Some p → p.waited ≡ p.at - (task_in_figures s p.task).waiting_since
pull-reported s e (Ok r) p h = pull-reported_if (is_there s e) s e r p h
pull-reported s e (Err r) p h = cc

-- a start says how long its task has waited there, and a pull how long it had where it was taken from
pub reports_waits : ReportsWaits
reports_waits count past m h =
    let s = figures count past in
    let c = change s m.event m.answer in (
      of_some c.start _
          (λ st is inside. start-reported s m.event m.answer st is ∙ ap (λ n. st.at - n) (since-shown count (m ∷ past) st.task h inside)),
      of_some c.pull _
          (λ p is inside. pull-reported s m.event m.answer p is ∙ ap (λ n. p.at - n) (since-shown count past p.task h.1 inside)),
    )

-- how long a task has waited is the sum of what its pulls and starts tell
pub adds_up_waits : AddsUpWaits
adds_up_waits count [] id h inside = ap (λ (t : TaskFigures). t.waited) (get_or-replicate 1024 id unknown unknown inside)
adds_up_waits count (m ∷ past) id h inside =
    let s = figures count past in
    let before = adds_up_waits count past id h.1 inside in
    omega (arith, before, (reported-of count past m id h inside).waited (omega (arith, before)))
