-- The wakes that figures show are those of the history.
use Rattle.std.proofs.Common.{◌≡◌, ◌≢◌, ℕ, ◌-◌, ◌<◌, Bool, true, false, not, [], ◌∷◌, length, Option, Some, None, Result, Ok, Err, refl, sym, ap, ◌∙◌, inl, inr, eqb, cond, subst, arith, eqb-true, eq-eqb}
use Rattle.std.specs.Prelude.{◌&&◌}
use Rattle.std.specs.Option.{option_map}
use Rattle.std.proofs.lemmas.Bool.Decides.{eqb_tells, nat_tests}
use Rattle.std.proofs.lemmas.List.{get_or-replicate, length-set}
use Rattle.bq_disc.specs.OneProcessor.{reading}
use Rattle.bq_parts.specs.declared.event.Event.{Event}
use Rattle.bq_parts.specs.declared.event.Event.TheVariants.{Admit, EndWake, Drain, Tick, Block, Pull}
use Rattle.bq_parts.specs.declared.reply.Reply.{Reply}
use Rattle.bq_parts.specs.declared.reply.Reply.TheVariants.{Admitted, Placed, Drained, Ticked, Blocked as Went, Pulled}
use Rattle.bq_parts.specs.declared.refusal.Refusal.{Refusal}
use Rattle.bq_hooks.specs.declared.hook.Hook.TheVariants.{Place, Preempt, Pull as OnPull}
use Rattle.bq_schedule.specs.declared.slice.Slice.{Slice}
use Rattle.bq_schedule.specs.declared.change.Decision.{Decision}
use Rattle.bq_schedule.specs.declared.change.Start.{Start}
use Rattle.bq_schedule.specs.declared.change.StopReason.{StopReason}
use Rattle.bq_schedule.specs.declared.change.StopReason.TheVariants.{Preempted, Blocked}
use Rattle.bq_schedule.specs.declared.figures.ProcessorFigures.{ProcessorFigures}
use Rattle.bq_schedule.specs.declared.figures.TaskFigures.{TaskFigures}
use Rattle.bq_schedule.specs.Histories.{History}
use Rattle.bq_schedule.specs.Figures.{Figures, unknown, processor_in_figures, task_in_figures, figures_with_processor, figures_with_task}
use Rattle.bq_schedule.specs.Passing.{figures_read, with_charged, processor_read, slice_at}
use Rattle.bq_schedule.specs.Runnable.{left_from, figures_left, comes}
use Rattle.bq_schedule.specs.Running.{running_task, stopped, started, starts_as, start_of, start_at, begun_if, figures_switched, is_run_by}
use Rattle.bq_schedule.specs.Slices.{ShownByAnswer, shown_by_reply, shown_by_answer, clock, clock_after, runner, is_this}
use Rattle.bq_schedule.specs.Wakes.{begins_as, begins_run, wake_end, awaited_after, awaited}
use Rattle.bq_schedule.specs.Steps.{nothing, figures_counted, waited_there, figures_taken, placed, figures_decided, blocked, figures_pulled, performed, report_of_answer, time_at, is_there, figures_after, change, figures}
use Rattle.bq_schedule.specs.Laws.{IsShownWithin, IsOfProcessors, ReportsLatencies}
use Rattle.bq_schedule.proofs.TestLemmas.{Tells}
use Rattle.bq_schedule.proofs.FrameLemmas.{task_kept, task_set, running-counted, running-leaves, running-taken, running-read_at}
use Rattle.bq_schedule.proofs.ClockLemmas.{figures-clocks, within-figures, shown_by_reply-none}
use Rattle.bq_schedule.proofs.SumLemmas.{tasks-figures}

-- what keeps which wakes are awaited
pub record KeepsWakes (s s' : Figures) : Type 0 where
  pub at : (id : ℕ) → (task_in_figures s' id).woken_at ≡ (task_in_figures s id).woken_at
  pub tasks : length s'.tasks ≡ length s.tasks

-- what changes nothing keeps wakes; so do two such steps, a task set with the same wake, and a processor that is set:
same : (s : Figures) → KeepsWakes s s
same s = record { at = λ id. refl; tasks = refl }

both : (s t u : Figures) → KeepsWakes s t → KeepsWakes t u → KeepsWakes s u
both s t u a b = record { at = λ id. b.at id ∙ a.at id; tasks = b.tasks ∙ a.tasks }

with_one : (s : Figures) (i : ℕ) (t : TaskFigures) → t.woken_at ≡ (task_in_figures s i).woken_at → KeepsWakes s (figures_with_task s i t)
with_one s i t e = record { at = λ id. task_kept (λ (u : TaskFigures). u.woken_at) s i id t e; tasks = length-set s.tasks i t }

of_processor : (s : Figures) (i : ℕ) (p : ProcessorFigures) → KeepsWakes s (figures_with_processor s i p)
of_processor s i p = record { at = λ id. refl; tasks = refl }

-- to charge a task for a slice keeps wakes, and so does a reading:
kept-with_charged : (s : Figures) (o : Option Slice) → KeepsWakes s (with_charged s o)
kept-with_charged s None = same s
kept-with_charged s (Some x) = with_one s x.task _ refl

kept-read_at : (processor now : ℕ) (s : Figures) → KeepsWakes s (figures_read processor now s)
kept-read_at processor now s =
    both s (figures_with_processor s processor (processor_read processor (processor_in_figures s processor) now)) _
    (of_processor s processor _) (kept-with_charged _ (slice_at processor (processor_in_figures s processor) now))

-- a task that leaves its processor keeps wakes:
kept-left_from : (id : ℕ) (s : Figures) (processor : Option ℕ) → KeepsWakes s (left_from id s processor)
kept-left_from id s None = same s
kept-left_from id s (Some processor) = both s _ _ (of_processor s processor _) (with_one _ id _ refl)

kept-leaves : (id : ℕ) (s : Figures) → KeepsWakes s (figures_left id s)
kept-leaves id s = kept-left_from id s (task_in_figures s id).processor

-- so does one that comes to a processor, is pulled, or ceases to run:
kept-comes : (id processor now : ℕ) (s : Figures) → KeepsWakes s (comes id processor now s)
kept-comes id processor now s =
    both s (figures_left id s) _ (kept-leaves id s)
    (both (figures_left id s) _ _ (of_processor (figures_left id s) processor _) (with_one _ id _ refl))

kept-taken : (processor now : ℕ) (task : Option ℕ) (s : Figures) → KeepsWakes s (figures_taken processor now task s)
kept-taken processor now None s = same s
kept-taken processor now (Some id) s =
    both s (waited_there id now s) _ (with_one s id _ refl) (kept-comes id processor now (waited_there id now s))

kept-stopped : (reason : StopReason) (now : ℕ) (running : Option Start) (s : Figures) → KeepsWakes s (stopped reason now running s)
kept-stopped reason now None s = same s
kept-stopped Blocked now (Some old) s = same s
kept-stopped Preempted now (Some old) s = with_one s old.task _ refl

-- a task that begins to run has no wake that awaits a run any more, and the others keep theirs
woken-begun_if : (processor now : ℕ) (run : Option ℕ) (s : Figures) (j : ℕ)
    → j < length s.tasks
    → (task_in_figures (begun_if processor now run s) j).woken_at ≡ cond (is_this j run) None (task_in_figures s j).woken_at
woken-begun_if processor now None s j inside = refl
woken-begun_if processor now (Some id) s j inside = task_set (λ (t : TaskFigures). t.woken_at) s id j _ (λ same. inside)

-- a condition with one that holds is that condition
begins_alone : (b : Bool) → (b && true) ≡ b
begins_alone true = refl
begins_alone false = refl

-- numbers that a test finds to differ do
differs : (a b : ℕ) → eqb a b ≡ false → a ≢ b
differs a b e h = grind (arith, nat_tests)

-- a task that runs now begins if another ran before, and does not if it ran itself:
new_at : (j old id : ℕ) (b c : Bool) → Tells b (id ≡ j) (id ≢ j)
    → Tells c (old ≡ j) (old ≢ j) → old ≢ id
    → (b && not c) ≡ b
new_at j old id true true (inl e) (inl f) ne = absurd (ne (f.1 ∙ sym e.1))
new_at j old id true true (inl e) (inr f) ne = absurd (cc)
new_at j old id true true (inr e) f ne = absurd (cc)
new_at j old id true false e f ne = refl
new_at j old id false c e f ne = refl

old_at : (j old id : ℕ) (b c : Bool) → Tells b (id ≡ j) (id ≢ j)
    → Tells c (old ≡ j) (old ≢ j) → old ≡ id
    → (b && not c) ≡ false
old_at j old id true true e f same = refl
old_at j old id true false (inl e) (inr f) same = absurd (f.1 (same ∙ e.1))
old_at j old id true false (inl e) (inl f) same = absurd (cc)
old_at j old id true false (inr e) f same = absurd (cc)
old_at j old id false c e f same = refl

-- where it is not yet who runs, begins and runs are one
begins-new : (j : ℕ) (running : Option Start) (run : Option ℕ)
    → is_run_by running run ≡ false
    → begins_as j (option_map (λ (x : Start). x.task) running) (Some run) ≡ is_this j run
begins-new j None None e = refl
begins-new j None (Some id) e = begins_alone (eqb id j)
begins-new j (Some start) None e = refl
begins-new j (Some start) (Some id) e =
    new_at j start.task id (eqb id j) (eqb start.task j) (eqb_tells id j) (eqb_tells start.task j) (differs start.task id e)

-- where the task runs already, it does not begin
begins-old : (j : ℕ) (running : Option Start) (run : Option ℕ)
    → is_run_by running run ≡ true
    → begins_as j (option_map (λ (x : Start). x.task) running) (Some run) ≡ false
begins-old j None None e = refl
begins-old j None (Some id) e = cc
begins-old j (Some start) None e = cc
begins-old j (Some start) (Some id) e =
    old_at j start.task id (eqb id j) (eqb start.task j) (eqb_tells id j) (eqb_tells start.task j) (eqb-true start.task id e)

-- a switch ends the wait of the wake whose task begins to run, and of no other, by whether another runs:
woken-switched_if : (b : Bool) (reason : StopReason) (processor now : ℕ) (run : Option ℕ) (s : Figures) (j : ℕ)
    → is_run_by (processor_in_figures s processor).running run ≡ b → j < length s.tasks
    → (task_in_figures (cond b s (started processor now run (stopped reason now (processor_in_figures s processor).running s))) j).woken_at
    ≡ cond (begins_as j (running_task (processor_in_figures s processor)) (Some run)) None (task_in_figures s j).woken_at
woken-switched_if true reason processor now run s j e inside = rw (begins-old j (processor_in_figures s processor).running run e) refl
woken-switched_if false reason processor now run s j e inside =
    let t = stopped reason now (processor_in_figures s processor).running s in
    let k = kept-stopped reason now (processor_in_figures s processor).running s in
    woken-begun_if processor now run t j (omega (arith, k.tasks)) ∙ ap (λ o. cond (is_this j run) None o) (k.at j)
    ∙ ap (λ b. cond b None (task_in_figures s j).woken_at) (sym (begins-new j (processor_in_figures s processor).running run e))

woken-switched : (reason : StopReason) (processor now : ℕ) (run : Option ℕ) (s : Figures) (j : ℕ)
    → j < length s.tasks
    → (task_in_figures (figures_switched reason processor now run s) j).woken_at
    ≡ cond (begins_as j (running_task (processor_in_figures s processor)) (Some run)) None (task_in_figures s j).woken_at
woken-switched reason processor now run s j inside =
    woken-switched_if (is_run_by (processor_in_figures s processor).running run) reason processor now run s j refl inside

-- what becomes of the wake that a task has waited for
abbrev pub wake_seen : ℕ → Figures → Event → Result Reply Refusal → Option ℕ
wake_seen j s (EndWake processor now) (Ok (Placed task to by steps)) = cond (eqb task j) (Some (time_at processor now s)) None
wake_seen j s e a = None

-- a task begins to run with what an answer shows, by who ran in the figures
abbrev pub begins_seen : ℕ → Figures → Option ShownByAnswer → Bool
begins_seen j s None = false
begins_seen j s (Some x) = begins_as j (running_task (processor_in_figures s x.processor)) x.run

-- the wake that figures show after an event
abbrev pub AwaitsAfter : ℕ → Figures → Figures → Event → Result Reply Refusal → Type 0
AwaitsAfter j s s' e a = (task_in_figures s' j).woken_at ≡ awaited_after (wake_seen j s e a) (begins_seen j s (shown_by_answer e a)) (task_in_figures s j).woken_at

-- after a placement the placed task has its new wake, and each other the wake it had:
awaits-placed : (b : Bool) (at : ℕ) (before : Option ℕ) → cond b (Some at) before ≡ awaited_after (cond b (Some at) None) false before
awaits-placed true at before = refl
awaits-placed false at before = refl

placed-awaits : (processor now : ℕ) (d : Decision) (id to : ℕ) (s : Figures) (j : ℕ)
    → j < length s.tasks
    → (task_in_figures (placed processor now d id to s) j).woken_at
    ≡ awaited_after (cond (eqb id j) (Some (time_at processor now s)) None) false (task_in_figures s j).woken_at
placed-awaits processor now d id to s j inside =
    let at = time_at processor now s in
    let r = figures_read processor now s in
    let a = figures_counted processor d r in
    let c = comes id to at a in
    let k : KeepsWakes s c = both s r c (kept-read_at processor now s) (both r a c (of_processor r processor _) (kept-comes id to at a)) in
    task_set (λ (t : TaskFigures). t.woken_at) c id j _ (λ same. omega (arith, k.tasks))
    ∙ ap (λ o. cond (eqb id j) (Some at) o) (k.at j)
    ∙ awaits-placed (eqb id j) at (task_in_figures s j).woken_at

-- after moves that keep wakes and who runs
switched-awaits : (reason : StopReason) (processor now : ℕ) (run : Option ℕ) (s t : Figures) (j : ℕ)
    → j < length s.tasks → KeepsWakes s t → (processor_in_figures t processor).running ≡ (processor_in_figures s processor).running
    → (task_in_figures (figures_switched reason processor now run t) j).woken_at
    ≡ cond (begins_as j (running_task (processor_in_figures s processor)) (Some run)) None (task_in_figures s j).woken_at
switched-awaits reason processor now run s t j inside k r =
    woken-switched reason processor now run t j (omega (arith, k.tasks))
    ∙ ap (λ o. cond (begins_as j (option_map (λ (x : Start). x.task) o) (Some run)) None (task_in_figures t j).woken_at) r
    ∙ ap (λ o. cond (begins_as j (running_task (processor_in_figures s processor)) (Some run)) None o) (k.at j)

-- a decision that is counted after a reading keeps wakes
kept-counted : (processor now : ℕ) (d : Decision) (s : Figures) → KeepsWakes s (figures_counted processor d (figures_read processor now s))
kept-counted processor now d s =
    both s (figures_read processor now s) _ (kept-read_at processor now s) (of_processor (figures_read processor now s) processor _)

-- counting a decision and reading a clock keep who runs
pub runs-counted : (processor now : ℕ) (d : Decision) (s : Figures) (j : ℕ)
    → (processor_in_figures (figures_counted processor d (figures_read processor now s)) j).running ≡ (processor_in_figures s j).running
runs-counted processor now d s j = (running-counted processor d (figures_read processor now s)).at j ∙ (running-read_at processor now s).at j

-- a decision ends the wait of the wake whose task begins to run, and of no other
decided-awaits : (processor now : ℕ) (d : Decision) (run : Option ℕ) (s : Figures) (j : ℕ)
    → j < length s.tasks
    → (task_in_figures (figures_decided processor now d run s) j).woken_at
    ≡ cond (begins_as j (running_task (processor_in_figures s processor)) (Some run)) None (task_in_figures s j).woken_at
decided-awaits processor now d run s j inside =
    switched-awaits Preempted processor (time_at processor now s) run s _ j inside (kept-counted processor now d s)
    (runs-counted processor now d s processor)

-- a task that leaves its processor after a reading keeps wakes
kept-block : (processor now id : ℕ) (s : Figures) → KeepsWakes s (figures_left id (figures_read processor now s))
kept-block processor now id s = both s (figures_read processor now s) _ (kept-read_at processor now s) (kept-leaves id (figures_read processor now s))

-- a task's leaving keeps who runs
pub runs-block : (processor now id : ℕ) (s : Figures) (j : ℕ)
    → (processor_in_figures (figures_left id (figures_read processor now s)) j).running ≡ (processor_in_figures s j).running
runs-block processor now id s j = (running-leaves id (figures_read processor now s)).at j ∙ (running-read_at processor now s).at j

-- a block ends the wait of the wake whose task begins to run, and of no other
blocked-awaits : (processor now id : ℕ) (run : Option ℕ) (s : Figures) (j : ℕ)
    → j < length s.tasks
    → (task_in_figures (blocked processor now id run s) j).woken_at
    ≡ cond (begins_as j (running_task (processor_in_figures s processor)) (Some run)) None (task_in_figures s j).woken_at
blocked-awaits processor now id run s j inside =
    switched-awaits Blocked processor (time_at processor now s) run s _ j inside (kept-block processor now id s)
    (runs-block processor now id s processor)

-- to pull a task after a reading keeps wakes
kept-pull : (processor now : ℕ) (d : Decision) (task : Option ℕ) (s : Figures)
    → KeepsWakes s (figures_taken processor (time_at processor now s) task (figures_counted processor d (figures_read processor now s)))
kept-pull processor now d task s =
    both s (figures_counted processor d (figures_read processor now s)) _ (kept-counted processor now d s)
    (kept-taken processor (time_at processor now s) task _)

-- a pull keeps who runs
pub runs-pull : (processor now : ℕ) (d : Decision) (task : Option ℕ) (s : Figures) (j : ℕ)
    → (processor_in_figures (figures_taken processor (time_at processor now s) task (figures_counted processor d (figures_read processor now s))) j).running
    ≡ (processor_in_figures s j).running
runs-pull processor now d task s j =
    (running-taken processor (time_at processor now s) task (figures_counted processor d (figures_read processor now s))).at j
    ∙ runs-counted processor now d s j

-- a pull ends the wait of the wake whose task begins to run, and of no other
pulled-awaits : (processor now : ℕ) (d : Decision) (task run : Option ℕ) (s : Figures) (j : ℕ)
    → j < length s.tasks
    → (task_in_figures (figures_pulled processor now d task run s) j).woken_at
    ≡ cond (begins_as j (running_task (processor_in_figures s processor)) (Some run)) None (task_in_figures s j).woken_at
pulled-awaits processor now d task run s j inside =
    switched-awaits Preempted processor (time_at processor now s) run s _ j inside (kept-pull processor now d task s)
    (runs-pull processor now d task s processor)

-- the wakes after a reply are those that its event leaves, by cases:
performed-awaits : (s : Figures) (e : Event) (r : Reply) (j : ℕ) → j < length s.tasks → AwaitsAfter j s (performed s e r) e (Ok r)
performed-awaits s (Admit id nice mask slice) Admitted j inside = (with_one (figures_left id s) id _ refl).at j ∙ (kept-leaves id s).at j
performed-awaits s (EndWake processor now) (Placed task to by steps) j inside =
    placed-awaits processor now (record { hook = Place; by = by; steps = steps }) task to s j inside
performed-awaits s (Drain processor now) (Drained count run by steps) j inside =
    decided-awaits processor now (record { hook = Preempt; by = by; steps = steps }) run s j inside
performed-awaits s (Tick processor now) (Ticked run by steps) j inside =
    decided-awaits processor now (record { hook = Preempt; by = by; steps = steps }) run s j inside
performed-awaits s (Block processor now) (Went task run) j inside = blocked-awaits processor now task run s j inside
performed-awaits s (Pull processor from now) (Pulled task run by steps) j inside =
    pulled-awaits processor now (record { hook = OnPull; by = by; steps = steps }) task run s j inside
performed-awaits s e r j inside = refl

nothing-awaits : (s : Figures) (e : Event) (r : Reply) (j : ℕ)
    → is_there s e ≡ false → IsShownWithin (length s.processors) (shown_by_reply e r) → AwaitsAfter j s s e (Ok r)
nothing-awaits s (EndWake processor now) (Placed task to by steps) j none h =
    let shown = shown_by_reply-none s (EndWake processor now) (Placed task to by steps) none h in absurd (cc)
nothing-awaits s e r j none h =
    let before = (task_in_figures s j).woken_at in
    subst (λ o. before ≡ awaited_after None (begins_seen j s o) before) (sym (shown_by_reply-none s e r none h)) refl

awaits-if : (b : Bool) (s : Figures) (e : Event) (r : Reply) (j : ℕ)
    → is_there s e ≡ b → j < length s.tasks → IsShownWithin (length s.processors) (shown_by_reply e r)
    → AwaitsAfter j s (cond b (performed s e r) s) e (Ok r)
awaits-if true s e r j there inside h = performed-awaits s e r j inside
awaits-if false s e r j there inside h = nothing-awaits s e r j there h

-- which wake is awaited after an event is what it was, except for what the answer shows
awaits-after : (s : Figures) (e : Event) (a : Result Reply Refusal) (j : ℕ)
    → j < length s.tasks → IsShownWithin (length s.processors) (shown_by_answer e a) → AwaitsAfter j s (figures_after s e a) e a
awaits-after s e (Ok r) j inside h = awaits-if (is_there s e) s e r j refl inside h
awaits-after s (EndWake processor now) (Err r) j inside h = refl
awaits-after s e (Err r) j inside h = refl

-- the ends of wakes and the starts that figures show are those of the history:
seen-wake : (count : ℕ) (past : History) (e : Event) (a : Result Reply Refusal) (j : ℕ)
    → IsOfProcessors count past → IsShownWithin count (shown_by_answer e a)
    → wake_seen j (figures count past) e a ≡ wake_end j past e a
seen-wake count past (EndWake processor now) (Ok (Placed task to by steps)) j h w =
    ap (λ n. cond (eqb task j) (Some (reading n now)) None) (figures-clocks count past processor h w).0
seen-wake count past e a j h w = refl

seen-begins : (count : ℕ) (past : History) (o : Option ShownByAnswer) (j : ℕ)
    → IsOfProcessors count past → IsShownWithin count o → begins_seen j (figures count past) o ≡ begins_run j past o
seen-begins count past None j h w = refl
seen-begins count past (Some x) j h w = ap (λ y. begins_as j y x.run) (figures-clocks count past x.processor h w).1

-- figures show the wakes that are awaited
awaits : (count : ℕ) (past : History) (j : ℕ) → IsOfProcessors count past → j < 1024
    → (task_in_figures (figures count past) j).woken_at ≡ awaited j past
awaits count [] j h inside = ap (λ (t : TaskFigures). t.woken_at) (get_or-replicate 1024 j unknown unknown inside)
awaits count (m ∷ past) j h inside =
    let s = figures count past in
    let o = shown_by_answer m.event m.answer in
    awaits-after s m.event m.answer j (omega (arith, tasks-figures count past h.1)) (within-figures count past m h)
    ∙ ap (λ w. awaited_after w (begins_seen j s o) (task_in_figures s j).woken_at) (seen-wake count past m.event m.answer j h.1 h.0)
    ∙ ap (λ b. awaited_after (wake_end j past m.event m.answer) b (task_in_figures s j).woken_at) (seen-begins count past o j h.1 h.0)
    ∙ ap (λ before. awaited_after (wake_end j past m.event m.answer) (begins_run j past o) before) (awaits count past j h.1 inside)

-- a start at a processor, at a reading of its clock
pub record Starts (s : Figures) (processor now : ℕ) (run : Option ℕ) (start : Start) : Type 0 where
  pub here : start.processor ≡ processor
  pub new : begins_as start.task (running_task (processor_in_figures s processor)) (Some run) ≡ true
  pub reading : start.at ≡ time_at processor now s
  pub late : start.latency ≡ option_map (λ (woken : ℕ). start.at - woken) (task_in_figures s start.task).woken_at

-- a start that a switch tells is of a task that begins to run, with its latency since its wake, by cases:
starts_by : (s u : Figures) (processor now : ℕ) (run : Option ℕ) (start : Start)
    → KeepsWakes s u → is_run_by (processor_in_figures s processor).running run ≡ false
    → starts_as processor (time_at processor now s) run u ≡ Some start
    → Starts s processor now run start
starts_by s u processor now None start k new e = cc
starts_by s u processor now (Some id) start k new e =
    let x = start_of processor id (time_at processor now s) (task_in_figures u id) in
    let is : x ≡ start = cc in
    let P : Start → Type 0 = λ st. Starts s processor now (Some id) st in
    subst P is (record {
      here = refl;
      new = begins-new id (processor_in_figures s processor).running (Some id) new ∙ eq-eqb id id refl;
      reading = refl;
      late = ap (option_map (λ (woken : ℕ). time_at processor now s - woken)) (k.at id);
    })

starts_if : (b : Bool) (reason : StopReason) (s t : Figures) (processor now : ℕ) (run : Option ℕ) (start : Start)
    → KeepsWakes s t → (processor_in_figures t processor).running ≡ (processor_in_figures s processor).running
    → is_run_by (processor_in_figures t processor).running run ≡ b
    → cond b None
    (starts_as processor (time_at processor now s) run (stopped reason (time_at processor now s) (processor_in_figures t processor).running t))
    ≡ Some start
    → Starts s processor now run start
starts_if true reason s t processor now run start k r is e = cc
starts_if false reason s t processor now run start k r is e =
    let u = stopped reason (time_at processor now s) (processor_in_figures t processor).running t in
    starts_by s u processor now run start (both s t u k (kept-stopped reason (time_at processor now s) (processor_in_figures t processor).running t))
    (ap (λ o. is_run_by o run) (sym r) ∙ is) e

starts : (reason : StopReason) (s t : Figures) (processor now : ℕ) (run : Option ℕ) (start : Start)
    → KeepsWakes s t → (processor_in_figures t processor).running ≡ (processor_in_figures s processor).running
    → start_at reason processor (time_at processor now s) run t ≡ Some start
    → Starts s processor now run start
starts reason s t processor now run start k r e =
    starts_if (is_run_by (processor_in_figures t processor).running run) reason s t processor now run start k r refl e

-- what is reported of a start, by what the answer shows
abbrev pub StartsAs : Figures → Option ShownByAnswer → Start → Type 0
StartsAs s None start = ⊥
StartsAs s (Some x) start = (run : Option ℕ) × (x.run ≡ Some run) × Starts s x.processor x.now run start

-- each start that is reported is one at the processor that the answer shows, by cases:
starts-performed : (s : Figures) (e : Event) (r : Reply) (start : Start)
    → (report_of_answer s e r).start ≡ Some start → StartsAs s (shown_by_reply e r) start
starts-performed s (Drain processor now) (Drained count run by steps) start e =
    let d : Decision = record { hook = Preempt; by = by; steps = steps } in (
      run,
      refl,
      starts Preempted s (figures_counted processor d (figures_read processor now s)) processor now run start (kept-counted processor now d s)
          (runs-counted processor now d s processor) e,
    )
starts-performed s (Tick processor now) (Ticked run by steps) start e =
    let d : Decision = record { hook = Preempt; by = by; steps = steps } in (
      run,
      refl,
      starts Preempted s (figures_counted processor d (figures_read processor now s)) processor now run start (kept-counted processor now d s)
          (runs-counted processor now d s processor) e,
    )
starts-performed s (Block processor now) (Went task run) start e = (
  run,
  refl,
  starts Blocked s (figures_left task (figures_read processor now s)) processor now run start (kept-block processor now task s)
      (runs-block processor now task s processor) e,
)
starts-performed s (Pull processor from now) (Pulled task run by steps) start e =
    let d : Decision = record { hook = OnPull; by = by; steps = steps } in (
      run,
      refl,
      starts Preempted s (figures_taken processor (time_at processor now s) task (figures_counted processor d (figures_read processor now s)))
          processor now run start (kept-pull processor now d task s) (runs-pull processor now d task s processor) e,
    )
starts-performed s (EndWake processor now) (Placed task to by steps) start e = cc
starts-performed s e r start h = cc

starts-reported_if : (b : Bool) (s : Figures) (e : Event) (r : Reply) (start : Start)
    → (cond b (report_of_answer s e r) nothing).start ≡ Some start → StartsAs s (shown_by_reply e r) start
starts-reported_if true s e r start h = starts-performed s e r start h
starts-reported_if false s e r start h = cc

starts-reported : (s : Figures) (e : Event) (a : Result Reply Refusal) (start : Start)
    → (change s e a).start ≡ Some start → StartsAs s (shown_by_answer e a) start
starts-reported s e (Ok r) start h = starts-reported_if (is_there s e) s e r start h
starts-reported s e (Err r) start h = cc

-- the reading of the clock that an answer shows
clock-there : (processor : ℕ) (past : History) (x : ShownByAnswer) → x.processor ≡ processor
    → clock_after processor (clock processor past) (Some x) ≡ reading (clock processor past) x.now
clock-there processor past x e = rw e (rw (eq-eqb processor processor refl) refl)

-- such a start is of a task that begins to run in the history, at that reading, with the time since its wake
latency-shown : (count : ℕ) (past : History) (o : Option ShownByAnswer) (start : Start)
    → IsOfProcessors count past → IsShownWithin count o → start.task < 1024 → StartsAs (figures count past) o start
    → (begins_run start.task past o ≡ true) × (start.at ≡ clock_after start.processor (clock start.processor past) o)
    × (start.latency ≡ option_map (λ (woken : ℕ). start.at - woken) (awaited start.task past))
latency-shown count past None start h w inside t = absurd t
latency-shown count past (Some x) start h w inside t =
    let c = figures-clocks count past x.processor h w in (
      ap (λ r. begins_as start.task (runner x.processor past) r) t.1 ∙ ap (λ y. begins_as start.task y (Some t.0)) (sym c.1) ∙ t.2.new,
      t.2.reading ∙ ap (λ n. reading n x.now) c.0
          ∙ sym (ap (λ j. clock_after j (clock j past) (Some x)) t.2.here ∙ clock-there x.processor past x refl),
      t.2.late ∙ ap (option_map (λ (woken : ℕ). start.at - woken)) (awaits count past start.task h inside),
    )

-- where a start is reported its task begins to run, and its latency is the distance from the wake that still waits
pub reports_latencies : ReportsLatencies
reports_latencies count past m start h inside e =
    latency-shown count past (shown_by_answer m.event m.answer) start h.1 h.0 inside
    (starts-reported (figures count past) m.event m.answer start e)
