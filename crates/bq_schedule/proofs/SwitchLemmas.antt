-- The starts and stops that are reported are those of the tasks that begin to run, and cease.
use Rattle.std.proofs.Common.{◌≡◌, ◌≢◌, ℕ, ◌<◌, Bool, true, false, [], ◌∷◌, length, get_or, Option, Some, None, Result, Ok, Err, refl, sym, ap, ◌∙◌, inl, inr, eqb, cond, subst, get_or-set_same, arith, ltb-true, eq-eqb}
use Rattle.std.specs.Prelude.{IfSome, IsSomeAnd, unwrap_or, slice_set}
use Rattle.std.specs.Option.{option_map}
use Rattle.std.proofs.lemmas.Bool.Decides.{eqb_tells, nat_tests}
use Rattle.std.proofs.lemmas.List.{get_or-replicate}
use Rattle.bq_disc.specs.OneProcessor.{reading}
use Rattle.bq_parts.specs.declared.event.Event.{Event}
use Rattle.bq_parts.specs.declared.event.Event.TheVariants.{Admit, EndWake, Drain, Tick, Block, Pull}
use Rattle.bq_parts.specs.declared.reply.Reply.{Reply}
use Rattle.bq_parts.specs.declared.reply.Reply.TheVariants.{Admitted, Placed, Drained, Ticked, Blocked as Went, Pulled}
use Rattle.bq_parts.specs.declared.refusal.Refusal.{Refusal}
use Rattle.bq_hooks.specs.declared.hook.Hook.TheVariants.{Preempt, Pull as OnPull}
use Rattle.bq_schedule.specs.declared.change.Decision.{Decision}
use Rattle.bq_schedule.specs.declared.change.Start.{Start}
use Rattle.bq_schedule.specs.declared.change.Stop.{Stop}
use Rattle.bq_schedule.specs.declared.change.StopReason.{StopReason}
use Rattle.bq_schedule.specs.declared.change.StopReason.TheVariants.{Preempted, Blocked}
use Rattle.bq_schedule.specs.declared.figures.ProcessorFigures.{ProcessorFigures}
use Rattle.bq_schedule.specs.Histories.{AnsweredEvent, History}
use Rattle.bq_schedule.specs.Figures.{Figures, unread, processor_in_figures, task_in_figures}
use Rattle.bq_schedule.specs.Passing.{figures_read}
use Rattle.bq_schedule.specs.Runnable.{figures_left}
use Rattle.bq_schedule.specs.Running.{stopped, started, starts_as, start_of, stop_of, processor_runs, figures_switched, is_run_by, stop_at, start_at}
use Rattle.bq_schedule.specs.Slices.{ShownByAnswer, shown_by_reply, shown_by_answer, clock, clock_after, runner, runner_after}
use Rattle.bq_schedule.specs.Steps.{nothing, figures_counted, figures_taken, emptied, figures_decided, blocked, figures_pulled, performed, report_of_answer, time_at, is_there, figures_after, change, figures}
use Rattle.bq_schedule.specs.Switches.{why_left}
use Rattle.bq_schedule.specs.Laws.{IsShownWithin, IsOfProcessors, ReportsStarts, ReportsStops}
use Rattle.bq_schedule.proofs.TestLemmas.{Tells}
use Rattle.bq_schedule.proofs.FrameLemmas.{KeepsRunning, works-counted, works-leaves, works-taken, works-stopped, processors-begun_if, running-then, running-id, running-with_processor, running-counted, running-leaves, running-taken, running-read_at, runs-switched, who_is, count-read_at}
use Rattle.bq_schedule.proofs.ClockLemmas.{figures-clocks, shows-performed, within-figures, shown_by_reply-none}

-- a switch at a processor: what is reported of it, and what runs afterwards
pub record Switches (s s' : Figures) (reason : StopReason) (processor at : ℕ) (run : Option ℕ) (stop : Option Stop)
    (start : Option Start) : Type 0 where
  pub before : Figures
  pub stops : stop ≡ cond (is_run_by (processor_in_figures s processor).running run) None (stop_of reason at (processor_in_figures s processor).running)
  pub starts : start ≡ cond (is_run_by (processor_in_figures s processor).running run) None (starts_as processor at run before)
  pub runs : (processor_in_figures s' processor).running
      ≡ cond (is_run_by (processor_in_figures s processor).running run) (processor_in_figures s processor).running (starts_as processor at run before)
  pub others : (j : ℕ) → j ≢ processor → (processor_in_figures s' j).running ≡ (processor_in_figures s j).running

-- after a switch its processor runs what starts there, or what ran if the task is the same:
running-processor_runs : (p : ProcessorFigures) (o : Option Start) → (processor_runs p o).running ≡ o
running-processor_runs p None = refl
running-processor_runs p (Some start) = refl

running-started : (processor at : ℕ) (run : Option ℕ) (u : Figures)
    → processor < length u.processors
    → (processor_in_figures (started processor at run u) processor).running ≡ starts_as processor at run u
running-started processor at run u inside =
    let q = processor_runs (processor_in_figures u processor) (starts_as processor at run u) in
    ap (λ l. (get_or (slice_set l processor q) processor unread).running) (processors-begun_if processor at run u)
    ∙ ap (λ (p : ProcessorFigures). p.running) (get_or-set_same u.processors processor q unread inside)
    ∙ running-processor_runs (processor_in_figures u processor) (starts_as processor at run u)

running-switched_if : (b : Bool) (reason : StopReason) (processor at : ℕ) (run : Option ℕ) (t : Figures)
    → processor < length t.processors
    → let u = stopped reason at (processor_in_figures t processor).running t in
    (processor_in_figures (cond b t (started processor at run u)) processor).running
    ≡ cond b (processor_in_figures t processor).running (starts_as processor at run u)
running-switched_if true reason processor at run t inside = refl
running-switched_if false reason processor at run t inside =
    let u = stopped reason at (processor_in_figures t processor).running t in
    running-started processor at run u (omega (arith, (works-stopped reason at (processor_in_figures t processor).running t).count))

-- after a step that keeps who runs, and before another, a switch is one of the whole
switch : (reason : StopReason) (processor at : ℕ) (run : Option ℕ) (s t s' : Figures)
    → KeepsRunning s t → processor < length t.processors → KeepsRunning (figures_switched reason processor at run t) s'
    → Switches s s' reason processor at run (stop_at reason processor at run t) (start_at reason processor at run t)
switch reason processor at run s t s' k inside k' =
    let u = stopped reason at (processor_in_figures t processor).running t in
    record {
      before = u;
      stops = ap (λ o. cond (is_run_by o run) None (stop_of reason at o)) (k.at processor);
      starts = ap (λ o. cond (is_run_by o run) None (starts_as processor at run u)) (k.at processor);
      runs =
          k'.at processor ∙ running-switched_if (is_run_by (processor_in_figures t processor).running run) reason processor at run t inside
          ∙ ap (λ o. cond (is_run_by o run) o (starts_as processor at run u)) (k.at processor);
      others = λ j ne. k'.at j ∙ (runs-switched reason processor at run t inside).1 j ne ∙ k.at j;
    }

-- what an answer tells of who runs, by what it shows: nothing where it does not say who does
abbrev pub ReportsRunning : Figures → Figures → StopReason → ℕ → ℕ → Option (Option ℕ) → Option Stop → Option Start → Type 0
ReportsRunning s s' reason processor at None stop start = (stop ≡ None) × (start ≡ None) × KeepsRunning s s'
ReportsRunning s s' reason processor at (Some run) stop start = Switches s s' reason processor at run stop start

-- what an answer tells of who runs, by what an event and its answer show
abbrev pub ReportsSwitch : Figures → Figures → Event → Option ShownByAnswer → Option Stop → Option Start → Type 0
ReportsSwitch s s' e None stop start = (stop ≡ None) × (start ≡ None) × KeepsRunning s s'
ReportsSwitch s s' e (Some x) stop start = ReportsRunning s s' (why_left e) x.processor (time_at x.processor x.now s) x.run stop start

-- a decision, a block and a pull tell the switch that they make:
decided-switches : (processor now : ℕ) (d : Decision) (run : Option ℕ) (s s' : Figures)
    → processor < length s.processors → KeepsRunning (figures_decided processor now d run s) s'
    → let t = figures_counted processor d (figures_read processor now s) in
    Switches s s' Preempted processor (time_at processor now s) run (stop_at Preempted processor (time_at processor now s) run t)
    (start_at Preempted processor (time_at processor now s) run t)
decided-switches processor now d run s s' inside k =
    let r = figures_read processor now s in
    let t = figures_counted processor d r in
    switch Preempted processor (time_at processor now s) run s t s'
    (running-then s r t (running-read_at processor now s) (running-counted processor d r))
    (omega (arith, count-read_at processor now s, (works-counted processor d r).count)) k

blocked-switches : (processor now id : ℕ) (run : Option ℕ) (s : Figures)
    → processor < length s.processors
    → let t = figures_left id (figures_read processor now s) in
    Switches s (blocked processor now id run s) Blocked processor (time_at processor now s) run
    (stop_at Blocked processor (time_at processor now s) run t) (start_at Blocked processor (time_at processor now s) run t)
blocked-switches processor now id run s inside =
    let r = figures_read processor now s in
    let t = figures_left id r in
    switch Blocked processor (time_at processor now s) run s t (blocked processor now id run s)
    (running-then s r t (running-read_at processor now s) (running-leaves id r))
    (omega (arith, count-read_at processor now s, (works-leaves id r).count)) (running-id (blocked processor now id run s))

pulled-switches : (processor now : ℕ) (d : Decision) (task run : Option ℕ) (s : Figures)
    → processor < length s.processors
    → let t = figures_taken processor (time_at processor now s) task (figures_counted processor d (figures_read processor now s)) in
    Switches s (figures_pulled processor now d task run s) Preempted processor
    (time_at processor now s) run (stop_at Preempted processor (time_at processor now s) run t)
    (start_at Preempted processor (time_at processor now s) run t)
pulled-switches processor now d task run s inside =
    let r = figures_read processor now s in
    let a = figures_counted processor d r in
    let at = time_at processor now s in
    let t = figures_taken processor at task a in
    switch Preempted processor at run s t (figures_pulled processor now d task run s)
    (running-then s r t (running-read_at processor now s)
    (running-then r a t (running-counted processor d r) (running-taken processor at task a)))
    (omega (arith, count-read_at processor now s, (works-counted processor d r).count, (works-taken processor at task a).count))
    (running-id (figures_pulled processor now d task run s))

-- each reply tells the switch that it shows, by cases:
performed-switches : (s : Figures) (e : Event) (r : Reply) → is_there s e ≡ true
    → ReportsSwitch s (performed s e r) e (shown_by_reply e r) (report_of_answer s e r).stop (report_of_answer s e r).start
performed-switches s (Admit id nice mask slice) Admitted there =
    (refl, refl, (shows-performed s (Admit id nice mask slice) Admitted there).1)
performed-switches s (EndWake processor now) (Placed task to by steps) there =
    (refl, refl, (shows-performed s (EndWake processor now) (Placed task to by steps) there).1)
performed-switches s (Drain processor now) (Drained count run by steps) there =
    let d : Decision = record { hook = Preempt; by = by; steps = steps } in
    let q = figures_decided processor now d run s in
    decided-switches processor now d run s (emptied processor q) (ltb-true processor (length s.processors) there)
    (running-with_processor q processor _ refl)
performed-switches s (Tick processor now) (Ticked run by steps) there =
    let d : Decision = record { hook = Preempt; by = by; steps = steps } in
    decided-switches processor now d run s (figures_decided processor now d run s) (ltb-true processor (length s.processors) there)
    (running-id (figures_decided processor now d run s))
performed-switches s (Block processor now) (Went task run) there =
    blocked-switches processor now task run s (ltb-true processor (length s.processors) there)
performed-switches s (Pull processor from now) (Pulled task run by steps) there =
    pulled-switches processor now (record { hook = OnPull; by = by; steps = steps }) task run s
    (ltb-true processor (length s.processors) there)
performed-switches s e r there = (refl, refl, running-id s)

nothing-switches : (s : Figures) (e : Event) (r : Reply) → is_there s e ≡ false → IsShownWithin (length s.processors) (shown_by_reply e r)
    → ReportsSwitch s s e (shown_by_reply e r) None None
nothing-switches s e r none h = subst (λ o. ReportsSwitch s s e o None None) (sym (shown_by_reply-none s e r none h)) (refl, refl, running-id s)

switches-if : (b : Bool) (s : Figures) (e : Event) (r : Reply)
    → is_there s e ≡ b → IsShownWithin (length s.processors) (shown_by_reply e r)
    → ReportsSwitch s (cond b (performed s e r) s) e (shown_by_reply e r) (cond b (report_of_answer s e r) nothing).stop
    (cond b (report_of_answer s e r) nothing).start
switches-if true s e r there h = performed-switches s e r there
switches-if false s e r there h = nothing-switches s e r there h

-- each answer tells the switch that it shows
switches-after : (s : Figures) (e : Event) (a : Result Reply Refusal)
    → IsShownWithin (length s.processors) (shown_by_answer e a)
    → ReportsSwitch s (figures_after s e a) e (shown_by_answer e a) (change s e a).stop (change s e a).start
switches-after s e (Ok r) h = switches-if (is_there s e) s e r refl h
switches-after s e (Err r) h = (refl, refl, record { at = λ j. refl })

-- where it is another than who ran, it is not who runs
pub not_who : (running : Option Start) (run : Option ℕ) → is_run_by running run ≡ false → option_map (λ (x : Start). x.task) running ≢ run
not_who None None e h = cc
not_who None (Some id) e h = cc
not_who (Some start) None e h = cc
not_who (Some start) (Some id) e h =
    let same : start.task ≡ id = cc in
    grind (arith, nat_tests)

-- where who ran is another than who is to run, the test says so
is_new : (running : Option Start) (run : Option ℕ) (b : Bool)
    → is_run_by running run ≡ b → option_map (λ (x : Start). x.task) running ≢ run → b ≡ false
is_new running run true e ne = absurd (ne (who_is running run e))
is_new running run false e ne = refl

-- a start that a switch tells
pub record IsStart (running : Option Start) (processor at : ℕ) (run : Option ℕ) (start : Start) : Type 0 where
  pub here : start.processor ≡ processor
  pub task : run ≡ Some start.task
  pub time : start.at ≡ at
  pub new : option_map (λ (x : Start). x.task) running ≢ run

-- what is reported to start, where another runs than did, is such a start
pub start_if : (b : Bool) (running : Option Start) (processor at : ℕ) (run : Option ℕ) (u : Figures) (start : Start)
    → is_run_by running run ≡ b → cond b None (starts_as processor at run u) ≡ Some start
    → IsStart running processor at run start
start_if true running processor at run u start is e = cc
start_if false running processor at None u start is e = cc
start_if false running processor at (Some id) u start is e =
    let x : start_of processor id at (task_in_figures u id) ≡ start = cc in
    let P : Start → Type 0 = λ st. IsStart running processor at (Some id) st in
    subst P x (record { here = refl; task = refl; time = refl; new = not_who running (Some id) is })

-- a stop that a switch tells
pub record IsStop (running : Option Start) (reason : StopReason) (at : ℕ) (run : Option ℕ) (stop : Stop) : Type 0 where
  pub start : running ≡ Some stop.start
  pub time : stop.at ≡ at
  pub why : stop.reason ≡ reason
  pub new : option_map (λ (x : Start). x.task) running ≢ run

-- what is reported to stop, where another runs than did, is such a stop
pub stop_if : (b : Bool) (running : Option Start) (reason : StopReason) (at : ℕ) (run : Option ℕ) (stop : Stop)
    → is_run_by running run ≡ b → cond b None (stop_of reason at running) ≡ Some stop
    → IsStop running reason at run stop
stop_if true running reason at run stop is e = cc
stop_if false None reason at run stop is e = cc
stop_if false (Some old) reason at run stop is e =
    let x : Stop = record { start = old; at = at; reason = reason } in
    let same : x ≡ stop = cc in
    let P : Stop → Type 0 = λ st. IsStop (Some old) reason at run st in
    subst P same (record { start = refl; time = refl; why = refl; new = not_who (Some old) run is })

-- of whatever an option holds
pub of_some : {A : Type 0} (o : Option A) (P : A → Type 0) → ((a : A) → o ≡ Some a → P a) → IfSome o P
of_some None P f = tt
of_some (Some a) P f = f a refl

-- an option that holds something with a property has such a thing
and_some : {A : Type 0} (o : Option A) (P : A → Type 0) (a : A) → o ≡ Some a → P a → IsSomeAnd o P
and_some None P a e p = cc
and_some (Some b) P a e p =
    let same : a ≡ b = cc in
    subst P same p

-- what an answer that shows a processor makes of the clock, and of who runs there
clock-there : (j last : ℕ) (x : ShownByAnswer) → j ≡ x.processor → clock_after j last (Some x) ≡ reading last x.now
clock-there j last x e = rw e (rw (eq-eqb x.processor x.processor refl) refl)

runner-there : (j : ℕ) (w : Option ℕ) (x : ShownByAnswer) → j ≡ x.processor → runner_after j w (Some x) ≡ unwrap_or x.run w
runner-there j w x e = rw e (rw (eq-eqb x.processor x.processor refl) refl)

-- a choice between a thing and itself is that thing
same-cond : (b : Bool) (w : Option ℕ) → cond b w w ≡ w
same-cond true w = refl
same-cond false w = refl

-- a task begins to run with what an answer shows
abbrev pub BeginsWith : ℕ → ℕ → History → Option ShownByAnswer → Type 0
BeginsWith j task past o = (runner_after j (runner j past) o ≡ Some task) × (runner j past ≢ Some task)

-- a task ceases to run with what an answer shows
abbrev pub CeasesWith : ℕ → ℕ → History → Option ShownByAnswer → Type 0
CeasesWith j task past o = (runner j past ≡ Some task) × (runner_after j (runner j past) o ≢ Some task)

-- a start that is reported is of a task that begins to run
abbrev pub IsStartOf : ℕ → History → Option ShownByAnswer → Start → Type 0
IsStartOf count past o st =
    (st.processor < count) × BeginsWith st.processor st.task past o
    × (st.at ≡ clock_after st.processor (clock st.processor past) o)

-- a start that is reported is of a task that begins to run there, at that reading, by what the answer shows:
start-run : (count : ℕ) (past : History) (processor now : ℕ) (o : Option (Option ℕ)) (s' : Figures) (reason : StopReason)
    (stop : Option Stop) (start : Option Start) (st : Start)
    → IsOfProcessors count past → processor < count
    → ReportsRunning (figures count past) s' reason processor (time_at processor now (figures count past)) o stop start
    → start ≡ Some st
    → IsStartOf count past (Some (record { processor = processor; now = now; run = o })) st
start-run count past processor now None s' reason stop start st h w t e =
    let t1 = t.1 in
    cc
start-run count past processor now (Some run) s' reason stop start st h w t e =
    let s = figures count past in
    let x : ShownByAnswer = record { processor = processor; now = now; run = Some run } in
    let c = figures-clocks count past processor h w in
    let i =
    start_if (is_run_by (processor_in_figures s processor).running run) (processor_in_figures s processor).running processor
    (time_at processor now s) run t.before st refl (sym t.starts ∙ e) in
    let here = i.here in (
      omega arith,
      (
        runner-there st.processor (runner st.processor past) x here ∙ i.task,
        λ same. i.new (c.1 ∙ ap (λ k. runner k past) (sym here) ∙ same ∙ sym i.task),
      ),
      i.time ∙ ap (λ n. reading n now) (c.0 ∙ ap (λ k. clock k past) (sym here))
          ∙ sym (clock-there st.processor (clock st.processor past) x here),
    )

start-shown : (count : ℕ) (past : History) (o : Option ShownByAnswer) (s' : Figures) (e : Event) (stop : Option Stop)
    (start : Option Start) (st : Start)
    → IsOfProcessors count past → IsShownWithin count o → ReportsSwitch (figures count past) s' e o stop start → start ≡ Some st
    → IsStartOf count past o st
start-shown count past None s' e stop start st h w t is =
    let t1 = t.1 in
    cc
start-shown count past (Some x) s' e stop start st h w t is =
    start-run count past x.processor x.now x.run s' (why_left e) stop start st h w t is

-- each start of a task that begins to run is reported
begun-there : (count : ℕ) (past : History) (processor now j task : ℕ) (run : Option ℕ) (s' : Figures) (reason : StopReason)
    (stop : Option Stop) (start : Option Start) (b : Bool)
    → IsOfProcessors count past → processor < count
    → Switches (figures count past) s' reason processor (time_at processor now (figures count past)) run stop start
    → Tells b (processor ≡ j) (processor ≢ j) → cond b run (runner j past) ≡ Some task
    → runner j past ≢ Some task
    → IsSomeAnd start (λ st. (st.processor ≡ j) × (st.task ≡ task))
begun-there count past processor now j task run s' reason stop start true h w t (inl same) is new =
    let s = figures count past in
    let c = figures-clocks count past processor h w in
    let off : is_run_by (processor_in_figures s processor).running run ≡ false =
    is_new (processor_in_figures s processor).running run (is_run_by (processor_in_figures s processor).running run) refl
    (λ e. new (ap (λ k. runner k past) (sym same.1) ∙ sym c.1 ∙ e ∙ is)) in
    and_some start _ (start_of processor task (time_at processor now s) (task_in_figures t.before task))
    (t.starts ∙ ap (λ v. cond v None (starts_as processor (time_at processor now s) run t.before)) off
    ∙ ap (λ r. starts_as processor (time_at processor now s) r t.before) is) (same.1, refl)
begun-there count past processor now j task run s' reason stop start false h w t (inl same) is new = absurd (cc)
begun-there count past processor now j task run s' reason stop start true h w t (inr other) is new = absurd (cc)
begun-there count past processor now j task run s' reason stop start false h w t (inr other) is new = absurd (new is)

begun-run : (count : ℕ) (past : History) (processor now j task : ℕ) (o : Option (Option ℕ)) (s' : Figures) (reason : StopReason)
    (stop : Option Stop) (start : Option Start)
    → IsOfProcessors count past → processor < count
    → ReportsRunning (figures count past) s' reason processor (time_at processor now (figures count past)) o stop start
    → BeginsWith j task past (Some (record { processor = processor; now = now; run = o }))
    → IsSomeAnd start (λ st. (st.processor ≡ j) × (st.task ≡ task))
begun-run count past processor now j task None s' reason stop start h w t begins =
    absurd (begins.1 (sym (same-cond (eqb processor j) (runner j past)) ∙ begins.0))
begun-run count past processor now j task (Some run) s' reason stop start h w t begins =
    begun-there count past processor now j task run s' reason stop start (eqb processor j) h w t (eqb_tells processor j) begins.0 begins.1

begun-shown : (count : ℕ) (past : History) (o : Option ShownByAnswer) (s' : Figures) (e : Event) (stop : Option Stop)
    (start : Option Start) (j task : ℕ)
    → IsOfProcessors count past → IsShownWithin count o → ReportsSwitch (figures count past) s' e o stop start
    → BeginsWith j task past o
    → IsSomeAnd start (λ st. (st.processor ≡ j) × (st.task ≡ task))
begun-shown count past None s' e stop start j task h w t begins = absurd (begins.1 begins.0)
begun-shown count past (Some x) s' e stop start j task h w t begins =
    begun-run count past x.processor x.now j task x.run s' (why_left e) stop start h w t begins

-- what an answered event tells is of the switch that it shows
pub answer_reports : (count : ℕ) (past : History) (m : AnsweredEvent)
    → IsOfProcessors count (m ∷ past)
    → ReportsSwitch (figures count past) (figures count (m ∷ past)) m.event (shown_by_answer m.event m.answer)
    (change (figures count past) m.event m.answer).stop (change (figures count past) m.event m.answer).start
answer_reports count past m h = switches-after (figures count past) m.event m.answer (within-figures count past m h)

-- a start is reported exactly when a task begins to run
pub reports_starts : ReportsStarts
reports_starts count past m h =
    let o = shown_by_answer m.event m.answer in
    let s' = figures count (m ∷ past) in
    let c = change (figures count past) m.event m.answer in (
      λ processor task inside begins.
          begun-shown count past o s' m.event c.stop c.start processor task h.1 h.0 (answer_reports count past m h) begins,
      of_some c.start _ (λ st is. start-shown count past o s' m.event c.stop c.start st h.1 h.0 (answer_reports count past m h) is),
    )

-- what runs at a processor has begun there
abbrev pub RunsHere : ℕ → History → Type 0
RunsHere count past = (j : ℕ) (st : Start) → j < count → (processor_in_figures (figures count past) j).running ≡ Some st → st.processor ≡ j

-- who runs at a processor after a switch has begun there, if who ran before has
pub begun-here : (b : Bool) (processor at : ℕ) (run : Option ℕ) (u : Figures) (running : Option Start) (st : Start)
    → cond b running (starts_as processor at run u) ≡ Some st → (running ≡ Some st → st.processor ≡ processor)
    → st.processor ≡ processor
begun-here true processor at run u running st e before = before e
begun-here false processor at None u running st e before = cc
begun-here false processor at (Some id) u running st e before =
    let x : start_of processor id at (task_in_figures u id) ≡ st = cc in
    ap (λ (y : Start). y.processor) (sym x)

-- where what ran at a processor had begun there, what runs after an answered event has too, by cases:
here-there : (s s' : Figures) (reason : StopReason) (processor at : ℕ) (run : Option ℕ) (stop : Option Stop)
    (start : Option Start) (j : ℕ) (st : Start) (b : Bool)
    → Switches s s' reason processor at run stop start → Tells b (processor ≡ j) (processor ≢ j)
    → ((processor_in_figures s j).running ≡ Some st → st.processor ≡ j) → (processor_in_figures s' j).running ≡ Some st
    → st.processor ≡ j
here-there s s' reason processor at run stop start j st b t (inl same) before e =
    begun-here (is_run_by (processor_in_figures s processor).running run) processor at run t.before
    (processor_in_figures s processor).running st (sym t.runs ∙ ap (λ k. (processor_in_figures s' k).running) same.1 ∙ e)
    (λ is. before (ap (λ k. (processor_in_figures s k).running) (sym same.1) ∙ is) ∙ sym same.1)
    ∙ same.1
here-there s s' reason processor at run stop start j st b t (inr other) before e = before (sym (t.others j (λ is. other.1 (sym is))) ∙ e)

here-run : (s s' : Figures) (reason : StopReason) (processor at : ℕ) (o : Option (Option ℕ)) (stop : Option Stop)
    (start : Option Start) (j : ℕ) (st : Start)
    → ReportsRunning s s' reason processor at o stop start → ((processor_in_figures s j).running ≡ Some st → st.processor ≡ j)
    → (processor_in_figures s' j).running ≡ Some st
    → st.processor ≡ j
here-run s s' reason processor at None stop start j st t before e = before (sym (t.2.at j) ∙ e)
here-run s s' reason processor at (Some run) stop start j st t before e =
    here-there s s' reason processor at run stop start j st (eqb processor j) t (eqb_tells processor j) before e

here-shown : (s s' : Figures) (e : Event) (o : Option ShownByAnswer) (stop : Option Stop) (start : Option Start) (j : ℕ) (st : Start)
    → ReportsSwitch s s' e o stop start → ((processor_in_figures s j).running ≡ Some st → st.processor ≡ j)
    → (processor_in_figures s' j).running ≡ Some st
    → st.processor ≡ j
here-shown s s' e None stop start j st t before is = before (sym (t.2.at j) ∙ is)
here-shown s s' e (Some x) stop start j st t before is =
    here-run s s' (why_left e) x.processor (time_at x.processor x.now s) x.run stop start j st t before is

-- in each history what runs at a processor has begun there
pub runs_here : (count : ℕ) (past : History) → IsOfProcessors count past → RunsHere count past
runs_here count [] h j st inside e =
    let none : (processor_in_figures (figures count []) j).running ≡ None =
    ap (λ (p : ProcessorFigures). p.running) (get_or-replicate count j unread unread inside) in
    cc
runs_here count (m ∷ past) h j st inside e =
    let c = change (figures count past) m.event m.answer in
    here-shown (figures count past) (figures count (m ∷ past)) m.event (shown_by_answer m.event m.answer) c.stop c.start j st
    (answer_reports count past m h) (runs_here count past h.1 j st inside) e

-- a stop that is reported is of a task that ceases to run
abbrev pub IsStopOf : ℕ → History → Event → Option ShownByAnswer → Stop → Type 0
IsStopOf count past e o sp =
    (sp.start.processor < count) × CeasesWith sp.start.processor sp.start.task past o
    × (sp.at ≡ clock_after sp.start.processor (clock sp.start.processor past) o) × (sp.reason ≡ why_left e)

-- a stop that is reported is of a task that ceases to run there, at that reading, by what the answer shows:
stop-run : (count : ℕ) (past : History) (e : Event) (processor now : ℕ) (o : Option (Option ℕ)) (s' : Figures)
    (stop : Option Stop) (start : Option Start) (sp : Stop)
    → IsOfProcessors count past → processor < count
    → ReportsRunning (figures count past) s' (why_left e) processor (time_at processor now (figures count past)) o stop start
    → stop ≡ Some sp
    → IsStopOf count past e (Some (record { processor = processor; now = now; run = o })) sp
stop-run count past e processor now None s' stop start sp h w t is =
    let t0 = t.0 in
    cc
stop-run count past e processor now (Some run) s' stop start sp h w t is =
    let s = figures count past in
    let x : ShownByAnswer = record { processor = processor; now = now; run = Some run } in
    let c = figures-clocks count past processor h w in
    let i =
    stop_if (is_run_by (processor_in_figures s processor).running run) (processor_in_figures s processor).running (why_left e)
    (time_at processor now s) run sp refl (sym t.stops ∙ is) in
    let here : sp.start.processor ≡ processor = runs_here count past h processor sp.start w i.start in
    let ran : runner processor past ≡ Some sp.start.task = sym c.1 ∙ ap (option_map (λ (y : Start). y.task)) i.start in (
      omega arith,
      (
        ap (λ k. runner k past) here ∙ ran,
        λ same. i.new (c.1 ∙ ran ∙ sym same ∙ runner-there sp.start.processor (runner sp.start.processor past) x here),
      ),
      i.time ∙ ap (λ n. reading n now) (c.0 ∙ ap (λ k. clock k past) (sym here))
          ∙ sym (clock-there sp.start.processor (clock sp.start.processor past) x here),
      i.why,
    )

stop-shown : (count : ℕ) (past : History) (o : Option ShownByAnswer) (s' : Figures) (e : Event) (stop : Option Stop)
    (start : Option Start) (sp : Stop)
    → IsOfProcessors count past → IsShownWithin count o → ReportsSwitch (figures count past) s' e o stop start → stop ≡ Some sp
    → IsStopOf count past e o sp
stop-shown count past None s' e stop start sp h w t is =
    let t0 = t.0 in
    cc
stop-shown count past (Some x) s' e stop start sp h w t is = stop-run count past e x.processor x.now x.run s' stop start sp h w t is

-- of what ran something is reported where it is another than runs now
ceases_with-reported : (running : Option Start) (reason : StopReason) (at j task : ℕ) (stop : Option Stop)
    → stop ≡ stop_of reason at running → option_map (λ (x : Start). x.task) running ≡ Some task
    → ((st : Start) → running ≡ Some st → st.processor ≡ j)
    → IsSomeAnd stop (λ sp. (sp.start.processor ≡ j) × (sp.start.task ≡ task))
ceases_with-reported None reason at j task stop is e here = cc
ceases_with-reported (Some old) reason at j task stop is e here =
    let same : old.task ≡ task = cc in
    and_some stop _ (record { start = old; at = at; reason = reason }) is (here old refl, same)

-- of each task that ceases to run a stop is reported, by cases:
ceases_with-there : (count : ℕ) (past : History) (processor now j task : ℕ) (run : Option ℕ) (s' : Figures) (reason : StopReason)
    (stop : Option Stop) (start : Option Start) (b : Bool)
    → IsOfProcessors count past → processor < count
    → Switches (figures count past) s' reason processor (time_at processor now (figures count past)) run stop start
    → Tells b (processor ≡ j) (processor ≢ j) → runner j past ≡ Some task
    → cond b run (runner j past) ≢ Some task
    → IsSomeAnd stop (λ sp. (sp.start.processor ≡ j) × (sp.start.task ≡ task))
ceases_with-there count past processor now j task run s' reason stop start true h w t (inl same) ran new =
    let s = figures count past in
    let c = figures-clocks count past processor h w in
    let ran' : option_map (λ (x : Start). x.task) (processor_in_figures s processor).running ≡ Some task =
    c.1 ∙ ap (λ k. runner k past) same.1 ∙ ran in
    let off : is_run_by (processor_in_figures s processor).running run ≡ false =
    is_new (processor_in_figures s processor).running run (is_run_by (processor_in_figures s processor).running run) refl (λ e. new (sym e ∙ ran')) in
    ceases_with-reported (processor_in_figures s processor).running reason (time_at processor now s) j task stop
    (t.stops ∙ ap (λ v. cond v None (stop_of reason (time_at processor now s) (processor_in_figures s processor).running)) off)
    ran' (λ st e. runs_here count past h processor st w e ∙ same.1)
ceases_with-there count past processor now j task run s' reason stop start false h w t (inl same) ran new = absurd (cc)
ceases_with-there count past processor now j task run s' reason stop start true h w t (inr other) ran new = absurd (cc)
ceases_with-there count past processor now j task run s' reason stop start false h w t (inr other) ran new = absurd (new ran)

ceases_with-run : (count : ℕ) (past : History) (processor now j task : ℕ) (o : Option (Option ℕ)) (s' : Figures) (reason : StopReason)
    (stop : Option Stop) (start : Option Start)
    → IsOfProcessors count past → processor < count
    → ReportsRunning (figures count past) s' reason processor (time_at processor now (figures count past)) o stop start
    → CeasesWith j task past (Some (record { processor = processor; now = now; run = o }))
    → IsSomeAnd stop (λ sp. (sp.start.processor ≡ j) × (sp.start.task ≡ task))
ceases_with-run count past processor now j task None s' reason stop start h w t ceases =
    absurd (ceases.1 (same-cond (eqb processor j) (runner j past) ∙ ceases.0))
ceases_with-run count past processor now j task (Some run) s' reason stop start h w t ceases =
    ceases_with-there count past processor now j task run s' reason stop start (eqb processor j) h w t (eqb_tells processor j) ceases.0 ceases.1

ceases_with-shown : (count : ℕ) (past : History) (o : Option ShownByAnswer) (s' : Figures) (e : Event) (stop : Option Stop)
    (start : Option Start) (j task : ℕ)
    → IsOfProcessors count past → IsShownWithin count o → ReportsSwitch (figures count past) s' e o stop start
    → CeasesWith j task past o
    → IsSomeAnd stop (λ sp. (sp.start.processor ≡ j) × (sp.start.task ≡ task))
ceases_with-shown count past None s' e stop start j task h w t ceases = absurd (ceases.1 ceases.0)
ceases_with-shown count past (Some x) s' e stop start j task h w t ceases =
    ceases_with-run count past x.processor x.now j task x.run s' (why_left e) stop start h w t ceases

-- a stop is reported exactly when a task ceases to run
pub reports_stops : ReportsStops
reports_stops count past m h =
    let o = shown_by_answer m.event m.answer in
    let s' = figures count (m ∷ past) in
    let c = change (figures count past) m.event m.answer in (
      λ processor task inside ceases.
          ceases_with-shown count past o s' m.event c.stop c.start processor task h.1 h.0 (answer_reports count past m h) ceases,
      of_some c.stop _ (λ sp is. stop-shown count past o s' m.event c.stop c.start sp h.1 h.0 (answer_reports count past m h) is),
    )
