-- The clocks of a schedule, and who runs, are those of its history.
use Rattle.std.proofs.Common.{◌≡◌, ◌≢◌, ℕ, ◌<◌, Bool, true, false, [], ◌∷◌, length, get_or, Option, Some, None, Result, Ok, Err, refl, sym, ap, ◌∙◌, subst, inl, inr, eqb, ltb, cond, arith, ltb-true}
use Rattle.std.specs.Prelude.{unwrap_or}
use Rattle.std.proofs.lemmas.Bool.Decides.{eqb_tells, nat_tests}
use Rattle.std.proofs.lemmas.List.{get_or-replicate, length-replicate}
use Rattle.std.specs.Option.{option_map}
use Rattle.bq_disc.specs.OneProcessor.{reading}
use Rattle.bq_parts.specs.declared.event.Event.{Event}
use Rattle.bq_parts.specs.declared.event.Event.TheVariants.{Admit, EndWake, Drain, Tick, Block, Pull}
use Rattle.bq_parts.specs.declared.reply.Reply.{Reply}
use Rattle.bq_parts.specs.declared.reply.Reply.TheVariants.{Admitted, Placed, Drained, Ticked, Blocked as Went, Pulled}
use Rattle.bq_parts.specs.declared.refusal.Refusal.{Refusal}
use Rattle.bq_hooks.specs.declared.hook.Hook.TheVariants.{Place, Preempt, Pull as OnPull}
use Rattle.bq_schedule.specs.declared.change.Decision.{Decision}
use Rattle.bq_schedule.specs.declared.change.Start.{Start}
use Rattle.bq_schedule.specs.declared.change.StopReason.TheVariants.{Preempted, Blocked}
use Rattle.bq_schedule.specs.declared.figures.ProcessorFigures.{ProcessorFigures}
use Rattle.bq_schedule.specs.Histories.{AnsweredEvent, History}
use Rattle.bq_schedule.specs.Figures.{Figures, opening_figures, unread, processor_in_figures}
use Rattle.bq_schedule.specs.Passing.{figures_read, processor_read}
use Rattle.bq_schedule.specs.Runnable.{figures_left, comes}
use Rattle.bq_schedule.specs.Running.{running_task, figures_switched}
use Rattle.bq_schedule.specs.Slices.{ShownByAnswer, shown_by_reply, shown_by_answer, clock_after, clock, runner_after, runner}
use Rattle.bq_schedule.specs.Steps.{figures_counted, figures_taken, emptied, figures_decided, placed, blocked, figures_pulled, performed, time_at, is_there, figures_after, figures}
use Rattle.bq_schedule.specs.Laws.{IsShownWithin, IsOfProcessors}
use Rattle.bq_schedule.proofs.TestLemmas.{Tells, get_or-set_at}
use Rattle.bq_schedule.proofs.FrameLemmas.{Works, KeepsWorks, KeepsRunning, RunsAs, works-then, works-id, works-with_task, works-with_processor, works-counted, works-leaves, works-comes, works-taken, works-switched, running-then, running-id, running-with_task, running-with_processor, running-counted, running-leaves, running-comes, running-taken, running-read_at, runs-after, runs-before, runs-switched, count-read_at, processors-read_at}

-- what a reply does: the clock is read that it shows, and nothing else of the works changes; and it runs who it says
abbrev pub Shows : Figures → Figures → Option ShownByAnswer → Type 0
Shows s s' None = KeepsWorks s s' × KeepsRunning s s'
Shows s s' (Some x) = KeepsWorks (figures_read x.processor x.now s) s' × RunsAs x.run x.processor s s'

-- a placement, a decision, a block and a pull do to the works, and to who runs, what they show:
shows-placed : (processor now : ℕ) (d : Decision) (id to : ℕ) (s : Figures)
    → Shows s (placed processor now d id to s) (Some (record { processor = processor; now = now; run = None }))
shows-placed processor now d id to s =
    let r = figures_read processor now s in
    let a = figures_counted processor d r in
    let at = time_at processor now s in
    let c = comes id to at a in (
      works-then r a _ (works-counted processor d r) (works-then a c _ (works-comes id to at a) (works-with_task c id _ refl)),
      running-then s r _ (running-read_at processor now s)
          (running-then r a _ (running-counted processor d r) (running-then a c _ (running-comes id to at a) (running-with_task c id _))),
    )

shows-decided : (processor now : ℕ) (d : Decision) (run : Option ℕ) (s : Figures)
    → processor < length s.processors
    → Shows s (figures_decided processor now d run s) (Some (record { processor = processor; now = now; run = Some run }))
shows-decided processor now d run s inside =
    let r = figures_read processor now s in
    let a = figures_counted processor d r in
    let at = time_at processor now s in
    let inside' : processor < length a.processors = omega (arith, count-read_at processor now s, (works-counted processor d r).count) in (
      works-then r a _ (works-counted processor d r) (works-switched Preempted processor at run a),
      runs-after (Some run) processor s a (figures_switched Preempted processor at run a)
          (running-then s r a (running-read_at processor now s) (running-counted processor d r))
          (runs-switched Preempted processor at run a inside'),
    )

shows-blocked : (processor now id : ℕ) (run : Option ℕ) (s : Figures)
    → processor < length s.processors
    → Shows s (blocked processor now id run s) (Some (record { processor = processor; now = now; run = Some run }))
shows-blocked processor now id run s inside =
    let r = figures_read processor now s in
    let a = figures_left id r in
    let at = time_at processor now s in
    let inside' : processor < length a.processors = omega (arith, count-read_at processor now s, (works-leaves id r).count) in (
      works-then r a _ (works-leaves id r) (works-switched Blocked processor at run a),
      runs-after (Some run) processor s a (figures_switched Blocked processor at run a)
          (running-then s r a (running-read_at processor now s) (running-leaves id r))
          (runs-switched Blocked processor at run a inside'),
    )

shows-pulled : (processor now : ℕ) (d : Decision) (task run : Option ℕ) (s : Figures)
    → processor < length s.processors
    → Shows s (figures_pulled processor now d task run s) (Some (record { processor = processor; now = now; run = Some run }))
shows-pulled processor now d task run s inside =
    let r = figures_read processor now s in
    let a = figures_counted processor d r in
    let at = time_at processor now s in
    let k = figures_taken processor at task a in
    let inside' : processor < length k.processors =
    omega (arith, count-read_at processor now s, (works-counted processor d r).count, (works-taken processor at task a).count) in (
      works-then r a _ (works-counted processor d r)
          (works-then a k _ (works-taken processor at task a) (works-switched Preempted processor at run k)),
      runs-after (Some run) processor s k (figures_switched Preempted processor at run k)
          (running-then s r k (running-read_at processor now s)
          (running-then r a k (running-counted processor d r) (running-taken processor at task a)))
          (runs-switched Preempted processor at run k inside'),
    )

-- so does a drain; and an admission keeps both, if what follows the task's leaving does:
shows-drained : (processor now : ℕ) (d : Decision) (run : Option ℕ) (s : Figures)
    → processor < length s.processors
    → Shows s (emptied processor (figures_decided processor now d run s)) (Some (record { processor = processor; now = now; run = Some run }))
shows-drained processor now d run s inside =
    let h = shows-decided processor now d run s inside in
    let q = figures_decided processor now d run s in (
      works-then _ q _ h.0 (works-with_processor q processor _ refl),
      runs-before (Some run) processor s q (emptied processor q) h.1 (running-with_processor q processor _ refl),
    )

shows-admitted : (id : ℕ) (s : Figures) (t : Figures) → KeepsWorks (figures_left id s) t → KeepsRunning (figures_left id s) t
    → KeepsWorks s t × KeepsRunning s t
shows-admitted id s t a b = (works-then s (figures_left id s) t (works-leaves id s) a, running-then s (figures_left id s) t (running-leaves id s) b)

-- a reply to an event whose processor is there does to the works, and to who runs, what it shows
pub shows-performed : (s : Figures) (e : Event) (r : Reply) → is_there s e ≡ true → Shows s (performed s e r) (shown_by_reply e r)
shows-performed s (Admit id nice mask slice) Admitted there =
    shows-admitted id s _ (works-with_task (figures_left id s) id _ refl) (running-with_task (figures_left id s) id _)
shows-performed s (EndWake processor now) (Placed task to by steps) there =
    shows-placed processor now (record { hook = Place; by = by; steps = steps }) task to s
shows-performed s (Drain processor now) (Drained count run by steps) there =
    shows-drained processor now (record { hook = Preempt; by = by; steps = steps }) run s
    (ltb-true processor (length s.processors) there)
shows-performed s (Tick processor now) (Ticked run by steps) there =
    shows-decided processor now (record { hook = Preempt; by = by; steps = steps }) run s
    (ltb-true processor (length s.processors) there)
shows-performed s (Block processor now) (Went task run) there =
    shows-blocked processor now task run s (ltb-true processor (length s.processors) there)
shows-performed s (Pull processor from now) (Pulled task run by steps) there =
    shows-pulled processor now (record { hook = OnPull; by = by; steps = steps }) task run s
    (ltb-true processor (length s.processors) there)
shows-performed s e r there = (works-id s, running-id s)

-- what is not below a number is not below it
not_below : (a b : ℕ) → ltb a b ≡ false → a < b → ⊥
not_below a b e h = grind (arith, nat_tests)

-- where the event's processor is not there, a reply that shows nothing of such a one shows nothing
pub shown_by_reply-none : (s : Figures) (e : Event) (r : Reply) → is_there s e ≡ false → IsShownWithin (length s.processors) (shown_by_reply e r)
    → shown_by_reply e r ≡ None
shown_by_reply-none s (EndWake processor now) (Placed task to by steps) none h = absurd (not_below processor (length s.processors) none h)
shown_by_reply-none s (Drain processor now) (Drained count run by steps) none h = absurd (not_below processor (length s.processors) none h)
shown_by_reply-none s (Tick processor now) (Ticked run by steps) none h = absurd (not_below processor (length s.processors) none h)
shown_by_reply-none s (Block processor now) (Went task run) none h = absurd (not_below processor (length s.processors) none h)
shown_by_reply-none s (Pull processor from now) (Pulled task run by steps) none h = absurd (not_below processor (length s.processors) none h)
shown_by_reply-none s e r none h = refl

-- there the figures stay as they are, and so does what is shown
shows-nothing : (s : Figures) (e : Event) (r : Reply) → is_there s e ≡ false → IsShownWithin (length s.processors) (shown_by_reply e r)
    → Shows s s (shown_by_reply e r)
shows-nothing s e r none h = subst (Shows s s) (sym (shown_by_reply-none s e r none h)) (works-id s, running-id s)

-- a reply does what it shows, whether or not its processor is there
shows-if : (b : Bool) (s : Figures) (e : Event) (r : Reply) → is_there s e ≡ b → IsShownWithin (length s.processors) (shown_by_reply e r)
    → Shows s (cond b (performed s e r) s) (shown_by_reply e r)
shows-if true s e r there h = shows-performed s e r there
shows-if false s e r there h = shows-nothing s e r there h

-- each answer does to the works, and to who runs, what it shows
pub shows-after : (s : Figures) (e : Event) (a : Result Reply Refusal)
    → IsShownWithin (length s.processors) (shown_by_answer e a) → Shows s (figures_after s e a) (shown_by_answer e a)
shows-after s e (Ok r) h = shows-if (is_there s e) s e r refl h
shows-after s e (Err r) h = (record { at = λ j. refl; count = refl; tasks = refl; times = λ id. refl }, record { at = λ j. refl })

-- how many processors there are stays
count-shown : (s s' : Figures) (o : Option ShownByAnswer) → Shows s s' o → length s'.processors ≡ length s.processors
count-shown s s' None h = h.0.count
count-shown s s' (Some x) h = h.0.count ∙ count-read_at x.processor x.now s

-- after an event and its answer there are as many processors as before
pub count-after : (s : Figures) (e : Event) (a : Result Reply Refusal)
    → IsShownWithin (length s.processors) (shown_by_answer e a) → length (figures_after s e a).processors ≡ length s.processors
count-after s e a h = count-shown s (figures_after s e a) (shown_by_answer e a) (shows-after s e a h)

-- what is shown of one of this many processors is so for the same number
pub within_same : (n k : ℕ) (o : Option ShownByAnswer) → n ≡ k → IsShownWithin k o → IsShownWithin n o
within_same n k o e h = rw e h

-- the figures of a history have as many processors as its world
pub count-figures : (count : ℕ) (past : History) → IsOfProcessors count past → length (figures count past).processors ≡ count
count-figures count [] h = length-replicate count unread
count-figures count (m ∷ past) h =
    let before : length (figures count past).processors ≡ count = count-figures count past h.1 in
    count-after (figures count past) m.event m.answer (within_same _ _ _ before h.0) ∙ before

-- the answered event is within what the figures before it have
pub within-figures : (count : ℕ) (past : History) (m : AnsweredEvent)
    → IsOfProcessors count (m ∷ past)
    → IsShownWithin (length (figures count past).processors) (shown_by_answer m.event m.answer)
within-figures count past m h = within_same _ _ _ (count-figures count past h.1) h.0

-- after a reading its processor has what the reading makes of it, and each other what it had
pub processor-read_at : (processor now j : ℕ) (s : Figures) → j < length s.processors
    → processor_in_figures (figures_read processor now s) j
    ≡ cond (eqb processor j) (processor_read processor (processor_in_figures s processor) now) (processor_in_figures s j)
processor-read_at processor now j s inside =
    ap (λ l. get_or l j unread) (processors-read_at processor now s)
    ∙ get_or-set_at (λ (p : ProcessorFigures). p) s.processors processor j _ unread (λ same. inside)

-- what a reading makes of the last reading of a processor, its own or another:
last-cond : (b : Bool) (p q : ProcessorFigures) → (cond b p q).last ≡ cond b p.last q.last
last-cond true p q = refl
last-cond false p q = refl

last-same : (processor now j : ℕ) (s : Figures) (b : Bool) → Tells b (processor ≡ j) (processor ≢ j)
    → cond b (reading (processor_in_figures s processor).last now) (processor_in_figures s j).last
    ≡ cond b (reading (processor_in_figures s j).last now) (processor_in_figures s j).last
last-same processor now j s true (inl same) = ap (λ k. reading (processor_in_figures s k).last now) same.1
last-same processor now j s false (inl same) = refl
last-same processor now j s true (inr other) = absurd (cc)
last-same processor now j s false (inr other) = refl

-- the last reading of each clock is the one that is shown
pub last-shown : (s s' : Figures) (o : Option ShownByAnswer) (j : ℕ) → j < length s.processors → Shows s s' o
    → (processor_in_figures s' j).last ≡ clock_after j (processor_in_figures s j).last o
last-shown s s' None j inside h = ap (λ (w : Works). w.last) (h.0.at j)
last-shown s s' (Some x) j inside h =
    ap (λ (w : Works). w.last) (h.0.at j)
    ∙ ap (λ (p : ProcessorFigures). p.last) (processor-read_at x.processor x.now j s inside)
    ∙ last-cond (eqb x.processor j) _ _
    ∙ last-same x.processor x.now j s (eqb x.processor j) (eqb_tells x.processor j)

-- what is reported of who runs holds at its processor, and each other runs whom it ran
running_task-at : (o : Option (Option ℕ)) (s s' : Figures) (processor j : ℕ) (b : Bool)
    → Tells b (processor ≡ j) (processor ≢ j) → RunsAs o processor s s'
    → running_task (processor_in_figures s' j) ≡ cond b (unwrap_or o (running_task (processor_in_figures s j))) (running_task (processor_in_figures s j))
running_task-at None s s' processor j true t h = ap (option_map (λ (x : Start). x.task)) (h.at j)
running_task-at None s s' processor j false t h = ap (option_map (λ (x : Start). x.task)) (h.at j)
running_task-at (Some run) s s' processor j true (inl same) h = ap (λ k. running_task (processor_in_figures s' k)) (sym same.1) ∙ h.0
running_task-at (Some run) s s' processor j false (inl same) h = absurd (cc)
running_task-at (Some run) s s' processor j true (inr other) h = absurd (cc)
running_task-at (Some run) s s' processor j false (inr other) h = ap (option_map (λ (x : Start). x.task)) (h.1 j (λ e. other.1 (sym e)))

-- who runs is who the answer of an event says
pub running_task-shown : (s s' : Figures) (o : Option ShownByAnswer) (j : ℕ)
    → Shows s s' o → running_task (processor_in_figures s' j) ≡ runner_after j (running_task (processor_in_figures s j)) o
running_task-shown s s' None j h = ap (option_map (λ (x : Start). x.task)) (h.1.at j)
running_task-shown s s' (Some x) j h = running_task-at x.run s s' x.processor j (eqb x.processor j) (eqb_tells x.processor j) h.1

-- at the opening no clock has been read
opening-at : (count processor : ℕ) → processor < count → processor_in_figures (opening_figures count) processor ≡ unread
opening-at count processor inside = get_or-replicate count processor unread unread inside

-- the figures' last reading of each processor, and who runs there, are those of the history
pub figures-clocks : (count : ℕ) (past : History) (processor : ℕ)
    → IsOfProcessors count past → processor < count
    → ((processor_in_figures (figures count past) processor).last ≡ clock processor past)
    × (running_task (processor_in_figures (figures count past) processor) ≡ runner processor past)
figures-clocks count [] processor h inside = (
  ap (λ (p : ProcessorFigures). p.last) (opening-at count processor inside),
  ap running_task (opening-at count processor inside),
)
figures-clocks count (m ∷ past) processor h inside =
    let s = figures count past in
    let o = shown_by_answer m.event m.answer in
    let before = figures-clocks count past processor h.1 inside in
    let inside' : processor < length s.processors = omega (arith, count-figures count past h.1) in
    let shown : Shows s (figures_after s m.event m.answer) o = shows-after s m.event m.answer (within-figures count past m h) in (
      last-shown s _ o processor inside' shown ∙ ap (λ n. clock_after processor n o) before.0,
      running_task-shown s _ o processor shown ∙ ap (λ w. runner_after processor w o) before.1,
    )
