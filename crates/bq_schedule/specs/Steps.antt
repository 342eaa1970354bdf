-- What each answered event changes in the figures, and what is reported of it.
use Rattle.std.specs.Prelude.{ℕ, ◌-◌, ℤ, true, false, Bool, ◌||◌, ◌&&◌, not, nat_lt, [], ◌∷◌, length, Option, Some, None, Result, Ok, Err, if◌then◌else◌}
use Rattle.std.specs.Option.{option_map}
use Rattle.bq_weights.specs.VirtualTime.{is_nice, weight_of}
use Rattle.bq_hooks.specs.declared.settled.By.{By}
use Rattle.bq_hooks.specs.declared.settled.By.TheVariants as who
use Rattle.bq_hooks.specs.declared.hook.Hook.{Hook}
use Rattle.bq_hooks.specs.declared.hook.Hook.TheVariants.{Place, Preempt, Pull as OnPull}
use Rattle.bq_disc.specs.OneProcessor.{reading}
use Rattle.bq_parts.specs.declared.refusal.Refusal.{Refusal}
use Rattle.bq_parts.specs.declared.event.Event.{Event}
use Rattle.bq_parts.specs.declared.event.Event.TheVariants.{Admit, EndWake, Drain, Tick, Block, Pull}
use Rattle.bq_parts.specs.declared.reply.Reply.{Reply}
use Rattle.bq_parts.specs.declared.reply.Reply.TheVariants.{Admitted, Placed, Drained, Ticked, Blocked as Went, Pulled}
use Rattle.bq_schedule.specs.declared.change.Change.{Change}
use Rattle.bq_schedule.specs.declared.change.Decision.{Decision}
use Rattle.bq_schedule.specs.declared.change.PulledTask.{PulledTask}
use Rattle.bq_schedule.specs.declared.change.StopReason.TheVariants.{Preempted, Blocked}
use Rattle.bq_schedule.specs.declared.figures.ProcessorFigures.{ProcessorFigures}
use Rattle.bq_schedule.specs.declared.figures.HookFigures.{HookFigures}
use Rattle.bq_disc.specs.Counts.{saturating_sum}
use Rattle.bq_schedule.specs.Histories.{History}
use Rattle.bq_schedule.specs.Figures.{Figures, opening_figures, processor_in_figures, task_in_figures, figures_with_processor, figures_with_task}
use Rattle.bq_schedule.specs.Passing.{reading_at, slice_at, ended_run, figures_read}
use Rattle.bq_schedule.specs.Runnable.{figures_left, comes}
use Rattle.bq_schedule.specs.Running.{figures_switched, stop_at, start_at}

-- nothing is reported
abbrev pub nothing : Change
nothing = record { reading = None; slice = None; run = None; decision = None; wake = None; pull = None; stop = None; start = None }

-- whether a policy decided
abbrev pub is_by_policy : By → Bool
is_by_policy who.Policy = true
is_by_policy who.Discipline = false

-- whether a policy was asked: it took steps, or it decided
abbrev pub was_asked : Decision → Bool
was_asked d = is_by_policy d.by || nat_lt 0 d.steps

-- a policy was asked, and the discipline decided nonetheless
abbrev pub was_overruled : Decision → Bool
was_overruled d = not (is_by_policy d.by) && nat_lt 0 d.steps

-- a hook's figures after a decision
abbrev pub hook_counted : HookFigures → Decision → HookFigures
hook_counted h d = record {
  asked = saturating_sum h.asked (if was_asked d then 1 else 0);
  overruled = saturating_sum h.overruled (if was_overruled d then 1 else 0);
  steps = saturating_sum h.steps d.steps;
}

-- a processor's figures after a decision of one of its hooks
abbrev pub processor_counted : ProcessorFigures → Decision → Hook → ProcessorFigures
processor_counted p d Place = record p { place = hook_counted p.place d }
processor_counted p d Preempt = record p { preempt = hook_counted p.preempt d }
processor_counted p d OnPull = record p { pull = hook_counted p.pull d }

-- the figures after a decision of a processor's hook
abbrev pub figures_counted : ℕ → Decision → Figures → Figures
figures_counted processor d s = figures_with_processor s processor (processor_counted (processor_in_figures s processor) d d.hook)

-- the weight of a nice value; 0 if the value is outside the table
abbrev pub weight_or_zero : ℤ → ℕ
weight_or_zero nice = if is_nice nice then weight_of nice else 0

-- an id is admitted, with its nice value
abbrev pub figures_admitted : ℕ → ℤ → Figures → Figures
figures_admitted id nice s = figures_with_task s id (record (task_in_figures s id) { is_admitted = true; nice = nice; weight = weight_or_zero nice })

-- the wake of a placed task ended now
abbrev pub figures_woken : ℕ → ℕ → ℕ → Figures → Figures
figures_woken id processor now s =
    let t = task_in_figures s id in
    figures_with_task s id (record t { wakes = saturating_sum t.wakes 1; woken_at = Some now; drains_when_placed = Some (processor_in_figures s processor).drains })

-- the figures after a task's wait was counted where it was
abbrev pub waited_there : ℕ → ℕ → Figures → Figures
waited_there id now s =
    let t = task_in_figures s id in
    figures_with_task s id (record t { waited = saturating_sum t.waited (now - t.waiting_since) })

-- the figures after a processor drained its inbox
abbrev pub emptied : ℕ → Figures → Figures
emptied processor s = let p = processor_in_figures s processor in figures_with_processor s processor (record p { drains = saturating_sum p.drains 1 })

-- the figures after a task was pulled, if one was
abbrev pub figures_taken : ℕ → ℕ → Option ℕ → Figures → Figures
figures_taken processor now None s = s
figures_taken processor now (Some id) s = comes id processor now (waited_there id now s)

-- what is reported of a task that is pulled
abbrev pub pulled_report : ℕ → ℕ → ℕ → ℕ → Figures → PulledTask
pulled_report from to at id s = record { task = id; from = from; to = to; at = at; waited = at - (task_in_figures s id).waiting_since }

-- what is reported of the task that is pulled, if one is
abbrev pub moves_as : ℕ → ℕ → ℕ → Option ℕ → Figures → Option PulledTask
moves_as from to at task s = option_map (λ (id : ℕ). pulled_report from to at id s) task

-- the reading of the clock, as it counts
abbrev pub time_at : ℕ → ℕ → Figures → ℕ
time_at processor now s = reading (processor_in_figures s processor).last now

-- what is reported of only a reading
abbrev pub report_of_reading : ℕ → ℕ → Figures → Change
report_of_reading processor now s =
    let p = processor_in_figures s processor in
    record nothing { reading = Some (reading_at processor p now); slice = slice_at processor p now; run = ended_run p.run (slice_at processor p now) }

-- the figures after a wake ended and its task was placed
abbrev pub placed : ℕ → ℕ → Decision → ℕ → ℕ → Figures → Figures
placed processor now d id to s =
    let at = time_at processor now s in
    figures_woken id to at (comes id to at (figures_counted processor d (figures_read processor now s)))

-- what is reported of a wake that ended
abbrev pub report_of_placement : ℕ → ℕ → Decision → ℕ → ℕ → Figures → Change
report_of_placement processor now d id to s =
    record (report_of_reading processor now s) { decision = Some d; wake = Some (record { task = id; from = processor; to = to; at = time_at processor now s }) }

-- the figures after the hook `preempt` decided, and this task runs
abbrev pub figures_decided : ℕ → ℕ → Decision → Option ℕ → Figures → Figures
figures_decided processor now d run s = figures_switched Preempted processor (time_at processor now s) run (figures_counted processor d (figures_read processor now s))

-- what is reported of a decision of the hook `preempt`
abbrev pub report_of_decision : ℕ → ℕ → Decision → Option ℕ → Figures → Change
report_of_decision processor now d run s =
    let s' = figures_counted processor d (figures_read processor now s) in
    let at = time_at processor now s in
    record (report_of_reading processor now s) { decision = Some d; stop = stop_at Preempted processor at run s'; start = start_at Preempted processor at run s' }

-- the figures after the running task went to sleep, and this one runs
abbrev pub blocked : ℕ → ℕ → ℕ → Option ℕ → Figures → Figures
blocked processor now id run s = figures_switched Blocked processor (time_at processor now s) run (figures_left id (figures_read processor now s))

-- what is reported of a task that went to sleep
abbrev pub report_of_block : ℕ → ℕ → ℕ → Option ℕ → Figures → Change
report_of_block processor now id run s =
    let s' = figures_left id (figures_read processor now s) in
    let at = time_at processor now s in
    record (report_of_reading processor now s) { stop = stop_at Blocked processor at run s'; start = start_at Blocked processor at run s' }

-- the figures after a task was pulled, if one was, and this one runs
abbrev pub figures_pulled : ℕ → ℕ → Decision → Option ℕ → Option ℕ → Figures → Figures
figures_pulled processor now d task run s =
    let at = time_at processor now s in
    figures_switched Preempted processor at run (figures_taken processor at task (figures_counted processor d (figures_read processor now s)))

-- what is reported of a pull
abbrev pub report_of_pull : ℕ → ℕ → ℕ → Decision → Option ℕ → Option ℕ → Figures → Change
report_of_pull processor from now d task run s =
    let at = time_at processor now s in
    let s1 = figures_counted processor d (figures_read processor now s) in
    let s2 = figures_taken processor at task s1 in
    record (report_of_reading processor now s) {
      decision = Some d;
      pull = moves_as from processor at task s1;
      stop = stop_at Preempted processor at run s2;
      start = start_at Preempted processor at run s2;
    }

-- What an answer changes in the figures. An answer that is not of its event's kind changes nothing
abbrev pub performed : Figures → Event → Reply → Figures
performed s (Admit id nice mask slice) Admitted = figures_admitted id nice (figures_left id s)
performed s (EndWake processor now) (Placed task to by steps) = placed processor now (record { hook = Place; by = by; steps = steps }) task to s
performed s (Drain processor now) (Drained count run by steps) = emptied processor (figures_decided processor now (record { hook = Preempt; by = by; steps = steps }) run s)
performed s (Tick processor now) (Ticked run by steps) = figures_decided processor now (record { hook = Preempt; by = by; steps = steps }) run s
performed s (Block processor now) (Went task run) = blocked processor now task run s
performed s (Pull processor from now) (Pulled task run by steps) = figures_pulled processor now (record { hook = OnPull; by = by; steps = steps }) task run s
performed s e r = s

-- what is reported of an answer
abbrev pub report_of_answer : Figures → Event → Reply → Change
report_of_answer s (EndWake processor now) (Placed task to by steps) = report_of_placement processor now (record { hook = Place; by = by; steps = steps }) task to s
report_of_answer s (Drain processor now) (Drained count run by steps) = report_of_decision processor now (record { hook = Preempt; by = by; steps = steps }) run s
report_of_answer s (Tick processor now) (Ticked run by steps) = report_of_decision processor now (record { hook = Preempt; by = by; steps = steps }) run s
report_of_answer s (Block processor now) (Went task run) = report_of_block processor now task run s
report_of_answer s (Pull processor from now) (Pulled task run by steps) = report_of_pull processor from now (record { hook = OnPull; by = by; steps = steps }) task run s
report_of_answer s e r = nothing

-- the processor exists whose clock the event reads; true if the event reads no clock
abbrev pub is_there : Figures → Event → Bool
is_there s (EndWake processor now) = nat_lt processor (length s.processors)
is_there s (Drain processor now) = nat_lt processor (length s.processors)
is_there s (Tick processor now) = nat_lt processor (length s.processors)
is_there s (Block processor now) = nat_lt processor (length s.processors)
is_there s (Pull processor from now) = nat_lt processor (length s.processors)
is_there s e = true

-- the figures after an event and its answer. A refused event is counted, and changes nothing else
abbrev pub figures_after : Figures → Event → Result Reply Refusal → Figures
figures_after s e (Ok r) = if is_there s e then performed s e r else s
figures_after s e (Err r) = record s { refused = saturating_sum s.refused 1 }

-- what is reported of an event and its answer
abbrev pub change : Figures → Event → Result Reply Refusal → Change
change s e (Ok r) = if is_there s e then report_of_answer s e r else nothing
change s e (Err r) = nothing

-- the figures that a history leaves
abbrev pub figures : ℕ → History → Figures
figures count [] = opening_figures count
figures count (m ∷ past) = figures_after (figures count past) m.event m.answer
