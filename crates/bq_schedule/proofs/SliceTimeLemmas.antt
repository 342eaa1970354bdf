-- The slice that is reported of each answered event is the one that it ends, by who runs in its history; with it stands the run that ends.
use Rattle.std.proofs.Common.{◌≡◌, ℕ, Bool, true, false, ◌∷◌, ◌++◌, length, Option, Some, None, Result, Ok, Err, refl, sym, ap, ◌∙◌, subst, cond}
use Rattle.std.specs.Prelude.{option_to_list}
use Rattle.std.specs.Option.{option_map}
use Rattle.bq_disc.specs.OneProcessor.{reading}
use Rattle.bq_parts.specs.declared.event.Event.{Event}
use Rattle.bq_parts.specs.declared.event.Event.TheVariants.{EndWake, Drain, Tick, Block, Pull}
use Rattle.bq_parts.specs.declared.reply.Reply.{Reply}
use Rattle.bq_parts.specs.declared.reply.Reply.TheVariants.{Placed, Drained, Ticked, Blocked, Pulled}
use Rattle.bq_parts.specs.declared.refusal.Refusal.{Refusal}
use Rattle.bq_schedule.specs.declared.slice.Slice.{Slice}
use Rattle.bq_schedule.specs.declared.change.Change.{Change}
use Rattle.bq_schedule.specs.declared.change.Start.{Start}
use Rattle.bq_schedule.specs.Histories.{AnsweredEvent, History}
use Rattle.bq_schedule.specs.Figures.{Figures, processor_in_figures}
use Rattle.bq_schedule.specs.Passing.{slice_between, slice_at, ended_run}
use Rattle.bq_schedule.specs.Running.{running_task}
use Rattle.bq_schedule.specs.Slices.{ShownByAnswer, shown_by_reply, shown_by_answer, clock, slice_of, slice_shown, slices}
use Rattle.bq_schedule.specs.Steps.{report_of_answer, change, nothing, is_there, figures}
use Rattle.bq_schedule.specs.Laws.{IsShownWithin, IsOfProcessors}
use Rattle.bq_schedule.proofs.ClockLemmas.{figures-clocks, within-figures, shown_by_reply-none}

-- the slice that figures show
abbrev pub slice_seen : Figures → Option ShownByAnswer → Option Slice
slice_seen s None = None
slice_seen s (Some x) = slice_at x.processor (processor_in_figures s x.processor) x.now

-- the run that ends with an answer, as figures show it
abbrev pub run_seen : Figures → Option ShownByAnswer → Option Slice
run_seen s None = None
run_seen s (Some x) = ended_run (processor_in_figures s x.processor).run (slice_at x.processor (processor_in_figures s x.processor) x.now)

-- a report has the slice and the run that figures show of an answer
pub record ReportsSeen (s : Figures) (o : Option ShownByAnswer) (c : Change) : Type 0 where
  pub slice : c.slice ≡ slice_seen s o
  pub run : c.run ≡ run_seen s o

-- what is reported of a reply has the slice and the run that figures show of it, by cases:
seen-performed : (s : Figures) (e : Event) (r : Reply) → ReportsSeen s (shown_by_reply e r) (report_of_answer s e r)
seen-performed s (EndWake processor now) (Placed task to by steps) = record { slice = refl; run = refl }
seen-performed s (Drain processor now) (Drained count run by steps) = record { slice = refl; run = refl }
seen-performed s (Tick processor now) (Ticked run by steps) = record { slice = refl; run = refl }
seen-performed s (Block processor now) (Blocked task run) = record { slice = refl; run = refl }
seen-performed s (Pull processor from now) (Pulled task run by steps) = record { slice = refl; run = refl }
seen-performed s e r = record { slice = refl; run = refl }

seen-nothing : (s : Figures) (e : Event) (r : Reply) → is_there s e ≡ false → IsShownWithin (length s.processors) (shown_by_reply e r)
    → ReportsSeen s (shown_by_reply e r) nothing
seen-nothing s e r none h = subst (λ o. ReportsSeen s o nothing) (sym (shown_by_reply-none s e r none h)) (record { slice = refl; run = refl })

seen-if : (b : Bool) (s : Figures) (e : Event) (r : Reply) → is_there s e ≡ b → IsShownWithin (length s.processors) (shown_by_reply e r)
    → ReportsSeen s (shown_by_reply e r) (cond b (report_of_answer s e r) nothing)
seen-if true s e r there h = seen-performed s e r
seen-if false s e r there h = seen-nothing s e r there h

-- what is reported of an answered event has the slice and the run that figures show of its answer
pub seen-change : (s : Figures) (e : Event) (a : Result Reply Refusal)
    → IsShownWithin (length s.processors) (shown_by_answer e a) → ReportsSeen s (shown_by_answer e a) (change s e a)
seen-change s e (Ok r) h = seen-if (is_there s e) s e r refl h
seen-change s e (Err r) h = record { slice = refl; run = refl }

-- a slice by who runs
slice_of-is : (processor from to : ℕ) (running : Option Start)
    → slice_between processor from to running ≡ slice_of processor (option_map (λ (x : Start). x.task) running) from to
slice_of-is processor from to None = refl
slice_of-is processor from to (Some start) = refl

-- the slice that figures show of an answer is the one that their history shows
pub shown-seen : (count : ℕ) (past : History) (o : Option ShownByAnswer)
    → IsOfProcessors count past → IsShownWithin count o → slice_seen (figures count past) o ≡ slice_shown past o
shown-seen count past None h w = refl
shown-seen count past (Some x) h w =
    let c = figures-clocks count past x.processor h w in
    let p = processor_in_figures (figures count past) x.processor in
    slice_of-is x.processor p.last (reading p.last x.now) p.running
    ∙ ap (λ n. slice_of x.processor (running_task p) n (reading n x.now)) c.0
    ∙ ap (λ y. slice_of x.processor y (clock x.processor past) (reading (clock x.processor past) x.now)) c.1

-- the slice that is reported of an answered event is the one that it ends
pub slice-reported : (count : ℕ) (past : History) (m : AnsweredEvent)
    → IsOfProcessors count (m ∷ past)
    → (change (figures count past) m.event m.answer).slice ≡ slice_shown past (shown_by_answer m.event m.answer)
slice-reported count past m h =
    (seen-change (figures count past) m.event m.answer (within-figures count past m h)).slice
    ∙ shown-seen count past (shown_by_answer m.event m.answer) h.1 h.0

-- the slices up to an answered event are those before it, and then the one that is reported of it
pub slices-reported : (count : ℕ) (past : History) (m : AnsweredEvent)
    → IsOfProcessors count (m ∷ past)
    → slices (m ∷ past) ≡ slices past ++ option_to_list (change (figures count past) m.event m.answer).slice
slices-reported count past m h = ap (λ o. slices past ++ option_to_list o) (sym (slice-reported count past m h))
