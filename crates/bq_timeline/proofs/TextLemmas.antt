-- What a screen's text gets of one event after another, wherever the text begins.
use Rattle.std.proofs.Common.{◌≡◌, ℕ, List, [], ◌∷◌, ◌++◌, Option, Some, None, Result, Ok, Err, ap, append_assoc, append-nil, refl, sym, ◌∙◌, subst, inl, inr}
use Rattle.bq_parts.specs.declared.event.Event.{Event}
use Rattle.bq_parts.specs.declared.refusal.Refusal.{Refusal}
use Rattle.bq_parts.specs.declared.reply.Reply.{Reply}
use Rattle.bq_schedule.specs.declared.change.Change.{Change}
use Rattle.bq_schedule.specs.Figures.{Figures}
use Rattle.bq_schedule.specs.Steps.{change, figures_after}
use Rattle.bq_report.specs.Names.{NamedTasks}
use Rattle.bq_report.specs.Reports.{GrowsByPart}
use Rattle.bq_words.specs.declared.discipline_name.DisciplineName.{DisciplineName}
use Rattle.bq_trace.specs.TraceEvents.{TraceEvent, Reported, Opened, Skipped, Comes, Answered, NotHex, NotLoaded, ProcessorAsked, CounterRead, Bad}
use Rattle.bq_timeline.specs.FormTexts.{FormAnswers, FormEnds, FormOpens, FormAddsChange}
use Rattle.bq_timeline.specs.ScreenTexts.{BeginsText, FormEndsIf, IfShown, ScreenAnswers, ScreenBegins, ScreenEnds, ScreenState, StandsBehind}
use Rattle.bq_timeline.specs.TraceTexts.{AnswerShows, ScreenTakes, ScreenTakesAll, TextCloses, TextEnds}
use Rattle.bq_timeline.specs.Watching.{schedule_after, schedule_after_event}
use Rattle.bq_timeline.specs.declared.bounds_table.BoundsTable.{BoundsTable}
use Rattle.bq_timeline.specs.declared.settings.Settings.{Settings}
use Rattle.bq_timeline.specs.declared.any_form.AnyForm.{AnyForm}
use Rattle.bq_timeline.specs.declared.any_form.AnyForm.TheVariants as form

-- a text that has grown by a part has done so behind another text
grows_behind : (Is : List ℕ → Type 0) (p before after : List ℕ) → GrowsByPart Is before after → GrowsByPart Is (p ++ before) (p ++ after)
grows_behind Is p before after h = (h.0, h.1, ap (λ t. p ++ t) h.2 ∙ sym (append_assoc p before h.0))

-- a form begins behind another text as it does without it
opens_behind : (p : List ℕ) (discipline : DisciplineName) (s : Figures) (old new : AnyForm) (before after : List ℕ)
    → FormOpens discipline s old new before after → FormOpens discipline s old new (p ++ before) (p ++ after)
opens_behind p discipline s (form.Report old) (form.Report new) before after h = (h.0, ap (λ t. p ++ t) h.1)
opens_behind p discipline s (form.Map old) (form.Map new) before after h = (h.0, h.1, ap (λ t. p ++ t) h.2)
opens_behind p discipline s (form.Timehist old) (form.Timehist new) before after h = (h.0, ap (λ t. p ++ t) h.1 ∙ sym (append_assoc p before _))
opens_behind p discipline s (form.Csv old) (form.Csv new) before after h = (h.0, ap (λ t. p ++ t) h.1 ∙ sym (append_assoc p before _))
opens_behind p discipline s (form.Json old) (form.Json new) before after h = (h.0, ap (λ t. p ++ t) h.1)
opens_behind p discipline s (form.Svg old) (form.Svg new) before after h = (h.0, ap (λ t. p ++ t) h.1)
opens_behind p discipline s (form.Perfetto old) (form.Perfetto new) before after h = (h.0, grows_behind _ p before after h.1)
opens_behind p discipline s (form.Why old) (form.Why new) before after h = tt
opens_behind p discipline s old new before after h = absurd h

-- a change is added to a form behind another text as without it
adds_behind : (p : List ℕ) (change : Change) (s : Figures) (names : NamedTasks) (old new : AnyForm) (before after : List ℕ)
    → FormAddsChange change s names old new before after → FormAddsChange change s names old new (p ++ before) (p ++ after)
adds_behind p change s names (form.Report old) (form.Report new) before after h = (h.0, h.1, h.2, ap (λ t. p ++ t) h.3)
adds_behind p change s names (form.Map old) (form.Map new) before after h = (h.0, h.1, ap (λ t. p ++ t) h.2)
adds_behind p change s names (form.Timehist old) (form.Timehist new) before after h =
    let lines = h.1 in
    (h.0, (lines.0, lines.1, lines.2, lines.3, lines.4, lines.5, ap (λ t. p ++ t) lines.6 ∙ sym (append_assoc p before _)))
adds_behind p change s names (form.Csv old) (form.Csv new) before after h =
    let row = h.1 in (h.0, (row.0, row.1, ap (λ t. p ++ t) row.2 ∙ sym (append_assoc p before _)))
adds_behind p change s names (form.Json old) (form.Json new) before after h = (h.0, h.1, h.2, ap (λ t. p ++ t) h.3)
adds_behind p change s names (form.Svg old) (form.Svg new) before after h = (h.0, h.1, ap (λ t. p ++ t) h.2)
adds_behind p change s names (form.Perfetto old) (form.Perfetto new) before after h = (h.0, grows_behind _ p before after h.1)
adds_behind p change s names (form.Why old) (form.Why new) before after h = tt
adds_behind p change s names old new before after h = absurd h

-- the form begins behind another text as it does without it
begins_behind : (p : List ℕ) (s : Option Figures) (discipline : Option DisciplineName) (asked : Option Settings) (old new : ScreenState) (before after : List ℕ)
    → BeginsText s discipline asked old new before after → BeginsText s discipline asked old new (p ++ before) (p ++ after)
begins_behind p (Some s) (Some discipline) (Some asked) old new before after h =
    let made = h.0 in (
      record {
        fresh = made.fresh;
        is_asked = made.is_asked;
        is_empty = made.is_empty;
        form = made.form;
        opens = opens_behind p discipline s made.fresh made.form before after made.opens;
        shown = made.shown;
        table = made.table;
        rest = made.rest;
      },
      h.1,
    )
begins_behind p s discipline asked old new before after h = (h.0, ap (λ t. p ++ t) h.1)

-- a form that there may be takes an event behind another text as it does without it
shows_behind : (p : List ℕ) (event : Event) (change : Change) (s : Figures) (names : NamedTasks) (old new : Option AnyForm) (before after : List ℕ)
    → IfShown (FormAnswers event change s names) old new before after → IfShown (FormAnswers event change s names) old new (p ++ before) (p ++ after)
shows_behind p event change s names None new before after h = (h.0, ap (λ t. p ++ t) h.1)
shows_behind p event change s names (Some old) (Some new) before after h =
    record { given = h.given; admits = h.admits; adds = adds_behind p change s names h.given new before after h.adds }
shows_behind p event change s names (Some old) None before after h = absurd h

-- an answer is shown behind another text as it is without it
answers_behind : (p : List ℕ) (event : Event) (answer : Result Reply Refusal) (change : Change) (s : Figures) (old new : ScreenState) (before after : List ℕ)
    → ScreenAnswers event answer change s old new before after → ScreenAnswers event answer change s old new (p ++ before) (p ++ after)
answers_behind p event (Ok reply) change s old new before after h =
    record {
      form = shows_behind p event change s old.names old.shown new.shown before after h.form;
      table = h.table;
      rest = h.rest;
    }
answers_behind p event (Err refusal) change s old new before after h = (h.0, ap (λ t. p ++ t) h.1)

-- an answer is shown behind another text as it is without it, if there is a machine
answer_behind : (p : List ℕ) (s : Option Figures) (event : Event) (answer : Result Reply Refusal) (old new : ScreenState) (before after : List ℕ)
    → AnswerShows s event answer old new before after → AnswerShows s event answer old new (p ++ before) (p ++ after)
answer_behind p None event answer old new before after h = (h.0, ap (λ t. p ++ t) h.1)
answer_behind p (Some s) event answer old new before after h =
    answers_behind p event answer (change s event answer) (figures_after s event answer) old new before after h

-- a trace event is shown behind another text as it is without it
event_behind : (p : List ℕ) (s : Option Figures) (traced : TraceEvent) (old new : ScreenState) (before after : List ℕ)
    → ScreenTakes s traced old new before after → ScreenTakes s traced old new (p ++ before) (p ++ after)
event_behind p s (Opened discipline size) old new before after h = (h.0, ap (λ t. p ++ t) h.1)
event_behind p s (Skipped line) old new before after h = (h.0, h.1, ap (λ t. p ++ t) h.2)
event_behind p s (Comes event machine) old new before after h = (h.0, begins_behind p s old.discipline old.asked old h.0 before after h.1, h.2)
event_behind p s (Answered event answer machine) old new before after h = answer_behind p s event answer old new before after h
event_behind p s (CounterRead counter value) old new before after h = (h.0, ap (λ t. p ++ t) h.1)
event_behind p s NotHex old new before after h = begins_behind p s old.discipline old.asked old new before after h
event_behind p s (NotLoaded why) old new before after h = begins_behind p s old.discipline old.asked old new before after h
event_behind p s (ProcessorAsked processor machine) old new before after h = begins_behind p s old.discipline old.asked old new before after h
event_behind p s (Bad line) old new before after h = begins_behind p s old.discipline old.asked old new before after h

-- trace events are shown behind another text as they are without it
pub all_behind : (p : List ℕ) (s : Option Figures) (old : ScreenState) (reported : Reported) (new : ScreenState) (before after : List ℕ)
    → ScreenTakesAll s old reported new before after → ScreenTakesAll s old reported new (p ++ before) (p ++ after)
all_behind p s old [] new before after h = (h.0, ap (λ t. p ++ t) h.1)
all_behind p s old ((n, traced) ∷ more) new before after h = (
  h.0,
  p ++ h.1,
  event_behind p s traced old h.0 before h.1 h.2,
  all_behind p (schedule_after_event s traced) h.0 more new h.1 after h.3,
)

-- trace events, and more behind them
pub all_append : (s : Option Figures) (old mid new : ScreenState) (xs ys : Reported) (before text after : List ℕ)
    → ScreenTakesAll s old xs mid before text → ScreenTakesAll (schedule_after s xs) mid ys new text after
    → ScreenTakesAll s old (xs ++ ys) new before after
all_append s old mid new [] ys before text after h k =
    subst (λ (m : ScreenState). ScreenTakesAll s m ys new before after) h.0
    (subst (λ (t : List ℕ). ScreenTakesAll s mid ys new t after) h.1 k)
all_append s old mid new ((n, traced) ∷ xs) ys before text after h k =
    (h.0, h.1, h.2, all_append (schedule_after_event s traced) h.0 mid new xs ys h.1 text after h.3 k)

-- a form ends behind another text as it does without it
ends_behind : (p : List ℕ) (s : Figures) (names : NamedTasks) (shown : AnyForm) (before after : List ℕ)
    → FormEnds s names shown before after → FormEnds s names shown (p ++ before) (p ++ after)
ends_behind p s names (form.Report old) before after h = grows_behind _ p before after h
ends_behind p s names (form.Map old) before after h = (h.0, h.1, grows_behind _ p before after h.2)
ends_behind p s names (form.Timehist old) before after h = grows_behind _ p before after h
ends_behind p s names (form.Csv old) before after h = ap (λ t. p ++ t) h
ends_behind p s names (form.Json old) before after h = grows_behind _ p before after h
ends_behind p s names (form.Svg old) before after h = grows_behind _ p before after h
ends_behind p s names (form.Perfetto old) before after h = grows_behind _ p before after h
ends_behind p s names (form.Why old) before after h = tt

-- a form that there may be ends behind another text as it does without it
ends_if_behind : (p : List ℕ) (s : Figures) (names : NamedTasks) (shown : Option AnyForm) (before after : List ℕ)
    → FormEndsIf s names shown before after → FormEndsIf s names shown (p ++ before) (p ++ after)
ends_if_behind p s names None before after h = ap (λ t. p ++ t) h
ends_if_behind p s names (Some shown) before after h = ends_behind p s names shown before after h

-- a table that there may be stands behind two texts as it does behind the second
stands_behind : (p : List ℕ) (bounds : Option BoundsTable) (before after : List ℕ)
    → StandsBehind bounds before after → StandsBehind bounds (p ++ before) (p ++ after)
stands_behind p None before after h = ap (λ t. p ++ t) h
stands_behind p (Some table) before after h = (h.0, ap (λ t. p ++ t) h.1 ∙ sym (append_assoc p before _))

-- the end of a trace is shown behind another text as it is without it, if there is a machine
text_ends_behind : (p : List ℕ) (s : Option Figures) (old : ScreenState) (before after : List ℕ)
    → TextEnds s old before after → TextEnds s old (p ++ before) (p ++ after)
text_ends_behind p None old before after h = ap (λ t. p ++ t) h
text_ends_behind p (Some s) old before after h = record {
  formed = p ++ h.formed;
  ends = ends_if_behind p s old.names old.shown before h.formed h.ends;
  bounds = stands_behind p old.bounds h.formed after h.bounds;
}

-- the end of a trace is shown behind another text as it is without it
pub closes_behind : (p : List ℕ) (s : Option Figures) (old : ScreenState) (before after : List ℕ)
    → TextCloses s old before after → TextCloses s old (p ++ before) (p ++ after)
closes_behind p s old before after h = record {
  begun = h.begun;
  opened = p ++ h.opened;
  begins = begins_behind p s old.discipline old.asked old h.begun before h.opened h.begins;
  ends = text_ends_behind p s h.begun h.opened after h.ends;
}
