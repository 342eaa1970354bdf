-- What a screen holds besides its text and its notes, and what each call adds to the text. Nothing is said of the text of `why`.
use Rattle.std.specs.Prelude.{◌≡◌, ◌⊎◌, ℕ, List, [], ◌∷◌, ◌++◌, Option, Some, None, IsSome, Result, Ok, Err, codes}
use Rattle.bq_parts.specs.declared.event.Event.{Event}
use Rattle.bq_parts.specs.declared.refusal.Refusal.{Refusal}
use Rattle.bq_parts.specs.declared.reply.Reply.{Reply}
use Rattle.bq_schedule.specs.declared.change.Change.{Change}
use Rattle.bq_schedule.specs.Figures.{Figures}
use Rattle.bq_report.specs.Names.{NamedTasks}
use Rattle.bq_words.specs.declared.discipline_name.DisciplineName.{DisciplineName}
use Rattle.bq_timeline.specs.FormTexts.{FormAnswers, FormEnds, FormOpens, IsEmptyForm}
use Rattle.bq_timeline.specs.AnyForms.{IsAskedFor}
use Rattle.bq_timeline.specs.declared.bounds_table.BoundsTable.{BoundsTable}
use Rattle.bq_timeline.specs.declared.screen.Screen.{Screen}
use Rattle.bq_timeline.specs.declared.settings.Settings.{Settings}
use Rattle.bq_timeline.specs.declared.any_form.AnyForm.{AnyForm}
use Rattle.bq_timeline.specs.declared.any_form.AnyForm.TheVariants as form

-- what a screen holds besides its text and its notes
pub record ScreenState : Type 0 where
  pub names : NamedTasks
  pub asked : Option Settings
  pub discipline : Option DisciplineName
  pub shown : Option AnyForm
  pub bounds : Option BoundsTable

-- what this screen holds besides its text and its notes
abbrev pub state_of : Screen → ScreenState
state_of screen = record { names = screen.names; asked = screen.asked; discipline = screen.discipline; shown = screen.shown; bounds = screen.bounds }

-- ---- the form begins

-- only the report has a table of bounds
abbrev pub HasTable : AnyForm → Option BoundsTable → Type 0
HasTable (form.Report report) bounds = IsSome bounds
HasTable other bounds = bounds ≡ None

-- The form that the settings ask for appears, and what it adds when it begins under a discipline stands behind the text.
pub record FormAppears (discipline : DisciplineName) (s : Figures) (asked : Settings) (old new : ScreenState) (before after : List ℕ) : Type 0 where
  pub fresh : AnyForm
  pub is_asked : IsAskedFor asked old.names fresh
  pub is_empty : IsEmptyForm asked.width asked.picture_options fresh
  pub form : AnyForm
  pub opens : FormOpens discipline s fresh form before after
  pub shown : new.shown ≡ Some form
  pub table : HasTable fresh new.bounds
  pub rest : (new.names ≡ old.names) × (new.discipline ≡ old.discipline)

-- the form begins if there is a schedule and a discipline, and its settings are still there
abbrev pub BeginsText : Option Figures → Option DisciplineName → Option Settings → ScreenState → ScreenState → List ℕ → List ℕ → Type 0
BeginsText (Some s) (Some discipline) (Some asked) old new before after = FormAppears discipline s asked old new before after × (new.asked ≡ None)
BeginsText s discipline asked old new before after = (new ≡ old) × (after ≡ before)

-- the form begins if it can; otherwise nothing changes
abbrev pub ScreenBegins : Option Figures → ScreenState → ScreenState → List ℕ → List ℕ → Type 0
ScreenBegins s old new before after = BeginsText s old.discipline old.asked old new before after

-- ---- an event

-- both forms are `why`
abbrev pub AreWhy : Option AnyForm → Option AnyForm → Type 0
AreWhy (Some (form.Why old)) (Some (form.Why new)) = Unit {0}
AreWhy old new = ⊥

-- the form stays as it is; of `why` nothing is said
abbrev pub FormRests : Option AnyForm → Option AnyForm → Type 0
FormRests old new = (new ≡ old) ⊎ AreWhy old new

-- a table of bounds is there if one was there before
abbrev pub KeepsTable : Option BoundsTable → Option BoundsTable → Type 0
KeepsTable None bounds = bounds ≡ None
KeepsTable (Some table) bounds = IsSome bounds

-- An event is about to be done. No form but `why` uses that, and the text stays as it is.
pub record ScreenComes (old new : ScreenState) : Type 0 where
  pub form : FormRests old.shown new.shown
  pub table : KeepsTable old.bounds new.bounds
  pub rest : new ≡ record old { shown = new.shown; bounds = new.bounds }

-- what a form does if there is one; without a form nothing changes
abbrev pub IfShown : (AnyForm → AnyForm → List ℕ → List ℕ → Type 0) → Option AnyForm → Option AnyForm → List ℕ → List ℕ → Type 0
IfShown Does None new before after = (new ≡ None) × (after ≡ before)
IfShown Does (Some old) (Some new) before after = Does old new before after
IfShown Does (Some old) None before after = ⊥

-- An event was done. What the form adds for it stands behind the text.
pub record ScreenShows (event : Event) (change : Change) (s : Figures) (old new : ScreenState) (before after : List ℕ) : Type 0 where
  pub form : IfShown (FormAnswers event change s old.names) old.shown new.shown before after
  pub table : KeepsTable old.bounds new.bounds
  pub rest : new ≡ record old { shown = new.shown; bounds = new.bounds }

-- An event was done or refused. The text stays as it is if the event was refused.
abbrev pub ScreenAnswers : Event → Result Reply Refusal → Change → Figures → ScreenState → ScreenState → List ℕ → List ℕ → Type 0
ScreenAnswers event (Ok reply) change s old new before after = ScreenShows event change s old new before after
ScreenAnswers event (Err refusal) change s old new before after = (new ≡ old) × (after ≡ before)

-- ---- the end

-- the form ends, if there is one
abbrev pub FormEndsIf : Figures → NamedTasks → Option AnyForm → List ℕ → List ℕ → Type 0
FormEndsIf s names None before after = after ≡ before
FormEndsIf s names (Some shown) before after = FormEnds s names shown before after

-- the head of the table of bounds, after an empty line
abbrev pub bounds_head : List ℕ
bounds_head = codes "\n  cpu law                 charges left out  greatest ms   at most ms   of it\n"

-- lines under the head of the table of bounds; no head if there are no lines
abbrev pub under_bounds_head : List ℕ → List ℕ
under_bounds_head [] = []
under_bounds_head (byte ∷ lines) = bounds_head ++ (byte ∷ lines)

-- if there is a table of bounds, it stands behind the text; nothing is said of its lines
abbrev pub StandsBehind : Option BoundsTable → List ℕ → List ℕ → Type 0
StandsBehind None before after = after ≡ before
StandsBehind (Some table) before after = (lines : List ℕ) × (after ≡ before ++ under_bounds_head lines)

-- The trace is over. What the form adds at its end stands behind the text, and the table of bounds behind that.
pub record ScreenEnds (s : Figures) (old : ScreenState) (before after : List ℕ) : Type 0 where
  pub formed : List ℕ
  pub ends : FormEndsIf s old.names old.shown before formed
  pub bounds : StandsBehind old.bounds formed after
