-- A form that is asked for, once it has begun.
use Rattle.std.specs.Bool.{if◌then◌else◌}
use Rattle.std.specs.Result.{is_ok}
use Rattle.std.specs.Prelude.{ℤ}
use Rattle.std.proofs.Common.{◌≡◌, ◌∙◌, ◌∷◌, ◌++◌, ℕ, List, [], Err, Ok, OnOk, Result, refl}
use Rattle.bq_parts.specs.declared.event.Event.{Event}
use Rattle.bq_parts.specs.declared.event.Event.TheVariants.{Admit}
use Rattle.bq_report.specs.Names.{NamedTasks}
use Rattle.bq_timeline.specs.FormTexts.{FormAdmits, FormAdmitsTaskOf}
use Rattle.bq_timeline.specs.ScreenTexts.{bounds_head, under_bounds_head}
use Rattle.bq_timeline.specs.AnyForms.{IsAskedFor, StaysShown}
use Rattle.bq_timeline.specs.declared.settings.Settings.{Settings}
use Rattle.bq_timeline.specs.declared.any_form.AnyForm.{AnyForm}

-- a form that begins is still the one that is asked for
pub stays_asked : (s : Settings) (named : NamedTasks) (old new : AnyForm)
    → IsAskedFor s named old → StaysShown old new → IsAskedFor s named new
stays_asked s named old new asked stays = (
  asked.0,
  asked.1,
  record {
    form_is = stays.form_is ∙ asked.2.form_is;
    window_is = stays.window_is ∙ asked.2.window_is;
  },
)

-- lines that are there stand under the head of the table of bounds
pub under_head : (lines : List ℕ) → (lines ≡ [] → ⊥) → under_bounds_head lines ≡ bounds_head ++ lines
under_head [] there = absurd (there refl)
under_head (byte ∷ lines) there = refl

-- what holds if a result is a success holds on success
pub if_ok : {T E : Type 0} (r : Result T E) (now here there : List ℕ) → now ≡ (if is_ok r then here else there) → OnOk r (now ≡ here)
if_ok (Ok x) now here there e = e
if_ok (Err e) now here there h = tt

-- the form is given the task of an event that admits it
pub admits_task : (event : Event) (task : ℕ) (nice : ℤ) (mask slice : ℕ) (old new : AnyForm)
    → event ≡ Admit task nice mask slice → FormAdmits task old new → FormAdmitsTaskOf event old new
admits_task event task nice mask slice old new is h = rw is h

-- the form is given no task of another event
pub admits_none : (event : Event) (old : AnyForm) → ((task : ℕ) (nice : ℤ) (mask slice : ℕ) → event ≡ Admit task nice mask slice → ⊥)
    → FormAdmitsTaskOf event old old
admits_none (Admit task nice mask slice) old other = absurd (other task nice mask slice refl)
admits_none event old other = refl
