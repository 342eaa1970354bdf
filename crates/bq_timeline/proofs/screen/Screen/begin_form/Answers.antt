-- The form begins as it was made, of the tasks and with the notes that the names bring. What it adds stands behind the text.
use Rattle.std.proofs.Common.{◌++◌, ℕ, List, String, Global, ap, refl, string_bytes, subst, ◌∙◌}
use Rattle.bq_timeline.specs.TasksByName.{unknown_name_notes}
use Rattle.bq_timeline.specs.FormTexts.{FormOpens}
use Rattle.bq_timeline.specs.declared.screen.Screen.{Screen}
use Rattle.bq_timeline.proofs.AnyFormLemmas.{stays_asked}
use Rattle.bq_timeline.proofs.screen.Screen.begin_form.Goals as goal

pub returns-clause-form : goal.returns-clause-form
returns-clause-form c =
    let old = c.args.self.now in
    let rest = c.begin_bounds.ensures.unchanged in
    let made = c.form_of.ensures.unchanged in
    record {
      shown = stays_asked c.args.settings old.names _ _ c.in_ok-shown.ensures.form c.begin.ensures.stays;
      tasks = ap (λ (s : Screen). s.tasks.items) rest ∙ c.in_ok-shown.ensures.tasks;
      part = ap (λ (s : Screen). s.part) rest ∙ ap (λ (s : Screen). s.part) made;
      notes =
          ap (λ (s : Screen). string_bytes s.notes) rest ∙ ap (λ (s : Screen). string_bytes s.notes) made
          ∙ c.in_ok-note_unknown_names.ensures
          ∙ ap (λ (names : List (String Global)). string_bytes old.notes ++ unknown_name_notes old.names names)
          c.as_slice-asked.ensures.value;
    }

pub returns-clause-text : goal.returns-clause-text
returns-clause-text c =
    let rest = c.begin_bounds.ensures.unchanged in
    let made = c.form_of.ensures.unchanged in
    let text = ap (λ (s : Screen). string_bytes s.text) rest ∙ ap (λ (s : Screen). string_bytes s.text) made in
    record {
      fresh = c.in_ok-shown.shown;
      is_asked = c.in_ok-shown.ensures.form;
      is_empty = c.in_ok-shown.ensures.empty;
      form = c.begin.new.self;
      opens =
          subst (λ (before : List ℕ). FormOpens c.args.discipline c.args.schedule.now c.in_ok-shown.shown c.begin.new.self before (string_bytes c.begin.new.text))
          text c.in_ok-begin.ensures.opens;
      shown = refl;
      table = c.in_ok-begin_bounds.ensures.table;
      rest = (
        ap (λ (s : Screen). s.names) rest ∙ ap (λ (s : Screen). s.names) made,
        ap (λ (s : Screen). s.discipline) rest ∙ ap (λ (s : Screen). s.discipline) made,
      );
    }
