-- The form appears, and the settings are no longer asked for.
use Rattle.std.proofs.Common.{◌∙◌, sym}
use Rattle.std.proofs.lemmas.Result.{on_ok_weaker}
use Rattle.bq_timeline.proofs.screen.Screen.begin.Goals as goal

pub returns-in-Some-take-clause-text : goal.returns-in-Some-take-clause-text
returns-in-Some-take-clause-text c =
    rw (c.in-Some.is, sym c.in-Some-take.ensures.value) (on_ok_weaker c.begin_form.result
    (λ made. (
      record {
        fresh = made.fresh;
        is_asked = made.is_asked;
        is_empty = made.is_empty;
        form = made.form;
        opens = made.opens;
        shown = made.shown;
        table = made.table;
        rest = (made.rest.0, made.rest.1 ∙ c.in-Some.is);
      },
      c.begin_form.ensures.asked ∙ c.in-Some-take.ensures.after,
    )) c.begin_form.ensures.text)
