-- The form is given its task, and then the change.
use Rattle.std.proofs.lemmas.Result.{on_ok_weaker}
use Rattle.bq_timeline.proofs.AnyFormLemmas.{admits_task, admits_none}
use Rattle.bq_timeline.proofs.any_form.AnyForm.after_event.Goals as goal
use Rattle.bq_timeline.proofs.any_form.AnyForm.after_event.Goals.{in-Admit+in_ok-admit, in_default}

pub returns : goal.returns
returns c =
    let given = c.match-done.self in
    elim c.match-done.branch [
      | in-Admit+in_ok-admit w ↦ on_ok_weaker c.add_change.result
          (λ adds. record {
            given = given;
            admits = rw w.self-is (admits_task _ _ _ _ _ _ _ w.in-Admit.is w.in_ok-admit.ensures);
            adds = adds;
          })
          c.add_change.ensures
      | in_default w ↦ on_ok_weaker c.add_change.result
          (λ adds. record { given = given; admits = rw w.self-is (admits_none _ _ w.in_default.not-Admit); adds = adds })
          c.add_change.ensures
    ]
