-- A trace for Perfetto begins with its head, and with nothing in its history.
use Rattle.std.proofs.ResultArms.{if_ok_both}
use Rattle.bq_timeline.proofs.any_form.AnyForm.begin.Goals as goal

pub returns-in-Perfetto-clause-opens : goal.returns-in-Perfetto-clause-opens
returns-in-Perfetto-clause-opens c =
    rw c.in-Perfetto.is
    (if_ok_both c.begin-in-Perfetto.result _ _ c.begin-in-Perfetto.ensures.history c.begin-in-Perfetto.ensures.head)
