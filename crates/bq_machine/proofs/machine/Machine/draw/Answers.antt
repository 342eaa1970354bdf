use Rattle.bq_shared.proofs.CallStepLemmas.{draw_moves}
use Rattle.bq_machine.proofs.machine.Machine.draw.Goals as goal

pub commit-receipt-requires-clause-may : goal.commit-receipt-requires-clause-may
commit-receipt-requires-clause-may g c =
    rw (c.draft-draft.ensures, c.without_calls.ensures, c.saturating_add-generation.ensures, c.copy-kept.ensures, c.kept.ensures)
    (draw_moves g.Q.R.Discipline.discipline c.args.self.now.recorder.history.setup c.deref_mut-journal.result.now.1)

pub commit-receipt-requires-clause-reported : goal.commit-receipt-requires-clause-reported
commit-receipt-requires-clause-reported g c = rw (c.draft-draft.ensures, c.without_calls.ensures) c.requires.account
