use Rattle.bq_verify.specs.Refusals.{stopped_at}
use Rattle.bq_verify.specs.Subjects.{subject_of_view}
use Rattle.bq_verify.proofs.refused.refuse.Goals as goal

pub returns-in-Unproven-clause-stopped : goal.returns-in-Unproven-clause-stopped
returns-in-Unproven-clause-stopped c = λ insn here may.
    stopped_at (subject_of_view c.args.subject.now) c.args.slot c.in-Unproven.obligation
    (record { insn = insn; here = here; may = rw c.in-Unproven.is at may })
