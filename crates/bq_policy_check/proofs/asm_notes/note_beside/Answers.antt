use Rattle.std.proofs.Common.{inl, inr}
use Rattle.std.proofs.lemmas.Result.{IfOk-weaker}
use Rattle.bq_policy_check.proofs.asm_notes.note_beside.Goals as goal

pub returns-in-Ok : goal.returns-in-Ok
returns-in-Ok c = IfOk-weaker c.left_text.result _ _ (λ note is. inr (inl (c.in-Ok.policy, c.in-Ok.ensures.policy, is))) c.left_text.ensures
