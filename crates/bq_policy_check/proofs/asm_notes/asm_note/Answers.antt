use Rattle.std.proofs.Common.{MatchOption, inr, subst}
use Rattle.std.proofs.lemmas.Result.{IfOk-weaker}
use Rattle.bq_policy_file.specs.declared.head.Head.{Head}
use Rattle.bq_policy_check.specs.Disagreeing.{GivesImage}
use Rattle.bq_policy_check.proofs.asm_notes.asm_note.Goals as goal

pub returns-in-Some : goal.returns-in-Some
returns-in-Some c =
    let options = c.args.options.now in
    let gives : GivesImage options c.in-Some.given =
    subst (λ s. MatchOption s ((h : Head) → ¬ GivesImage options h) (GivesImage options)) c.in-Some.is
    c.in_ok-head_of.ensures in
    IfOk-weaker c.note_beside.result _ _ (λ note beside. inr (c.in-Some.given, gives, beside)) c.note_beside.ensures
