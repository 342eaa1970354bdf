use Rattle.std.proofs.Common.{◌∙◌, append_assoc}
use Rattle.std.proofs.lemmas.Result.{on_ok_weaker}
use Rattle.bq_report.proofs.timehist.write_awakened.Goals as goal

pub returns : goal.returns
returns c =
    on_ok_weaker c.write_target.result
    (λ is. is ∙ rw (c.in_ok-write_named.ensures, c.in_ok-push_str.ensures.bytes) (simp append_assoc)) c.write_target.ensures
