use Rattle.std.proofs.Common.{◌≡◌, ◌++◌, IfOk, arith}
use Rattle.std.specs.Prelude.{codes, string_bytes}
use Rattle.std.specs.Fmt.{decimal}
use Rattle.std.proofs.lemmas.Grind.{common_steps}
use Rattle.std.proofs.lemmas.Result.{IfOk-weaker}
use Rattle.bq_policy_run.specs.declared.permitted.Permission.TheVariants.{Permitted}
use Rattle.bq_policy_run.specs.Judging.{BeginsWithWord}
use Rattle.bq_policy_run.proofs.word_text.taken_text.Goals as goal

pub returns-then-r0-eq-NOBODY : goal.returns-then-r0-eq-NOBODY
returns-then-r0-eq-NOBODY c =
    let why = codes "none is taken" in
    IfOk-weaker c.from_str.result (λ text. string_bytes text ≡ codes "permitted: " ++ why)
    (λ text. BeginsWithWord Permitted (string_bytes text)) (λ text is. (why, is)) c.from_str.ensures.ok

pub returns : goal.returns
returns c =
    let why = decimal c.args.r0 ++ codes " is a movable task that is shown" in
    let plain : IfOk c.format.result (λ text. string_bytes text ≡ codes "permitted: " ++ why) = grind (arith, common_steps) in
    IfOk-weaker c.format.result (λ text. string_bytes text ≡ codes "permitted: " ++ why)
    (λ text. BeginsWithWord Permitted (string_bytes text)) (λ text is. (why, is)) plain
