use Rattle.std.proofs.Common.{arith, ◌≡◌, ◌++◌, IfOk, false}
use Rattle.std.specs.Prelude.{codes, string_bytes}
use Rattle.std.specs.Fmt.{decimal, digits}
use Rattle.std.proofs.lemmas.Grind.{common_steps}
use Rattle.std.proofs.lemmas.Result.{IfOk-weaker}
use Rattle.bq_policy_run.specs.declared.permitted.Permission.TheVariants.{NotPermitted}
use Rattle.bq_policy_run.specs.Judging.{BeginsWithWord}
use Rattle.bq_policy_run.proofs.word_text.no_place_text.Goals as goal

pub returns-then-r0-from : goal.returns-then-r0-from
returns-then-r0-from c =
    let why = codes "the machine has " ++ (decimal c.args.count ++ (codes " processors" ++ c.count_advice-advice.result.now)) in
    let plain : IfOk c.format.result (λ text. string_bytes text ≡ codes "not permitted: " ++ why) = grind (arith, common_steps) in
    IfOk-weaker c.format.result (λ text. string_bytes text ≡ codes "not permitted: " ++ why)
    (λ text. BeginsWithWord NotPermitted (string_bytes text)) (λ text is. (why, is)) plain

pub returns : goal.returns
returns c =
    let why = codes "processor " ++ (decimal c.args.r0 ++ (codes " is not in mask 0x" ++ digits 16 false c.args.mask)) in
    let plain : IfOk c.format-2.result (λ text. string_bytes text ≡ codes "not permitted: " ++ why) = grind (arith, common_steps) in
    IfOk-weaker c.format-2.result (λ text. string_bytes text ≡ codes "not permitted: " ++ why)
    (λ text. BeginsWithWord NotPermitted (string_bytes text)) (λ text is. (why, is)) plain
