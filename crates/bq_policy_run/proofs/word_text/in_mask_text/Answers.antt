use Rattle.std.proofs.Common.{◌≡◌, ◌++◌, false}
use Rattle.std.specs.Prelude.{codes, string_bytes}
use Rattle.std.specs.Fmt.{decimal, digits}
use Rattle.std.proofs.lemmas.Result.{IfOk-weaker}
use Rattle.bq_policy_run.specs.declared.permitted.Permission.TheVariants.{Permitted}
use Rattle.bq_policy_run.specs.Judging.{BeginsWithWord}
use Rattle.bq_policy_run.proofs.word_text.in_mask_text.Goals as goal

pub returns : goal.returns
returns c =
    let why = codes "processor " ++ (decimal c.args.r0 ++ (codes " is in mask 0x" ++ digits 16 false c.args.mask)) in
    let plain = rw c.in_radix.ensures at c.format.ensures.ok in
    IfOk-weaker c.format.result (λ text. string_bytes text ≡ codes "permitted: " ++ why)
    (λ text. BeginsWithWord Permitted (string_bytes text)) (λ text is. (why, is)) plain
