use Rattle.std.proofs.Common.{◌≡◌, ◌++◌, IfOk, arith, sym, subst}
use Rattle.std.specs.Prelude.{codes, string_bytes}
use Rattle.std.specs.Fmt.{decimal}
use Rattle.std.proofs.lemmas.Grind.{common_steps}
use Rattle.std.proofs.lemmas.Result.{IfOk-weaker}
use Rattle.bq_policy_run.specs.declared.permitted.Permission.{Permission}
use Rattle.bq_policy_run.specs.declared.permitted.Permission.TheVariants.{Permitted, NotPermitted, NotShown}
use Rattle.bq_policy_run.specs.Judging.{BeginsWithWord}
use Rattle.bq_policy_run.proofs.JudgeLemmas.{text_is_word_and_why}
use Rattle.bq_policy_run.proofs.word_text.pull_text.Goals as goal

pub returns-in-Permitted : goal.returns-in-Permitted
returns-in-Permitted c =
    IfOk-weaker c.taken_text.result (λ text. BeginsWithWord Permitted (string_bytes text))
    (λ text. BeginsWithWord c.args.word (string_bytes text))
    (λ text reported. subst (λ (w : Permission). BeginsWithWord w (string_bytes text)) (sym c.in-Permitted.is) reported) c.taken_text.ensures

pub returns-in-NotShown : goal.returns-in-NotShown
returns-in-NotShown c =
    let why = codes "it is a movable task that the context does not show" in
    IfOk-weaker c.from_str.result (λ text. string_bytes text ≡ codes "permitted only if " ++ why)
    (λ text. BeginsWithWord c.args.word (string_bytes text))
    (λ text is. text_is_word_and_why c.args.word NotShown why (string_bytes text) c.in-NotShown.is is) c.from_str.ensures.ok

pub returns-in-NotPermitted : goal.returns-in-NotPermitted
returns-in-NotPermitted c =
    let why = decimal c.args.r0 ++ (codes " is no movable task; none is " ++ decimal 4294967295) in
    let plain : IfOk c.format.result (λ text. string_bytes text ≡ codes "not permitted: " ++ why) = grind (arith, common_steps) in
    IfOk-weaker c.format.result (λ text. string_bytes text ≡ codes "not permitted: " ++ why)
    (λ text. BeginsWithWord c.args.word (string_bytes text))
    (λ text is. text_is_word_and_why c.args.word NotPermitted why (string_bytes text) c.in-NotPermitted.is is) plain
