use Rattle.std.proofs.Common.{◌≤◌, length, sym, subst}
use Rattle.std.specs.Prelude.{◌≢◌, string_bytes}
use Rattle.std.proofs.lemmas.Result.{IfOk-weaker}
use Rattle.bq_policy_run.specs.declared.permitted.Permission.{Permission}
use Rattle.bq_policy_run.specs.declared.permitted.Permission.TheVariants.{Permitted, NotPermitted, NotShown}
use Rattle.bq_policy_run.specs.declared.permitted.TheConstants.{PLACE_SHOWN}
use Rattle.bq_policy_run.specs.Judging.{BeginsWithWord}
use Rattle.bq_policy_run.proofs.JudgeLemmas.{not_permitted_is_left}
use Rattle.bq_policy_run.proofs.word_text.place_text.Goals as goal

pub returns-in-Permitted : goal.returns-in-Permitted
returns-in-Permitted c =
    let word = c.args.word in
    IfOk-weaker c.in_mask_text.result (λ text. BeginsWithWord Permitted (string_bytes text))
    (λ text. PLACE_SHOWN ≤ length c.args.context.now → word ≢ NotShown → BeginsWithWord word (string_bytes text))
    (λ text reported long other. subst (λ (w : Permission). BeginsWithWord w (string_bytes text)) (sym c.in-Permitted.is) reported)
    c.in_mask_text.ensures

pub returns-in-NotPermitted : goal.returns-in-NotPermitted
returns-in-NotPermitted c =
    let word = c.args.word in
    IfOk-weaker c.no_place_text.result (λ text. BeginsWithWord NotPermitted (string_bytes text))
    (λ text. PLACE_SHOWN ≤ length c.args.context.now → word ≢ NotShown → BeginsWithWord word (string_bytes text))
    (λ text reported long other.
    subst (λ (w : Permission). BeginsWithWord w (string_bytes text))
    (sym (not_permitted_is_left word c.in-NotPermitted.is other)) reported) c.no_place_text.ensures
