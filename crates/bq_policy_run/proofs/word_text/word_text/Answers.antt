use Rattle.std.proofs.Common.{◌≡◌, ◌≤◌, length}
use Rattle.std.specs.Prelude.{◌≢◌, string_bytes}
use Rattle.std.proofs.lemmas.Result.{IfOk-weaker}
use Rattle.bq_policy_run.specs.Permitting.{permission_of}
use Rattle.bq_policy_run.specs.declared.permitted.Permission.TheVariants.{NotShown}
use Rattle.bq_policy_run.specs.declared.permitted.TheConstants.{PLACE_SHOWN}
use Rattle.bq_hooks.specs.Hooks.{context_length_of}
use Rattle.bq_hooks.specs.declared.hook.Version.{Version}
use Rattle.bq_policy_run.specs.Judging.{BeginsWithWord}
use Rattle.bq_policy_run.proofs.JudgeLemmas.{judged_place, judged_preempt, judged_pull}
use Rattle.bq_policy_run.proofs.word_text.word_text.Goals as goal

pub returns-in-Place : goal.returns-in-Place
returns-in-Place c =
    let context = c.args.context.now in
    let word = c.permission_of-word.result in
    IfOk-weaker c.place_text.result (λ text. PLACE_SHOWN ≤ length context → word ≢ NotShown → BeginsWithWord word (string_bytes text))
    (λ text.
    (version : Version) → length context ≡ context_length_of c.args.hook version →
    BeginsWithWord (permission_of c.args.hook context c.args.r0) (string_bytes text))
    (λ text reported. judged_place c.args.hook context c.args.r0 word (string_bytes text) c.in-Place.is c.permission_of-word.ensures reported)
    c.place_text.ensures

pub returns-in-Preempt : goal.returns-in-Preempt
returns-in-Preempt c =
    let context = c.args.context.now in
    let word = c.permission_of-word.result in
    IfOk-weaker c.from_str.result (λ text. string_bytes text ≡ c.preempt_text.result.now)
    (λ text.
    (version : Version) → length context ≡ context_length_of c.args.hook version →
    BeginsWithWord (permission_of c.args.hook context c.args.r0) (string_bytes text))
    (λ text same.
    judged_preempt c.args.hook context c.args.r0 word (string_bytes text) c.preempt_text.result.now c.in-Preempt.is
    c.permission_of-word.ensures c.preempt_text.ensures same) c.from_str.ensures.ok

pub returns-in-Pull : goal.returns-in-Pull
returns-in-Pull c =
    let context = c.args.context.now in
    let word = c.permission_of-word.result in
    IfOk-weaker c.pull_text.result (λ text. BeginsWithWord word (string_bytes text))
    (λ text.
    (version : Version) → length context ≡ context_length_of c.args.hook version →
    BeginsWithWord (permission_of c.args.hook context c.args.r0) (string_bytes text))
    (λ text reported. judged_pull c.args.hook context c.args.r0 word (string_bytes text) c.permission_of-word.ensures reported) c.pull_text.ensures
