use Rattle.std.proofs.Common.{◌≡◌, false, true}
use Rattle.bq_policy_run.proofs.RefusalLemmas.{no_field_word}
use Rattle.bq_policy_run.proofs.field_words.field_word.Goals as goal

pub returns-in-None-2-clause-none : goal.returns-in-None-2-clause-none
returns-in-None-2-clause-none c =
    no_field_word c.args.hook c.args.name.now c.args.text.now c.in-None.ensures.none (λ both.
    let is : c.is_nobody.result ≡ true = c.is_nobody.ensures.1 both in
    let other : c.is_nobody.result ≡ false = c.if-is_nobody.false in
    absurd (cc))
