use Rattle.std.proofs.Common.{inl, inr, refl}
use Rattle.std.proofs.lemmas.Result.{IfOk-weaker}
use Rattle.bq_policy_check.specs.Checking.{ChecksFile, ChecksTo, GivesTerms}
use Rattle.bq_console.proofs.GivenLemmas.{gives_none}
use Rattle.bq_policy_check.proofs.checking.check.Goals as goal

pub returns-in-Ok : goal.returns-in-Ok
returns-in-Ok c =
    let terms = c.in-Ok.terms in
    IfOk-weaker c.check_file.result (ChecksFile c.args.words.now c.args.bytes.now terms.head terms.limits)
    (ChecksTo c.args.words.now c.args.bytes.now)
    (λ answer checks. inr
    record { head = terms.head; gives = c.in-Ok.ensures.gives; limits = terms.limits; has = c.in-Ok.ensures.has; checks = checks })
    c.check_file.ensures

pub returns-in-Err-Words : goal.returns-in-Err-Words
returns-in-Err-Words c = inl ((_, refl), gives_none (GivesTerms c.args.words.now) _ _ c.in-Err-Words.field-0-is c.in-Err-Words.ensures.none)
