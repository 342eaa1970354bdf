use Rattle.std.proofs.Common.{inl}
use Rattle.std.proofs.lemmas.Result.{IfOk-weaker}
use Rattle.bq_policy_check.specs.Checking.{GivesTerms}
use Rattle.bq_policy_check.proofs.ImageLemmas.{by_terms}
use Rattle.bq_console.proofs.GivenLemmas.{gives_none}
use Rattle.bq_policy_check.proofs.accepting.accepted_image.Goals as goal

pub returns-in-Ok : goal.returns-in-Ok
returns-in-Ok c =
    let terms = c.in-Ok.terms in
    IfOk-weaker c.image_under.result _ _
    (λ found under.
    by_terms c.args.words.now c.args.bytes.now (terms.head, terms.limits) found
    record { head = c.in-Ok.ensures.gives; limits = c.in-Ok.ensures.has } under) c.image_under.ensures

pub returns-in-Err-Words : goal.returns-in-Err-Words
returns-in-Err-Words c = inl (gives_none (GivesTerms c.args.words.now) _ _ c.in-Err-Words.field-0-is c.in-Err-Words.ensures.none)
