use Rattle.std.proofs.Common.{inl, inr, refl}
use Rattle.std.proofs.lemmas.Result.{IfOk-weaker}
use Rattle.bq_policy_check.specs.Listing.{ListsFile, ListsTo}
use Rattle.bq_policy_check.specs.Given.{GivesHead}
use Rattle.bq_console.proofs.GivenLemmas.{gives_none}
use Rattle.bq_policy_check.proofs.listing.list.Goals as goal

pub returns-in-Ok : goal.returns-in-Ok
returns-in-Ok c =
    IfOk-weaker c.list_file.result (ListsFile c.args.words.now c.args.bytes.now c.in-Ok.head) (ListsTo c.args.words.now c.args.bytes.now)
    (λ answer lists. inr (c.in-Ok.head, c.in-Ok.ensures.gives, lists)) c.list_file.ensures

pub returns-in-Err-Words : goal.returns-in-Err-Words
returns-in-Err-Words c =
    inl ((_, refl), gives_none (GivesHead c.args.words.now.policy) _ _ c.in-Err-Words.field-0-is c.in-Err-Words.ensures.none)
