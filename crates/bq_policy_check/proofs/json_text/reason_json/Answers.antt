use Rattle.std.proofs.Common.{◌≡◌, ◌∙◌, ◌++◌, ap, false}
use Rattle.std.specs.Prelude.{string_bytes}
use Rattle.std.proofs.lemmas.Result.{IfOk-weaker}
use Rattle.serde_json.specs.Data.{Data, Members, object, string}
use Rattle.serde_json.specs.View.{members_view}
use Rattle.bq_policy_check.specs.Showing.{IsLineOf, ShowsFault, answer_members, of_fault, put_all}
use Rattle.bq_policy_check.proofs.ShowingLemmas.{shows_fault}
use Rattle.bq_policy_check.proofs.json_text.reason_json.Goals as goal

pub returns : goal.returns
returns c =
    let named = c.args.fault in
    let first = c.first_line.result.0.now in
    let old = members_view c.put_explanation.new.fields.entries in
    let new = members_view c.put_fault.new.fields.entries in
    let made : new ≡ put_all (answer_members false (string first) ++ of_fault named) old =
    c.in_ok-put_fault.ensures ∙ ap (λ (members : Members). put_all (of_fault named) members) c.in_ok-put_answer.ensures
    ∙ ap (λ (answer : Data). put_all (answer_members false answer ++ of_fault named) old) c.in_ok-answer.ensures in
    IfOk-weaker c.line_of.result (λ text. IsLineOf (object new) (string_bytes text)) (λ text. ShowsFault named (string_bytes text))
    (λ text line. shows_fault named first c.args.prose.now (string_bytes text) old new c.requires c.first_line.ensures made line)
    c.line_of.ensures
