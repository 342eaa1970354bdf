use Rattle.std.proofs.Common.{◌≡◌, ◌∙◌, ap, false, rules}
use Rattle.std.specs.Prelude.{string_bytes}
use Rattle.std.proofs.lemmas.Result.{IfOk-weaker}
use Rattle.serde_json.specs.Data.{Data, null, object}
use Rattle.serde_json.specs.View.{members_view, view}
use Rattle.serde_json.specs.declared.value.Value.{Null, the_lemmas}
use Rattle.bq_policy_check.specs.Showing.{IsLineOf, ShowsNone, answer_members, put_all}
use Rattle.bq_policy_check.proofs.ShowingLemmas.{shows_none}
use Rattle.bq_policy_check.proofs.json_text.unanswered_json.Goals as goal

pub returns : goal.returns
returns c =
    let old = members_view c.put_explanation.new.fields.entries in
    let new = members_view c.put_answer.new.fields.entries in
    let nothing : view Null ≡ null = search (rules, the_lemmas) in
    IfOk-weaker c.line_of.result (λ text. IsLineOf (object new) (string_bytes text)) (λ text. ShowsNone (string_bytes text))
    (λ text line.
    shows_none old new (string_bytes text)
    (c.in_ok-put_answer.ensures ∙ ap (λ (answer : Data). put_all (answer_members false answer) old) nothing) line)
    c.line_of.ensures
