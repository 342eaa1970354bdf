use Rattle.std.proofs.Common.{◌≡◌, ◌∙◌, ◌++◌, Bool, ap}
use Rattle.std.specs.Prelude.{string_bytes}
use Rattle.std.proofs.lemmas.Result.{IfOk-weaker}
use Rattle.serde_json.specs.Data.{Data, Members, object, string}
use Rattle.serde_json.specs.View.{members_view, view}
use Rattle.bq_explain.specs.Verdicts.{is_accepted}
use Rattle.bq_policy_check.specs.Showing.{IsLineOf, ShowsVerdict, answer_members, first_line, of_verdict, put_all}
use Rattle.bq_policy_check.proofs.ShowingLemmas.{shows_verdict}
use Rattle.bq_policy_check.proofs.json_text.explanation_json.Goals as goal

pub returns : goal.returns
returns c =
    let p = c.args.policy.now in
    let verdict = c.args.explanation.now.verdict in
    let first = c.first_line.result.0.now in
    let old = members_view c.put_explanation.new.fields.entries in
    let new = members_view c.put_verdict.new.fields.entries in
    let made : new ≡ put_all (answer_members (is_accepted verdict) (string first) ++ of_verdict p verdict) old =
    c.in_ok-put_verdict.ensures ∙ ap (λ (members : Members). put_all (of_verdict p verdict) members) c.in_ok-put_answer.ensures
    ∙ ap (λ (accepted : Bool). put_all (answer_members accepted (view c.in_ok-answer.answer) ++ of_verdict p verdict) old)
    c.is_accepted.ensures
    ∙ ap (λ (answer : Data). put_all (answer_members (is_accepted verdict) answer ++ of_verdict p verdict) old) c.in_ok-answer.ensures in
    IfOk-weaker c.line_of.result (λ text. IsLineOf (object new) (string_bytes text))
    (λ text. ShowsVerdict p verdict (string_bytes text))
    (λ text line.
    shows_verdict p verdict first (string_bytes c.in_ok-prose.prose) (string_bytes text) old new c.in_ok-prose.ensures.begins
    (c.first_line.ensures ∙ ap first_line c.as_str.ensures.value) made line) c.line_of.ensures
