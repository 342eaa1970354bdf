use Rattle.std.proofs.Common.{◌≡◌, sym, ap, ◌∙◌, subst, rules, tests}
use Rattle.std.specs.Prelude.{◌==◌}
use Rattle.std.specs.Str.{IsUtf8, trim}
use Rattle.std.proofs.lemmas.Option.{none-some}
use Rattle.std.proofs.lemmas.Iterator.{YieldsList-from_slice}
use Rattle.std.proofs.lemmas.Iterator.Search.{position_from_yields_List}
use Rattle.bq_report.specs.Names.{task_number}
use Rattle.bq_report.proofs.NamingLemmas.{first_space, names_none, is_line, has_space, number_is, text_is, names_task, no_mark, no_word, no_text, at_ok, from_place}
use Rattle.bq_report.proofs.names.naming.Goals as goal

pub returns-in_err-rest-clause-none : goal.returns-in_err-rest-clause-none
returns-in_err-rest-clause-none c =
    names_none c.args.comment.now _
    (λ task name n. no_mark c.args.comment.now _ name task c.trim_ascii.ensures.value c.in_err-rest.ensures.cases n)

pub returns-in_err-rest-2-clause-none : goal.returns-in_err-rest-2-clause-none
returns-in_err-rest-2-clause-none c =
    names_none c.args.comment.now _ (λ task name n. no_word c.args.comment.now _ _ _ name task c.trim_ascii.ensures.value
    c.in_ok-rest.ensures.cases.0 c.in_ok-rest.ensures.cases.1 c.trim_ascii-2.ensures.value c.in_err-rest-2.ensures.cases n)

pub returns-in_err-end-clause-none : goal.returns-in_err-end-clause-none
returns-in_err-end-clause-none c =
    let line = is_line _ _ _ _ _ _ c.trim_ascii.ensures.value c.in_ok-rest.ensures.cases.0 c.in_ok-rest.ensures.cases.1
    c.trim_ascii-2.ensures.value c.in_ok-rest-2.ensures.cases.0 c.in_ok-rest-2.ensures.cases.1 c.trim_ascii-rest.ensures.value in
    let found : c.position.result ≡ first_space c.trim_ascii-rest.result.now =
    position_from_yields_List (λ byte. byte == 32) _ _ c.position.result c.position.ensures.ran
    (YieldsList-from_slice _ c.iter.ensures.rest) (λ x b q k. search (rules, tests)) in
    names_none c.args.comment.now _
    (λ task name n. has_space c.args.comment.now c.trim_ascii-rest.result.now name task line n c.position.result found c.in_err-end.was)

pub returns-in_err-task-clause-none : goal.returns-in_err-task-clause-none
returns-in_err-task-clause-none c =
    let line = is_line _ _ _ _ _ _ c.trim_ascii.ensures.value c.in_ok-rest.ensures.cases.0 c.in_ok-rest.ensures.cases.1
    c.trim_ascii-2.ensures.value c.in_ok-rest-2.ensures.cases.0 c.in_ok-rest-2.ensures.cases.1 c.trim_ascii-rest.ensures.value in
    let found : c.position.result ≡ first_space c.trim_ascii-rest.result.now =
    position_from_yields_List (λ byte. byte == 32) _ _ c.position.result c.position.ensures.ran
    (YieldsList-from_slice _ c.iter.ensures.rest) (λ x b q k. search (rules, tests)) in
    names_none c.args.comment.now _ (λ task name n.
    let number =
    number_is c.args.comment.now c.trim_ascii-rest.result.now name task line n c.position.result
    c.in_ok-end.end found c.in_ok-end.was in
    none-some task (sym c.in_err-task.was ∙ c.task_number.ensures ∙ ap task_number number ∙ n.is_number))

pub returns-in_err-ok-clause-none : goal.returns-in_err-ok-clause-none
returns-in_err-ok-clause-none c =
    let line = is_line _ _ _ _ _ _ c.trim_ascii.ensures.value c.in_ok-rest.ensures.cases.0 c.in_ok-rest.ensures.cases.1
    c.trim_ascii-2.ensures.value c.in_ok-rest-2.ensures.cases.0 c.in_ok-rest-2.ensures.cases.1 c.trim_ascii-rest.ensures.value in
    let found : c.position.result ≡ first_space c.trim_ascii-rest.result.now =
    position_from_yields_List (λ byte. byte == 32) _ _ c.position.result c.position.ensures.ran
    (YieldsList-from_slice _ c.iter.ensures.rest) (λ x b q k. search (rules, tests)) in
    names_none c.args.comment.now _ (λ task name n.
    let text =
    text_is c.args.comment.now c.trim_ascii-rest.result.now name task line n c.position.result
    c.in_ok-end.end found c.in_ok-end.was in
    no_text _ _ _ c.from_utf8.result c.from_utf8.ensures.cases c.in_err-ok.ensures.variant
    (subst IsUtf8 (sym (from_place c.in_ok-end.end c.trim_ascii-rest.result.now ∙ text)) n.is_text))

pub returns-clause-named : goal.returns-clause-named
returns-clause-named c =
    let line = is_line _ _ _ _ _ _ c.trim_ascii.ensures.value c.in_ok-rest.ensures.cases.0 c.in_ok-rest.ensures.cases.1
    c.trim_ascii-2.ensures.value c.in_ok-rest-2.ensures.cases.0 c.in_ok-rest-2.ensures.cases.1 c.trim_ascii-rest.ensures.value in
    let found : c.position.result ≡ first_space c.trim_ascii-rest.result.now =
    position_from_yields_List (λ byte. byte == 32) _ _ c.position.result c.position.ensures.ran
    (YieldsList-from_slice _ c.iter.ensures.rest) (λ x b q k. search (rules, tests)) in
    let text = at_ok _ _ c.from_utf8.result c.in_ok-ok.field-0 c.from_utf8.ensures.cases c.in_ok-ok.ensures.value in
    names_task c.args.comment.now c.trim_ascii-rest.result.now c.trim-name.result.now c.in_ok-task.task line
    c.position.result c.in_ok-end.end found c.in_ok-end.was (sym c.task_number.ensures ∙ c.in_ok-task.was)
    (subst IsUtf8 (from_place c.in_ok-end.end c.trim_ascii-rest.result.now) text.1)
    (c.trim-name.ensures.trim ∙ ap trim (text.0 ∙ from_place c.in_ok-end.end c.trim_ascii-rest.result.now))
