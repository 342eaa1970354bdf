-- A comment that names a task is reported.
use Rattle.std.proofs.Common.{◌≡◌, ◌++◌, ◌∷◌, [], ℕ, List, String, Global, ap, codes, decimal, get_or, length, map, refl, string_bytes, subst, sym, take, ◌∙◌}
use Rattle.std.proofs.lemmas.List.{length-map, take_all}
use Rattle.bq_trace.specs.TraceEvents.{Reported, TakesAll}
use Rattle.bq_trace.proofs.TakingLemmas.{TakesAll-append}
use Rattle.bq_experiment.specs.Names.{comment_of, comments_from, names_of, plain_name}
use Rattle.bq_experiment.specs.Traces.{skipped}
use Rattle.bq_experiment.proofs.NameLemmas.{length-comments_by, reported-more}
use Rattle.bq_experiment.proofs.names.report_names.Goals as goal

pub names-preserved : goal.names-preserved
names-preserved g c =
    let takes = g.S.Sink.takes in
    let all = c.deref-name-items.result.now in
    let task = c.names.task-counter in
    let name = c.name-item.result in
    let plain = c.in_ok-name.ensures ∙ ap plain_name (c.as_str.ensures.value ∙ ap (λ (s : String Global). string_bytes s) c.name-item.is) in
    let line : c.as_bytes-line.result.now ≡ comment_of task (string_bytes (get_or all task name)) =
    c.as_bytes-line.ensures.value ∙ c.in_ok-comment.ensures.ok
    ∙ ap (λ (n : List ℕ). codes "# task " ++ (decimal task ++ (codes " " ++ n))) plain in
    let taken =
    TakesAll-append takes c.args.sink.now c.names.sink c.receive.new.self
    (map skipped (comments_from 0 (map string_bytes (take task all)))) (skipped c.as_bytes-line.result.now ∷ [])
    c.names.invariant (c.receive.new.self, c.in_ok-receive.ensures, refl) in
    subst (λ (reported : Reported). TakesAll takes c.args.sink.now reported c.receive.new.self)
    (reported-more all task name c.as_bytes-line.result.now c.names-test.true line) taken

pub returns-clause-reported : goal.returns-clause-reported
returns-clause-reported g c =
    let all = c.deref-name-items.result.now in
    let names : map string_bytes all ≡ names_of c.args.workload.now.tasks.items =
    ap (λ (l : List (String Global)). map string_bytes l) c.deref-name-items.ensures.value ∙ c.in_ok-names.ensures in
    let whole = ap (λ (l : List (String Global)). map string_bytes l) (take_all c.names.task-counter all c.names-test.false) ∙ names in
    subst (λ (l : List (List ℕ)). TakesAll g.S.Sink.takes c.args.sink.now (map skipped (comments_from 0 l)) c.names.sink)
    whole c.names.invariant

pub returns-clause-lines : goal.returns-clause-lines
returns-clause-lines g c =
    let all = c.deref-name-items.result.now in
    let names : map string_bytes all ≡ names_of c.args.workload.now.tasks.items =
    ap (λ (l : List (String Global)). map string_bytes l) c.deref-name-items.ensures.value ∙ c.in_ok-names.ensures in
    c.len.ensures ∙ sym c.deref-name-items.ensures.len ∙ sym (length-map all string_bytes) ∙ ap (λ (l : List (List ℕ)). length l) names
    ∙ sym (length-comments_by plain_name 0 (names_of c.args.workload.now.tasks.items))
