-- One task more has its comment.
use Rattle.std.proofs.Common.{◌≡◌, ◌++◌, ◌∷◌, [], ℕ, List, String, Global, ap, codes, decimal, get_or, map, string_bytes, sym, take, ◌∙◌}
use Rattle.std.proofs.lemmas.List.{map_push, take_all}
use Rattle.bq_experiment.specs.Names.{comment_by, comments_by, names_of, shown_name}
use Rattle.bq_experiment.proofs.NameLemmas.{comments-more}
use Rattle.bq_experiment.proofs.names.shown_comments.Goals as goal

pub names-preserved : goal.names-preserved
names-preserved c =
    let all = c.deref-name-items.result.now in
    let task = c.names.task-counter in
    let name = c.name-item.result in
    let comment = c.in_ok-line.line in
    let before = comments_by shown_name 0 (map string_bytes (take task all)) in
    let shown = c.in_ok-name.ensures ∙ ap shown_name (c.as_str.ensures.value ∙ ap (λ (s : String Global). string_bytes s) c.name-item.is) in
    let line : string_bytes comment ≡ comment_by shown_name task (string_bytes (get_or all task name)) =
    c.in_ok-line.ensures.ok ∙ ap (λ (n : List ℕ). codes "# task " ++ (decimal task ++ (codes " " ++ n))) shown in
    ap (λ (l : List (String Global)). map string_bytes l) c.in_ok-push.ensures.items
    ∙ map_push string_bytes c.names.comments.items comment
    ∙ ap (λ (l : List (List ℕ)). l ++ string_bytes comment ∷ []) c.names.invariant
    ∙ ap (λ (l : List ℕ). before ++ l ∷ []) line ∙ sym (comments-more shown_name all task name c.names-test.true)

pub returns : goal.returns
returns c =
    let all = c.deref-name-items.result.now in
    let names : map string_bytes all ≡ names_of c.args.workload.now.tasks.items =
    ap (λ (l : List (String Global)). map string_bytes l) c.deref-name-items.ensures.value ∙ c.in_ok-names.ensures in
    let whole = ap (λ (l : List (String Global)). map string_bytes l) (take_all c.names.task-counter all c.names-test.false) ∙ names in
    c.names.invariant ∙ ap (λ (l : List (List ℕ)). comments_by shown_name 0 l) whole
