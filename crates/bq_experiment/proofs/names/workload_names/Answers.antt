-- One comment more gives a name.
use Rattle.std.proofs.Common.{◌≡◌, ℕ, List, String, Global, ap, get_or, map, string_bytes, subst, sym, take, ◌∙◌}
use Rattle.std.proofs.lemmas.List.{map_more, take_all}
use Rattle.bq_report.specs.Names.{Learns}
use Rattle.bq_experiment.specs.Names.{LearnsAll}
use Rattle.bq_experiment.proofs.NameLemmas.{learns_more}
use Rattle.bq_experiment.proofs.names.workload_names.Goals as goal

pub comments-preserved : goal.comments-preserved
comments-preserved c =
    let all = c.deref-comment-items.result.now in
    let i = c.comments.comment-index in
    let comment = c.comment-item.result in
    let old = c.new-names.result in
    let mid = c.comments.names in
    let new = c.learn.new.self in
    let line : c.as_bytes.result.now ≡ string_bytes (get_or all i comment) =
    c.as_bytes.ensures.value ∙ ap (λ (s : String Global). string_bytes s) c.comment-item.is in
    let learnt : Learns (string_bytes (get_or all i comment)) mid new =
    subst (λ (l : List ℕ). Learns l mid new) line c.in_ok-learn.ensures.ok in
    subst (λ (lines : List (List ℕ)). LearnsAll lines old new) (sym (map_more string_bytes all i comment c.comments-test.true))
    (learns_more (map string_bytes (take i all)) (string_bytes (get_or all i comment)) old mid new c.comments.invariant learnt)

pub returns : goal.returns
returns c =
    let all = c.deref-comment-items.result.now in
    let whole =
    ap (λ (l : List (String Global)). map string_bytes l)
    (take_all c.comments.comment-index all c.comments-test.false ∙ c.deref-comment-items.ensures.value)
    ∙ c.in_ok-comments.ensures in
    record {
      begun = c.new-names.result;
      nobody = c.new-names.ensures;
      learnt = subst (λ (lines : List (List ℕ)). LearnsAll lines c.new-names.result c.comments.names) whole c.comments.invariant;
    }
