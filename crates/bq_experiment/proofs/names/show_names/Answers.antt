-- One comment more gives a name, and changes nothing else.
use Rattle.std.proofs.Common.{◌≡◌, ℕ, List, String, Global, ap, get_or, length, map, string_bytes, subst, sym, take, ◌∙◌}
use Rattle.std.proofs.lemmas.List.{length-map, map_more, take_all}
use Rattle.bq_report.specs.Names.{Learns}
use Rattle.bq_experiment.specs.Names.{LearnsAll}
use Rattle.bq_experiment.proofs.NameLemmas.{learns_more, rests_on}
use Rattle.bq_experiment.proofs.names.show_names.Goals as goal

pub comments-preserved : goal.comments-preserved
comments-preserved c =
    let all = c.deref-comment-items.result.now in
    let i = c.comments.comment-index in
    let comment = c.comment-item.result in
    let old = c.args.viewer.now.screen.names in
    let mid = c.comments.viewer.screen.names in
    let new = c.receive.new.self.screen.names in
    let line : c.as_bytes-line.result.now ≡ string_bytes (get_or all i comment) =
    c.as_bytes-line.ensures.value ∙ ap (λ (s : String Global). string_bytes s) c.comment-item.is in
    let learnt : Learns (string_bytes (get_or all i comment)) mid new =
    subst (λ (l : List ℕ). Learns l mid new) line c.in_ok-receive.ensures.short_line in
    record {
      rest = rests_on c.args.viewer.now c.comments.viewer c.receive.new.self c.comments.invariant.rest (c.receive.ensures.unchanged tt);
      names = subst (λ (lines : List (List ℕ)). LearnsAll lines old new) (sym (map_more string_bytes all i comment c.comments-test.true))
          (learns_more (map string_bytes (take i all)) (string_bytes (get_or all i comment)) old mid new c.comments.invariant.names learnt);
    }

pub returns-clause-names : goal.returns-clause-names
returns-clause-names c =
    let all = c.deref-comment-items.result.now in
    let whole =
    ap (λ (l : List (String Global)). map string_bytes l)
    (take_all c.comments.comment-index all c.comments-test.false ∙ c.deref-comment-items.ensures.value)
    ∙ c.in_ok-comments.ensures in
    subst (λ (lines : List (List ℕ)). LearnsAll lines c.args.viewer.now.screen.names c.comments.viewer.screen.names) whole
    c.comments.invariant.names

pub returns-clause-lines : goal.returns-clause-lines
returns-clause-lines c =
    c.len.ensures ∙ c.in_ok-comments.comments.ok.0 ∙ sym (length-map c.in_ok-comments.comments.items string_bytes)
    ∙ ap (λ (l : List (List ℕ)). length l) c.in_ok-comments.ensures
