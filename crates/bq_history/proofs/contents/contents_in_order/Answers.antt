use Rattle.std.proofs.Common.{◌≡◌, length, map, sym, ap, subst, ◌∙◌}
use Rattle.std.proofs.lemmas.List.{take_at}
use Rattle.bq_history.specs.Places.{AreFrom}
use Rattle.bq_history.proofs.OrderedLemmas.{is_list}
use Rattle.bq_history.proofs.contents.contents_in_order.Goals as goal

pub returns : goal.returns
returns g c = λ list d long each.
    let content = g.T.HasContent.content in
    let before = c.args.items.items in
    let after = c.in_order.new.items in
    let was : c.deref_mut.result.now ≡ before = c.deref_mut.ensures.value in
    let from : AreFrom before after = subst (λ xs. AreFrom xs after) was c.in_order.ensures.from in
    let many : length after ≡ length before = c.in_order.ensures.len ∙ ap length was in
    let is : c.contents.result.items ≡ map content after =
    c.contents.ensures ∙ ap (λ xs. map content xs) (take_at after _ c.args.items.len (c.in_order.ensures.len ∙ c.deref_mut.ensures.len)) in
    is ∙ is_list g.T.Placed.place content d list before after each (many ∙ sym long) c.in_order.ensures.placed from
