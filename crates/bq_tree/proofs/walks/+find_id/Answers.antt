use Rattle.std.proofs.Common.{◌≡◌, true, false, ◌∷◌, ◌++◌, sym, ◌∙◌, arith}
use Rattle.std.proofs.lemmas.Bool.Decides.{nat_tests}
use Rattle.bq_disc.specs.Tasks.{has_id}
use Rattle.bq_disc.specs.Chains.{task_of}
use Rattle.bq_tree.specs.Trees.{in_order_behind}
use Rattle.bq_tree.proofs.WalkLemmas.{find-front, find-here, find-later}
use Rattle.bq_tree.proofs.walks.+find_id.Goals as goal

pub returns-in-Some-find_id : goal.returns-in-Some-find_id
returns-in-Some-find_id t c =
    let s = c.sides in
    let l = in_order_behind s.result.0.now in
    let r = in_order_behind s.result.1.now in
    let x = task_of c.in-Some.node.value in
    let whole : in_order_behind c.args.link.now ≡ l ++ x ∷ r = rw (c.in-Some.is, ← c.deref.ensures) s.ensures.order in
    rw whole (sym (find-front (has_id c.args.id) l (x ∷ r) _ (sym c.in-Some-find_id.ensures)))

pub returns-then-id : goal.returns-then-id
returns-then-id t c =
    let s = c.sides in
    let l = in_order_behind s.result.0.now in
    let r = in_order_behind s.result.1.now in
    let x = task_of c.in-Some.node.value in
    let whole : in_order_behind c.args.link.now ≡ l ++ x ∷ r = rw (c.in-Some.is, ← c.deref.ensures) s.ensures.order in
    let here : c.id.result ≡ x.id = cc in
    let test : has_id c.args.id x ≡ true = grind (arith, nat_tests) in
    rw (whole, c.deref-then-id.ensures) (sym (find-here (has_id c.args.id) l x r (sym c.in-None.ensures) test))

pub returns : goal.returns
returns t c =
    let s = c.sides in
    let l = in_order_behind s.result.0.now in
    let r = in_order_behind s.result.1.now in
    let x = task_of c.in-Some.node.value in
    let whole : in_order_behind c.args.link.now ≡ l ++ x ∷ r = rw (c.in-Some.is, ← c.deref.ensures) s.ensures.order in
    let here : c.id.result ≡ x.id = cc in
    let test : has_id c.args.id x ≡ false = grind (arith, nat_tests) in
    rw whole (c.find_id-2.ensures ∙ sym (find-later (has_id c.args.id) l x r (sym c.in-None.ensures) test))
