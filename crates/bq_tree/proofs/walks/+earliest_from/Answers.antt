use Rattle.std.proofs.Common.{◌≡◌, true, false, Some, ◌∷◌, ◌++◌, length, length-append, ap, sym, ◌∙◌, subst, arith}
use Rattle.bq_disc.specs.Chains.{task_of}
use Rattle.bq_disc.specs.Totals.{is_at_most_mean}
use Rattle.bq_disc.specs.Dues.{due_of, first_due, earliest_of, sooner_of}
use Rattle.bq_disc.specs.Rising.{IsRising}
use Rattle.bq_tree.specs.Trees.{IsTree, IsTreeBehind, in_order_behind}
use Rattle.bq_tree.specs.Knowing.{knows_sums}
use Rattle.bq_tree.proofs.OrderLemmas.{IsRising-left, IsRising-right}
use Rattle.bq_tree.proofs.TotalsLemmas.{first_due-fork, sooner_of-fork}
use Rattle.bq_tree.proofs.WalkLemmas.{passing, passing-left, passing-right}
use Rattle.bq_tree.proofs.walks.+earliest_from.Goals as goal

pub earliest_from-requires : goal.earliest_from-requires
earliest_from-requires t c =
    let s = c.sides in
    let l = in_order_behind s.result.0.now in
    let r = in_order_behind s.result.1.now in
    let x = task_of c.in-Some.node.value in
    let whole : in_order_behind c.args.link.now ≡ l ++ x ∷ r = rw (c.in-Some.is, ← c.deref.ensures) s.ensures.order in
    let rising = subst IsRising whole c.requires.rising in
    let count = length-append l (x ∷ r) in
    let trees =
    s.ensures.sums (subst (IsTree knows_sums) (sym c.deref.ensures) (subst (IsTreeBehind knows_sums) c.in-Some.is c.requires.tree)) in
    (omega (arith, ap length whole), (trees.0, IsRising-left l (x ∷ r) rising))

pub earliest_from-requires-2 : goal.earliest_from-requires-2
earliest_from-requires-2 t c =
    let s = c.sides in
    let l = in_order_behind s.result.0.now in
    let r = in_order_behind s.result.1.now in
    let x = task_of c.in-Some.node.value in
    let whole : in_order_behind c.args.link.now ≡ l ++ x ∷ r = rw (c.in-Some.is, ← c.deref.ensures) s.ensures.order in
    let rising = subst IsRising whole c.requires.rising in
    let count = length-append l (x ∷ r) in
    let trees =
    s.ensures.sums (subst (IsTree knows_sums) (sym c.deref.ensures) (subst (IsTreeBehind knows_sums) c.in-Some.is c.requires.tree)) in
    (omega (arith, ap length whole), (trees.1, (IsRising-right l (x ∷ r) rising).1))

pub returns-then-not-is_at_most_mean : goal.returns-then-not-is_at_most_mean
returns-then-not-is_at_most_mean t c =
    let s = c.sides in
    let l = in_order_behind s.result.0.now in
    let r = in_order_behind s.result.1.now in
    let x = task_of c.in-Some.node.value in
    let whole : in_order_behind c.args.link.now ≡ l ++ x ∷ r = rw (c.in-Some.is, ← c.deref.ensures) s.ensures.order in
    let rising = subst IsRising whole c.requires.rising in
    let above : is_at_most_mean c.args.weight c.args.moment x ≡ false = cc in
    rw whole (c.earliest_from.ensures
    ∙ ap (λ xs. sooner_of c.args.found (first_due xs)) (sym (passing-left c.args.weight c.args.moment l x r rising above)))

pub returns : goal.returns
returns t c =
    let s = c.sides in
    let l = in_order_behind s.result.0.now in
    let r = in_order_behind s.result.1.now in
    let x = task_of c.in-Some.node.value in
    let whole : in_order_behind c.args.link.now ≡ l ++ x ∷ r = rw (c.in-Some.is, ← c.deref.ensures) s.ensures.order in
    let rising = subst IsRising whole c.requires.rising in
    let below : is_at_most_mean c.args.weight c.args.moment x ≡ true = cc in
    let rest = passing c.args.weight c.args.moment r in
    let left : c.due-2.result ≡ first_due l = c.due-2.ensures in
    let own = rw c.deref-2.ensures at c.due.ensures in
    let both = c.earliest.ensures ∙ ap (λ d. earliest_of d c.due-2.result) own ∙ ap (λ o. earliest_of (due_of x) o) left in
    let here : c.earliest-here.result ≡ earliest_of (earliest_of (due_of x) (first_due l)) c.args.found =
    c.earliest-here.ensures ∙ ap (λ d. earliest_of d c.args.found) both in
    let found = c.earliest_from-2.ensures ∙ ap (λ d. Some (earliest_of d (first_due rest))) here in
    let all = ap first_due (passing-right c.args.weight c.args.moment l x r rising below) ∙ first_due-fork l x rest in
    rw whole (found ∙ sym (sooner_of-fork (earliest_of (due_of x) (first_due l)) c.args.found (first_due rest))
    ∙ ap (λ o. sooner_of c.args.found o) (sym all))
