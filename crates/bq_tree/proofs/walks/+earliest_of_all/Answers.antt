use Rattle.std.proofs.Common.{◌≡◌, true, false, Some, ◌∷◌, ◌++◌, length, length-append, ap, sym, ◌∙◌, subst, arith}
use Rattle.bq_disc.specs.Chains.{task_of}
use Rattle.bq_disc.specs.Totals.{is_at_most_mean}
use Rattle.bq_disc.specs.Dues.{due_of, first_due, earliest_of}
use Rattle.bq_disc.specs.Rising.{IsRising}
use Rattle.bq_tree.specs.Trees.{in_order_behind}
use Rattle.bq_tree.proofs.OrderLemmas.{IsRising-left, IsRising-right}
use Rattle.bq_tree.proofs.TotalsLemmas.{first_due-fork}
use Rattle.bq_tree.proofs.WalkLemmas.{passing, passing-left, passing-right, all_pass-before}
use Rattle.bq_tree.proofs.walks.+earliest_of_all.Goals as goal

pub earliest_of_all-found-requires : goal.earliest_of_all-found-requires
earliest_of_all-found-requires t c =
    let s = c.sides in
    let l = in_order_behind s.result.0.now in
    let r = in_order_behind s.result.1.now in
    let x = task_of c.in-Some.node.value in
    let whole : in_order_behind c.args.link.now ≡ l ++ x ∷ r = rw (c.in-Some.is, ← c.deref.ensures) s.ensures.order in
    let rising = subst IsRising whole c.requires in
    let count = length-append l (x ∷ r) in
    (omega (arith, ap length whole), IsRising-left l (x ∷ r) rising)

pub earliest_of_all-requires : goal.earliest_of_all-requires
earliest_of_all-requires t c =
    let s = c.sides in
    let l = in_order_behind s.result.0.now in
    let r = in_order_behind s.result.1.now in
    let x = task_of c.in-Some.node.value in
    let whole : in_order_behind c.args.link.now ≡ l ++ x ∷ r = rw (c.in-Some.is, ← c.deref.ensures) s.ensures.order in
    let rising = subst IsRising whole c.requires in
    let count = length-append l (x ∷ r) in
    (omega (arith, ap length whole), (IsRising-right l (x ∷ r) rising).1)

pub returns-then-not-is_at_most_mean : goal.returns-then-not-is_at_most_mean
returns-then-not-is_at_most_mean t c =
    let s = c.sides in
    let l = in_order_behind s.result.0.now in
    let r = in_order_behind s.result.1.now in
    let x = task_of c.in-Some.node.value in
    let whole : in_order_behind c.args.link.now ≡ l ++ x ∷ r = rw (c.in-Some.is, ← c.deref.ensures) s.ensures.order in
    let rising = subst IsRising whole c.requires in
    let above : is_at_most_mean c.args.weight c.args.moment x ≡ false = cc in
    rw whole (c.earliest_of_all-found.ensures ∙ ap first_due (sym (passing-left c.args.weight c.args.moment l x r rising above)))

pub returns : goal.returns
returns t c =
    let s = c.sides in
    let l = in_order_behind s.result.0.now in
    let r = in_order_behind s.result.1.now in
    let x = task_of c.in-Some.node.value in
    let whole : in_order_behind c.args.link.now ≡ l ++ x ∷ r = rw (c.in-Some.is, ← c.deref.ensures) s.ensures.order in
    let rising = subst IsRising whole c.requires in
    let below : is_at_most_mean c.args.weight c.args.moment x ≡ true = cc in
    let rest = passing c.args.weight c.args.moment r in
    let left = c.earliest_of_all-found.ensures ∙ ap first_due (all_pass-before c.args.weight c.args.moment l x r rising below) in
    let own = rw c.deref-2.ensures at c.due.ensures in
    let here =
    c.earliest-here.ensures ∙ ap (λ d. earliest_of d c.earliest_of_all-found.result) own
    ∙ ap (λ o. earliest_of (due_of x) o) left in
    let all = ap first_due (passing-right c.args.weight c.args.moment l x r rising below) ∙ first_due-fork l x rest in
    let found =
    c.earliest.ensures ∙ ap (λ d. earliest_of d c.earliest_of_all.result) here
    ∙ ap (λ o. earliest_of (earliest_of (due_of x) (first_due l)) o) c.earliest_of_all.ensures in
    rw whole (ap (λ d. Some d) found ∙ sym all)
