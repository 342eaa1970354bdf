use Rattle.std.proofs.Common.{◌≡◌, true, false, ◌∷◌, ◌++◌, length, length-append, ap, sym, ◌∙◌, subst, arith}
use Rattle.bq_disc.specs.Queues.{comes_after}
use Rattle.bq_disc.specs.Chains.{task_of}
use Rattle.bq_disc.specs.Rising.{IsRising}
use Rattle.bq_tree.specs.Trees.{in_order_behind}
use Rattle.bq_tree.proofs.OrderLemmas.{IsRising-left, IsRising-right, IsRising-before}
use Rattle.bq_tree.proofs.WalkLemmas.{find-front, find-here, find-later, none_after}
use Rattle.bq_tree.proofs.walks.+after.Goals as goal

pub after-requires : goal.after-requires
after-requires t c =
    let s = c.sides in
    let l = in_order_behind s.result.0.now in
    let r = in_order_behind s.result.1.now in
    let x = task_of c.in-Some.node.value in
    let whole : in_order_behind c.args.link.now ≡ l ++ x ∷ r = rw (c.in-Some.is, ← c.deref.ensures) s.ensures.order in
    let rising = subst IsRising whole c.requires.rising in
    let count = length-append l (x ∷ r) in
    (omega (arith, ap length whole), (IsRising-right l (x ∷ r) rising).1)

pub returns-then-not-is_after : goal.returns-then-not-is_after
returns-then-not-is_after t c =
    let s = c.sides in
    let l = in_order_behind s.result.0.now in
    let r = in_order_behind s.result.1.now in
    let x = task_of c.in-Some.node.value in
    let whole : in_order_behind c.args.link.now ≡ l ++ x ∷ r = rw (c.in-Some.is, ← c.deref.ensures) s.ensures.order in
    let rising = subst IsRising whole c.requires.rising in
    let test : comes_after c.args.v c.args.id x ≡ false = cc in
    let none = none_after c.args.v c.args.id x l test (IsRising-before l x r rising) in
    rw whole (c.after.ensures ∙ sym (find-later (comes_after c.args.v c.args.id) l x r none test))

pub after-requires-2 : goal.after-requires-2
after-requires-2 t c =
    let s = c.sides in
    let l = in_order_behind s.result.0.now in
    let r = in_order_behind s.result.1.now in
    let x = task_of c.in-Some.node.value in
    let whole : in_order_behind c.args.link.now ≡ l ++ x ∷ r = rw (c.in-Some.is, ← c.deref.ensures) s.ensures.order in
    let rising = subst IsRising whole c.requires.rising in
    let count = length-append l (x ∷ r) in
    (omega (arith, ap length whole), IsRising-left l (x ∷ r) rising)

pub returns-in-Some-after : goal.returns-in-Some-after
returns-in-Some-after t c =
    let s = c.sides in
    let l = in_order_behind s.result.0.now in
    let r = in_order_behind s.result.1.now in
    let x = task_of c.in-Some.node.value in
    let whole : in_order_behind c.args.link.now ≡ l ++ x ∷ r = rw (c.in-Some.is, ← c.deref.ensures) s.ensures.order in
    rw whole (sym (find-front (comes_after c.args.v c.args.id) l (x ∷ r) _ (sym c.in-Some-after.ensures)))

pub returns-in-None : goal.returns-in-None
returns-in-None t c =
    let s = c.sides in
    let l = in_order_behind s.result.0.now in
    let r = in_order_behind s.result.1.now in
    let x = task_of c.in-Some.node.value in
    let whole : in_order_behind c.args.link.now ≡ l ++ x ∷ r = rw (c.in-Some.is, ← c.deref.ensures) s.ensures.order in
    let test : comes_after c.args.v c.args.id x ≡ true = cc in
    rw (whole, c.deref-in-None.ensures) (sym (find-here (comes_after c.args.v c.args.id) l x r (sym c.in-None.ensures) test))
