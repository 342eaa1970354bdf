use Rattle.std.proofs.Common.{◌≡◌, true, false, ◌∷◌, ◌++◌, length, length-append, ap, subst, arith}
use Rattle.bq_disc.specs.Queues.{comes_after}
use Rattle.bq_disc.specs.Chains.{task_of}
use Rattle.bq_disc.specs.Rising.{IsRising}
use Rattle.bq_tree.specs.Trees.{in_order_behind}
use Rattle.bq_tree.specs.Taking.{is_task_at}
use Rattle.bq_tree.proofs.OrderLemmas.{IsRising-left, IsRising-right, Finds-left, Finds-right}
use Rattle.bq_tree.proofs.walks.+get_at.Goals as goal

pub get_at-requires : goal.get_at-requires
get_at-requires t c =
    let s = c.sides in
    let l = in_order_behind s.result.0.now in
    let r = in_order_behind s.result.1.now in
    let x = task_of c.in-Some.node.value in
    let whole : in_order_behind c.args.link.now ≡ l ++ x ∷ r = rw (c.in-Some.is, ← c.deref.ensures) s.ensures.order in
    let rising = subst IsRising whole c.requires.rising in
    let count = length-append l (x ∷ r) in
    (omega (arith, ap length whole), IsRising-left l (x ∷ r) rising)

pub returns-then-is_after : goal.returns-then-is_after
returns-then-is_after t c =
    let s = c.sides in
    let l = in_order_behind s.result.0.now in
    let r = in_order_behind s.result.1.now in
    let x = task_of c.in-Some.node.value in
    let whole : in_order_behind c.args.link.now ≡ l ++ x ∷ r = rw (c.in-Some.is, ← c.deref.ensures) s.ensures.order in
    let rising = subst IsRising whole c.requires.rising in
    let after : comes_after c.args.v c.args.id x ≡ true = cc in
    rw whole (Finds-left c.args.v c.args.id l x r _ rising after c.get_at.ensures)

pub get_at-requires-2 : goal.get_at-requires-2
get_at-requires-2 t c =
    let s = c.sides in
    let l = in_order_behind s.result.0.now in
    let r = in_order_behind s.result.1.now in
    let x = task_of c.in-Some.node.value in
    let whole : in_order_behind c.args.link.now ≡ l ++ x ∷ r = rw (c.in-Some.is, ← c.deref.ensures) s.ensures.order in
    let rising = subst IsRising whole c.requires.rising in
    let count = length-append l (x ∷ r) in
    (omega (arith, ap length whole), (IsRising-right l (x ∷ r) rising).1)

pub returns : goal.returns
returns t c =
    let s = c.sides in
    let l = in_order_behind s.result.0.now in
    let r = in_order_behind s.result.1.now in
    let x = task_of c.in-Some.node.value in
    let whole : in_order_behind c.args.link.now ≡ l ++ x ∷ r = rw (c.in-Some.is, ← c.deref.ensures) s.ensures.order in
    let rising = subst IsRising whole c.requires.rising in
    let after : comes_after c.args.v c.args.id x ≡ false = cc in
    let other : is_task_at c.args.v c.args.id x ≡ false = cc in
    rw whole (Finds-right c.args.v c.args.id l x r _ rising after other c.get_at-2.ensures)
