use Rattle.std.proofs.Common.{◌≡◌, [], ◌∷◌, ◌++◌, length, length-append, ap, arith}
use Rattle.bq_disc.specs.Chains.{task_of}
use Rattle.bq_tree.specs.Trees.{in_order_behind}
use Rattle.bq_disc.proofs.MovableLemmas.{Adds-append, few_movable}
use Rattle.bq_tree.proofs.walks.+movable_into.Goals as goal

pub movable_into-requires : goal.movable_into-requires
movable_into-requires t c =
    let s = c.sides in
    let l = in_order_behind s.result.0.now in
    let r = in_order_behind s.result.1.now in
    let x = task_of c.in-Some.node.value in
    let whole : in_order_behind c.args.link.now ≡ l ++ x ∷ r = rw (c.in-Some.is, ← c.deref.ensures) s.ensures.order in
    let count = length-append l (x ∷ r) in
    (omega (arith, ap length whole), (c.requires.processor, (omega (arith, ap length whole), c.requires.fits)))

pub add-requires-clause-few : goal.add-requires-clause-few
add-requires-clause-few t c =
    let s = c.sides in
    let l = in_order_behind s.result.0.now in
    let r = in_order_behind s.result.1.now in
    let x = task_of c.in-Some.node.value in
    let whole : in_order_behind c.args.link.now ≡ l ++ x ∷ r = rw (c.in-Some.is, ← c.deref.ensures) s.ensures.order in
    let count = length-append l (x ∷ r) in
    omega (arith, ap length whole, few_movable c.args.processor r, c.movable_into.ensures.count)

pub movable_into-requires-2 : goal.movable_into-requires-2
movable_into-requires-2 t c =
    let s = c.sides in
    let l = in_order_behind s.result.0.now in
    let r = in_order_behind s.result.1.now in
    let x = task_of c.in-Some.node.value in
    let y = task_of c.deref-2.result.now in
    let whole : in_order_behind c.args.link.now ≡ l ++ x ∷ r = rw (c.in-Some.is, ← c.deref.ensures) s.ensures.order in
    let count = length-append l (x ∷ r) in (
      omega (arith, ap length whole),
      (
        c.requires.processor,
        (
          omega (
            arith,
            ap length whole,
            few_movable c.args.processor r,
            few_movable c.args.processor (y ∷ []),
            c.movable_into.ensures.count,
            c.add.ensures.count,
          ),
          c.add.ensures.fits,
        ),
      ),
    )

pub returns : goal.returns
returns t c =
    let s = c.sides in
    let l = in_order_behind s.result.0.now in
    let r = in_order_behind s.result.1.now in
    let x = task_of c.in-Some.node.value in
    let y = task_of c.deref-2.result.now in
    let whole : in_order_behind c.args.link.now ≡ l ++ x ∷ r = rw (c.in-Some.is, ← c.deref.ensures) s.ensures.order in
    let some =
    Adds-append c.args.processor (y ∷ []) r c.args.found.now c.movable_into.new.found c.add.new.self
    c.movable_into.ensures c.add.ensures in
    rw (whole, ← c.deref-2.ensures)
    (Adds-append c.args.processor l (y ∷ r) c.args.found.now c.add.new.self c.movable_into-2.new.found some c.movable_into-2.ensures)
