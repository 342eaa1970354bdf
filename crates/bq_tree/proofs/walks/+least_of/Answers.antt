use Rattle.std.proofs.Common.{◌≡◌, None, ◌∷◌, ◌++◌, length, length-append, ap, arith}
use Rattle.bq_disc.specs.Queues.{follows}
use Rattle.bq_disc.specs.Chains.{task_of}
use Rattle.bq_tree.specs.Trees.{in_order, in_order_behind}
use Rattle.bq_tree.proofs.WalkLemmas.{find-front}
use Rattle.bq_tree.proofs.walks.+least_of.Goals as goal

pub least_of-requires : goal.least_of-requires
least_of-requires t c =
    let s = c.sides in
    let l = in_order c.deref.result.now in
    let r = in_order_behind s.result.1.now in
    let x = task_of c.args.node.now in
    let order = rw c.in-Some.is at s.ensures.order in
    let whole : in_order c.args.node.now ≡ l ++ x ∷ r = rw c.deref.ensures order in
    let count = length-append l (x ∷ r) in
    (omega (arith, ap length whole), tt)

pub returns-in-Some : goal.returns-in-Some
returns-in-Some t c =
    let s = c.sides in
    let l = in_order c.deref.result.now in
    let r = in_order_behind s.result.1.now in
    let x = task_of c.args.node.now in
    let order = rw c.in-Some.is at s.ensures.order in
    let whole : in_order c.args.node.now ≡ l ++ x ∷ r = rw c.deref.ensures order in
    rw whole (find-front (follows None) l (x ∷ r) _ c.least_of.ensures)
