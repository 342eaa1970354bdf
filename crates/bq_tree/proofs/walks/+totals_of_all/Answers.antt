use Rattle.std.proofs.Common.{◌≡◌, ◌∷◌, ◌++◌, length, length-append, ap, sym, ◌∙◌, arith}
use Rattle.bq_disc.specs.Chains.{task_of}
use Rattle.bq_disc.specs.Totals.{sums_of, added, joined}
use Rattle.bq_tree.specs.Trees.{in_order_behind}
use Rattle.bq_tree.proofs.TotalsLemmas.{sums_of-append}
use Rattle.bq_tree.proofs.walks.+totals_of_all.Goals as goal

pub totals_of_all-rest-requires : goal.totals_of_all-rest-requires
totals_of_all-rest-requires t c =
    let s = c.sides in
    let l = in_order_behind s.result.0.now in
    let r = in_order_behind s.result.1.now in
    let x = task_of c.in-Some.node.value in
    let whole : in_order_behind c.args.link.now ≡ l ++ x ∷ r = rw (c.in-Some.is, ← c.deref.ensures) s.ensures.order in
    let count = length-append l (x ∷ r) in
    (omega (arith, ap length whole), omega (arith, ap length whole, c.requires))

pub totals_of_all-requires : goal.totals_of_all-requires
totals_of_all-requires t c =
    let s = c.sides in
    let l = in_order_behind s.result.0.now in
    let r = in_order_behind s.result.1.now in
    let x = task_of c.in-Some.node.value in
    let whole : in_order_behind c.args.link.now ≡ l ++ x ∷ r = rw (c.in-Some.is, ← c.deref.ensures) s.ensures.order in
    let count = length-append l (x ∷ r) in
    (omega (arith, ap length whole), omega (arith, ap length whole, c.requires))

pub returns-clause-sums : goal.returns-clause-sums
returns-clause-sums t c =
    let s = c.sides in
    let l = in_order_behind s.result.0.now in
    let r = in_order_behind s.result.1.now in
    let x = task_of c.in-Some.node.value in
    let whole : in_order_behind c.args.link.now ≡ l ++ x ∷ r = rw (c.in-Some.is, ← c.deref.ensures) s.ensures.order in
    let rest =
    c.add.ensures.sums ∙ ap (λ m. added c.totals_of_all-rest.result (task_of m)) c.deref-2.ensures
    ∙ ap (λ q. added q x) c.totals_of_all-rest.ensures.sums in
    let both = c.join.ensures.sums ∙ ap (λ q. joined q c.add.new.self) c.totals_of_all.ensures.sums ∙ ap (λ q. joined (sums_of l) q) rest in
    rw whole (both ∙ sym (sums_of-append l (x ∷ r)))
