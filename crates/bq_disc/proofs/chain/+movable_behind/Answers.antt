use Rattle.std.proofs.Common.{◌≡◌, [], ◌∷◌, length, ap, arith}
use Rattle.bq_disc.specs.Chains.{task_of, chain_behind}
use Rattle.bq_disc.proofs.MovableLemmas.{Adds-append, few_movable}
use Rattle.bq_disc.proofs.chain.+movable_behind.Goals as goal

pub movable_behind-requires : goal.movable_behind-requires
movable_behind-requires t c =
    let whole : chain_behind c.args.link.now ≡ task_of c.in-Some.node.value ∷ chain_behind c.behind.result.now =
    rw (c.in-Some.is, ← c.deref.ensures) c.behind.ensures in
    (omega (arith, ap length whole), (c.requires.processor, (omega (arith, ap length whole), c.requires.fits)))

pub add-requires-clause-few : goal.add-requires-clause-few
add-requires-clause-few t c =
    let whole : chain_behind c.args.link.now ≡ task_of c.in-Some.node.value ∷ chain_behind c.behind.result.now =
    rw (c.in-Some.is, ← c.deref.ensures) c.behind.ensures in
    omega (arith, ap length whole, few_movable c.args.processor (chain_behind c.behind.result.now), c.movable_behind.ensures.count)

pub returns : goal.returns
returns t c =
    let whole : chain_behind c.args.link.now ≡ task_of c.in-Some.node.value ∷ chain_behind c.behind.result.now =
    rw (c.in-Some.is, ← c.deref.ensures) c.behind.ensures in
    rw (whole, ← c.deref-2.ensures)
    (Adds-append c.args.processor (task_of c.deref-2.result.now ∷ []) (chain_behind c.behind.result.now) c.args.found.now
    c.movable_behind.new.found c.add.new.self c.movable_behind.ensures c.add.ensures)
