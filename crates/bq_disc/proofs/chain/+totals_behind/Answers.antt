use Rattle.std.proofs.Common.{◌≡◌, ◌∷◌, length, ap, arith}
use Rattle.bq_disc.specs.Chains.{task_of, chain_behind}
use Rattle.bq_disc.proofs.chain.+totals_behind.Goals as goal

pub totals_behind-totals-requires : goal.totals_behind-totals-requires
totals_behind-totals-requires t c =
    let whole : chain_behind c.args.chain.now ≡ task_of c.in-Some.node.value ∷ chain_behind c.behind.result.now =
    rw (c.in-Some.is, ← c.deref.ensures) c.behind.ensures in
    (omega (arith, ap length whole), omega (arith, ap length whole))
