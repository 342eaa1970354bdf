use Rattle.std.proofs.Common.{length}
use Rattle.bq_disc.specs.Chains.{chain_behind}
use Rattle.bq_disc.proofs.chain.+movable_behind.Given as goal

abbrev pub decreases-movable_behind : goal.decreases-movable_behind
decreases-movable_behind l = length (chain_behind l.link.now)
