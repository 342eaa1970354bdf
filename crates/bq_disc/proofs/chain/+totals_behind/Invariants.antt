use Rattle.std.proofs.Common.{length}
use Rattle.bq_disc.specs.Chains.{chain_behind}
use Rattle.bq_disc.proofs.chain.+totals_behind.Given as goal

abbrev pub decreases-totals_behind : goal.decreases-totals_behind
decreases-totals_behind l = length (chain_behind l.chain.now)
