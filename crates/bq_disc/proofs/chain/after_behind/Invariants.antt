use Rattle.std.proofs.Common.{◌≡◌, find}
use Rattle.bq_disc.specs.Queues.{comes_after}
use Rattle.bq_disc.specs.Chains.{chain_behind}
use Rattle.bq_disc.proofs.chain.after_behind.Given as goal

abbrev pub invariant-loop-link : goal.invariant-loop-link
invariant-loop-link l = find (comes_after l.v l.id) (chain_behind l.link) ≡ find (comes_after l.v l.id) (chain_behind l.fn.link)
