use Rattle.std.proofs.Common.{◌≡◌}
use Rattle.bq_disc.specs.Tasks.{find_task}
use Rattle.bq_disc.specs.Chains.{chain_behind}
use Rattle.bq_disc.proofs.chain.get_behind.Given as goal

abbrev pub invariant-loop-link : goal.invariant-loop-link
invariant-loop-link l = find_task l.id (chain_behind l.link) ≡ find_task l.id (chain_behind l.fn.link)
