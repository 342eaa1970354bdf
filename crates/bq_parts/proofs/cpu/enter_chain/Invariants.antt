use Rattle.std.proofs.Common.{◌≡◌, ℕ, ◌+◌, ◌≤◌, length}
use Rattle.bq_disc.specs.Chains.{chain_behind, IsStraightBehind}
use Rattle.bq_disc.specs.OneProcessor.{entered}
use Rattle.bq_parts.specs.Processors.{count_of_id}
use Rattle.bq_parts.proofs.cpu.enter_chain.Given as goal

abbrev pub invariant-loop-node : goal.invariant-loop-node
invariant-loop-node g l =
    let members = g.Q.RunQueue.members in
    let mark = g.Q.RunQueue.last_mark in
    let d = g.Q.R.Discipline.discipline in
    record {
      straight : IsStraightBehind l.rest;
      same_mark : mark l.queue ≡ mark l.fn.queue;
      goes_on : entered d (mark l.fn.queue) (members l.queue) (chain_behind l.rest)
          ≡ entered d (mark l.fn.queue) (members l.fn.queue) (chain_behind l.fn.tasks);
      apart : (id : ℕ) → count_of_id id (members l.queue) + count_of_id id (chain_behind l.rest) ≤ 1;
    }

abbrev pub decreases-loop-node : goal.decreases-loop-node
decreases-loop-node g l = length (chain_behind l.rest)
