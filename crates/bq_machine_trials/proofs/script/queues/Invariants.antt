use Rattle.std.proofs.Common.{◌≡◌, [], vec_len}
use Rattle.std.specs.List.{All}
use Rattle.bq_disc.specs.declared.limits.TheConstants.{FIRST_MARK}
use Rattle.bq_machine_trials.proofs.script.queues.Given as goal

abbrev pub invariant-queues : goal.invariant-queues
invariant-queues l = (vec_len l.queues ≡ l.counter) × All (λ q. (q.queue.members ≡ []) × (q.queue.mark ≡ FIRST_MARK)) l.queues.items
