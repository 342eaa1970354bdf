use Rattle.std.proofs.Common.{arith}
use Rattle.bq_workload.proofs.TreeLemmas.{changed-leaf}
use Rattle.bq_workload.proofs.event_queue.EventQueue.set.Goals as goal

pub recompute-requires-clause-others : goal.recompute-requires-clause-others
recompute-requires-clause-others c = rw c.deref_mut.ensures.value (changed-leaf _ _ _ (omega arith) c.self.invariant.1)
