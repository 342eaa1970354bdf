use Rattle.std.proofs.Common.{◌≡◌, vec_len}
use Rattle.bq_recording.specs.Queues.{AreFresh}
use Rattle.bq_recording.proofs.queues.empty_queues.Given as goal

abbrev pub invariant-queues : goal.invariant-queues
invariant-queues g l =
    (vec_len l.queues ≡ l.counter) × AreFresh g.Q.RunQueue.members g.Q.RunQueue.last_mark l.queues.items
