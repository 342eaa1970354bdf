use Rattle.std.proofs.Common.{◌≡◌, ◌++◌, length}
use Rattle.std.specs.Prelude.{string_bytes}
use Rattle.bq_trace.specs.Texts.{spaced_entities}
use Rattle.bq_trace.proofs.QueueWalkLemmas.{rest_after}
use Rattle.bq_trace.proofs.processor_line.write_queue.Given as goal

-- what is written and what is still to come are the whole
abbrev pub invariant-loop-node : goal.invariant-loop-node
invariant-loop-node g l =
    string_bytes l.text ++ spaced_entities (rest_after l.last l.cpu.running.queue)
    ≡ string_bytes l.initial.text ++ spaced_entities l.cpu.running.queue

abbrev pub decreases-loop-node : goal.decreases-loop-node
decreases-loop-node g l = length (rest_after l.last l.cpu.running.queue)
