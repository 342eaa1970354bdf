use Rattle.std.proofs.Common.{◌++◌, ap}
use Rattle.std.specs.Prelude.{string_bytes}
use Rattle.bq_trace.specs.Texts.{spaced_entities}
use Rattle.bq_trace.proofs.QueueWalkLemmas.{rest_after-none}
use Rattle.bq_trace.proofs.ShowLemmas.{writes_next, fewer_to_come, writes_all}
use Rattle.bq_trace.proofs.processor_line.write_queue.Goals as goal

pub loop-node-init : goal.loop-node-init
loop-node-init g c = ap (λ l. string_bytes c.args.text.now ++ spaced_entities l) (rest_after-none c.args.cpu.now.running.queue)

pub loop-node-smaller : goal.loop-node-smaller
loop-node-smaller g c =
    fewer_to_come c.loop-node.last c.args.cpu.now.running.queue _ c.v.result c.id.result c.v.ensures.value c.id.ensures
    c.in-Some.ensures.rising c.in-Some.ensures.distinct c.in-Some.ensures.task

pub loop-node-preserved : goal.loop-node-preserved
loop-node-preserved g c =
    writes_next (string_bytes c.loop-node.text) (string_bytes c.write_entity.new.text) _ c.loop-node.last
    c.args.cpu.now.running.queue _ c.v.result c.id.result c.v.ensures.value c.id.ensures c.in-Some.ensures.rising
    c.in-Some.ensures.distinct c.in-Some.ensures.task c.in_ok-write_entity.ensures c.loop-node.invariant

pub returns : goal.returns
returns g c =
    writes_all (string_bytes c.loop-node.text) _ c.loop-node.last c.args.cpu.now.running.queue c.in_default.ensures.task
    c.loop-node.invariant
