use Rattle.std.proofs.Common.{arith}
use Rattle.bq_timeline.proofs.TaskLemmas.{range_on}
use Rattle.bq_timeline.proofs.task_list.push_range.Goals as goal

pub loop-next-preserved : goal.loop-next-preserved
loop-next-preserved c = record {
  so_far =
      range_on _ c.loop-next.tasks.items c.push.new.self.items c.loop-next.next c.args.last c.loop-next-test.true
      c.loop-next.invariant.so_far c.in_ok-push.ensures.items;
  within = omega (arith, c.loop-next-test.true);
}
