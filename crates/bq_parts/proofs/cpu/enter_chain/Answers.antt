use Rattle.std.proofs.Common.{◌∙◌, arith}
use Rattle.bq_disc.specs.Chains.{task_of}
use Rattle.bq_parts.proofs.CountLemmas.{find_task-absent, one_self, count_of-inserted}
use Rattle.bq_parts.proofs.cpu.enter_chain.Goals as goal

pub insert-requires-clause-fresh : goal.insert-requires-clause-fresh
insert-requires-clause-fresh g c =
    let t = task_of c.in-Some.node.value in
    let new = rw c.deref_mut.ensures.value at c.enter.ensures.task in
    let apart = rw c.in-Some.ensures.tasks at (c.loop-node.invariant.apart t.id) in
    rw new (find_task-absent t.id _ (omega (arith, apart, one_self t)))

pub loop-node-preserved : goal.loop-node-preserved
loop-node-preserved g c =
    let new = rw c.deref_mut.ensures.value at c.enter.ensures.task in
    record {
      straight = c.in-Some.ensures.straight;
      same_mark = c.insert.ensures.mark ∙ c.loop-node.invariant.same_mark;
      goes_on =
          rw (c.insert.ensures.members, new, c.loop-node.invariant.same_mark)
          (rw c.in-Some.ensures.tasks at c.loop-node.invariant.goes_on);
      apart = λ id.
          rw (c.insert.ensures.members, new, count_of-inserted)
          (omega (arith, rw c.in-Some.ensures.tasks at (c.loop-node.invariant.apart id)));
    }
