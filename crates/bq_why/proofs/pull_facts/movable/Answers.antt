use Rattle.std.proofs.Common.{drop, length-drop, arith}
use Rattle.bq_disc.proofs.MovableLemmas.{few_movable}
use Rattle.bq_why.proofs.pull_facts.movable.Goals as goal

pub add-requires-clause-few : goal.add-requires-clause-few
add-requires-clause-few c =
    let rest = drop c.loop-at.at c.args.queue.now in
    omega (
      arith,
      c.loop-at.invariant.adds.count,
      few_movable c.args.processor rest,
      length-drop c.loop-at.at c.args.queue.now,
      c.new-found.ensures.count,
      c.requires.few,
    )
