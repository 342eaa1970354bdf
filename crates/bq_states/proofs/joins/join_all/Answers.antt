use Rattle.std.proofs.Common.{◌<◌, length, arith}
use Rattle.std.proofs.lemmas.Grind.{common_steps}
use Rattle.bq_states.proofs.JoinLemmas.{stands_more, stands_all}
use Rattle.bq_states.proofs.joins.join_all.Goals as goal

pub loop-i-preserved : goal.loop-i-preserved
loop-i-preserved c =
    let in_other : c.loop-i.i < length c.args.other.now = omega arith in
    let in_into : c.loop-i.i < length c.loop-i.into = omega arith in
    record {
      left = grind (arith, common_steps);
      right = grind (arith, common_steps);
      stands = λ s.
          stands_more s c.args.into.now c.loop-i.into c.args.other.now c.loop-i.i c.join.result
          c.index-into-i.result c.index-other-i.result in_into in_other c.index-into-i.is c.index-other-i.is
          (c.loop-i.invariant.rest c.loop-i.i (omega arith)) (c.join.ensures.stands s) (c.loop-i.invariant.stands s);
      rest = grind (arith, common_steps);
    }

pub returns-clause-stands : goal.returns-clause-stands
returns-clause-stands c = λ s.
    stands_all s c.args.into.now c.loop-i.into c.args.other.now c.loop-i.i c.loop-i.invariant.rest (c.loop-i.invariant.stands s)
