use Rattle.std.proofs.Common.{◌<◌, None, length, get_or, arith, refl, sym}
use Rattle.std.proofs.lemmas.Grind.{common_steps}
use Rattle.bq_states.proofs.PartLemmas.{related_all, related_more}
use Rattle.bq_states.proofs.RelationLemmas.{AllowsRelation, allows_no_relation}
use Rattle.bq_states.proofs.relations.keep_related.Goals as goal

pub loop-i-preserved : goal.loop-i-preserved
loop-i-preserved c =
    let inside : c.loop-i.i < length c.loop-i.into = omega arith in
    record {
      left =
          related_more AllowsRelation c.args.into.now c.loop-i.into c.loop-i.i c.same.result (get_or c.loop-i.into c.loop-i.i None) inside
          (sym (c.loop-i.invariant.rest c.loop-i.i (omega arith))) (record { has = c.same.ensures.left }) c.loop-i.invariant.left;
      right =
          related_more AllowsRelation c.args.other.now c.loop-i.into c.loop-i.i c.same.result
          (get_or c.args.other.now c.loop-i.i None) inside refl (record { has = c.same.ensures.right })
          c.loop-i.invariant.right;
      rest = grind (arith, common_steps);
    }

pub returns-clause-left : goal.returns-clause-left
returns-clause-left c = λ word all k.
    (related_all AllowsRelation c.args.into.now c.loop-i.into c.loop-i.i allows_no_relation (omega arith)
    (omega arith) c.loop-i.invariant.left k).has word (all k)

pub returns-clause-right : goal.returns-clause-right
returns-clause-right c = λ word all k.
    (related_all AllowsRelation c.args.other.now c.loop-i.into c.loop-i.i allows_no_relation (omega arith)
    (omega arith) c.loop-i.invariant.right k).has word (all k)
