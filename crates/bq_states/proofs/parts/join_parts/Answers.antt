use Rattle.std.proofs.Common.{◌<◌, length, arith, sym, ◌∙◌}
use Rattle.std.proofs.lemmas.Grind.{common_steps}
use Rattle.bq_states.specs.Parts.{AllowsPart}
use Rattle.bq_states.proofs.PartLemmas.{allows_none, part_read, related_all, related_more}
use Rattle.bq_states.proofs.parts.join_parts.Goals as goal

pub loop-i-preserved : goal.loop-i-preserved
loop-i-preserved c =
    let in_other : c.loop-i.i < length c.args.other.now = omega arith in
    let in_into : c.loop-i.i < length c.loop-i.into = omega arith in
    record {
      left =
          related_more AllowsPart c.args.into.now c.loop-i.into c.loop-i.i c.join_part.result c.index-into-i.result in_into
          (sym (c.loop-i.invariant.rest c.loop-i.i (omega arith))
          ∙ part_read c.loop-i.into c.loop-i.i c.index-into-i.result in_into c.index-into-i.is)
          c.join_part.ensures.left c.loop-i.invariant.left;
      right =
          related_more AllowsPart c.args.other.now c.loop-i.into c.loop-i.i c.join_part.result c.index-other-i.result in_into
          (part_read c.args.other.now c.loop-i.i c.index-other-i.result in_other c.index-other-i.is)
          c.join_part.ensures.right c.loop-i.invariant.right;
      rest = grind (arith, common_steps);
    }

pub returns-clause-left : goal.returns-clause-left
returns-clause-left c =
    related_all AllowsPart c.args.into.now c.loop-i.into c.loop-i.i allows_none (omega arith) (omega arith)
    c.loop-i.invariant.left

pub returns-clause-right : goal.returns-clause-right
returns-clause-right c =
    related_all AllowsPart c.args.other.now c.loop-i.into c.loop-i.i allows_none (omega arith) (omega arith)
    c.loop-i.invariant.right
