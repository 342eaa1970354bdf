use Rattle.std.proofs.Common.{◌<◌, length, arith, sym, ◌∙◌}
use Rattle.std.proofs.lemmas.Grind.{common_steps}
use Rattle.bq_states.specs.Parts.{Outlives}
use Rattle.bq_states.proofs.PartLemmas.{outlives_none, part_read, related_all, related_more}
use Rattle.bq_states.proofs.parts.forget_parts.Goals as goal

pub loop-j-preserved : goal.loop-j-preserved
loop-j-preserved c =
    let inside : c.loop-j.j < length c.loop-j.parts = omega arith in
    record {
      done =
          related_more (Outlives c.args.from c.args.to) c.args.parts.now c.loop-j.parts c.loop-j.j
          c.apart.result c.index-parts-j.result inside
          (sym (c.loop-j.invariant.rest c.loop-j.j (omega arith))
          ∙ part_read c.loop-j.parts c.loop-j.j c.index-parts-j.result inside c.index-parts-j.is)
          c.apart.ensures c.loop-j.invariant.done;
      rest = grind (arith, common_steps);
    }

pub returns : goal.returns
returns c =
    related_all (Outlives c.args.from c.args.to) c.args.parts.now c.loop-j.parts c.loop-j.j
    (outlives_none c.args.from c.args.to) (omega arith) (omega arith) c.loop-j.invariant.done
