use Rattle.std.proofs.Common.{rules, arith}
use Rattle.std.proofs.lemmas.Grind.{common_steps}
use Rattle.bq_streams.proofs.WritingLemmas.{Leaves-none, Leaves-more}
use Rattle.bq_streams.proofs.counted.Counted.write_text.Goals as goal

pub loop-rest-init : goal.loop-rest-init
loop-rest-init g c = record { calls = omega arith; kept = search rules; left = Leaves-none _ _ }

pub loop-rest-preserved : goal.loop-rest-preserved
loop-rest-preserved g c = record {
  calls = omega arith;
  kept = search rules;
  left = Leaves-more _ _ _ _ _ _ _ c.loop-rest.invariant.left (c.in_ok-taken.ensures.taken.2) (grind (arith, common_steps));
}

pub returns-in_err-taken-clause-calls : goal.returns-in_err-taken-clause-calls
returns-in_err-taken-clause-calls g c = omega arith
