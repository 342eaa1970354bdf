use Rattle.std.proofs.Common.{arith, ◌∙◌, sym}
use Rattle.bq_workload.proofs.DigitLemmas.{fraction-step, fraction-end, room-step}
use Rattle.bq_workload.proofs.exponential.fraction.Goals as goal

pub digits-preserved : goal.digits-preserved
digits-preserved c = record {
  same = fraction-step _ _ _ _ _ (omega arith) c.squared-digit.ensures.digit c.squared-digit.ensures.rest ∙ c.digits.invariant.same;
  low = c.squared-digit.ensures.low;
  room = room-step _ _ _ (omega arith) c.squared-digit.ensures.small c.digits.invariant.room;
}

pub returns-clause-value : goal.returns-clause-value
returns-clause-value c = sym (fraction-end _ _ _ (omega arith)) ∙ c.digits.invariant.same
