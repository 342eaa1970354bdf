use Rattle.bq_explain.specs.Makers.{AreOnTrail}
use Rattle.bq_explain.proofs.makers.find_makers_on_trail.Given as goal

abbrev pub invariant-loop-at : goal.invariant-loop-at
invariant-loop-at l = AreOnTrail l.walk.slots.now l.slot l.asked l.trail.items
