use Rattle.bq_explain.specs.Explained.{AreOf}
use Rattle.bq_explain.proofs.trail.locate_makers.Given as goal

abbrev pub invariant-loop-maker : goal.invariant-loop-maker
invariant-loop-maker l = AreOf l.walk.slots.now l.makers l.made.items
