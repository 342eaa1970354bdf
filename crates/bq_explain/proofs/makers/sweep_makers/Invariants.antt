use Rattle.std.proofs.Common.{◌-◌}
use Rattle.bq_explain.proofs.MakerLemmas.{IsSwept}
use Rattle.bq_explain.proofs.makers.sweep_makers.Given as goal

abbrev pub invariant-loop-done : goal.invariant-loop-done
invariant-loop-done l = IsSwept l.slots l.register l.slot (l.slot - l.done) l.leading l.makers.items
