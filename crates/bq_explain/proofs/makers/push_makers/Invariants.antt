use Rattle.std.proofs.Common.{◌⊎◌}
use Rattle.std.specs.Prelude.{Contains}
use Rattle.bq_explain.specs.Makers.{MakesAsked}
use Rattle.bq_explain.specs.declared.makers.Maker.{Maker}
use Rattle.bq_explain.proofs.makers.push_makers.Given as goal

abbrev pub invariant-loop-register : goal.invariant-loop-register
invariant-loop-register l =
    (maker : Maker) → Contains l.trail.items maker →
    Contains l.initial.trail.items maker ⊎ MakesAsked l.walk.slots.now l.slot l.asked maker
