use Rattle.std.proofs.Common.{◌≡◌, ◌⊎◌}
use Rattle.std.specs.Prelude.{Contains}
use Rattle.bq_explain.specs.declared.makers.Maker.{Maker}
use Rattle.bq_explain.proofs.makers.push_named.Given as goal

abbrev pub invariant-loop-slot : goal.invariant-loop-slot
invariant-loop-slot l =
    (maker : Maker) → Contains l.trail.items maker →
    Contains l.initial.trail.items maker ⊎ ((maker.register ≡ l.register) × Contains l.made maker.slot)
