use Rattle.std.proofs.Common.{◌≡◌, ◌≤◌}
use Rattle.bq_drawing.specs.Holdings.{HoldsWaiting}
use Rattle.bq_drawing.proofs.svg.Svg.hold_waiting.Given as goal

-- the waits that go on of the tasks before this one
abbrev pub invariant-loop-id : goal.invariant-loop-id
invariant-loop-id l = record {
  within : l.id ≤ 1024;
  waits : HoldsWaiting l.fn.self.window l.schedule l.id l.fn.self.drawing l.self.drawing;
  same : l.self ≡ record l.fn.self { drawing = l.self.drawing };
}
