use Rattle.std.proofs.Common.{◌≡◌, ◌≤◌}
use Rattle.bq_drawing.specs.Holdings.{HoldsRunners}
use Rattle.bq_drawing.proofs.svg.Svg.hold_runners.Given as goal

-- the runs that go on at the processors before this one
abbrev pub invariant-loop-number : goal.invariant-loop-number
invariant-loop-number l = record {
  within : l.number ≤ 64;
  runs : HoldsRunners l.fn.self.window l.schedule l.number l.fn.self.drawing l.self.drawing;
  same : l.self ≡ record l.fn.self { drawing = l.self.drawing };
}
