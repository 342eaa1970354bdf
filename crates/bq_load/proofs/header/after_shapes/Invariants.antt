use Rattle.std.proofs.Common.{◌≡◌, ◌+◌, ◌-◌, ◌*◌, length}
use Rattle.bq_load.specs.Reading.{shapes_at}
use Rattle.bq_load.proofs.header.after_shapes.Given as goal

abbrev pub invariant-loop : goal.invariant-loop
invariant-loop l = record {
  same : shapes_at (l.count - l.counter) l.rest ≡ shapes_at l.count l.bytes;
  length : length l.rest + 4 * l.counter ≡ length l.bytes;
}
