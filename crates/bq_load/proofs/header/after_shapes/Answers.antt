use Rattle.std.proofs.Common.{arith}
use Rattle.std.proofs.lemmas.Result.{err_from_is_err_and}
use Rattle.bq_load.proofs.ReadingLemmas.{shape_length, shapes_on, shapes_fail, shapes_end}
use Rattle.bq_load.proofs.header.after_shapes.Goals as goal

pub returns-in_err-after-clause-read : goal.returns-in_err-after-clause-read
returns-in_err-after-clause-read c =
    let p = err_from_is_err_and c.from_residual.result c.from_residual.ensures.1 in
    rw (p.1, p.2) (shapes_fail c.args.count c.loop.counter c.loop.rest.now c.args.bytes.now c.in_err-after.field-0.0
    c.loop-test.true c.in_err-after.ensures.read c.loop.invariant.same)

pub loop-preserved : goal.loop-preserved
loop-preserved c = record {
  same =
      shapes_on c.args.count c.loop.counter c.loop.rest.now c.in_ok-after.after.now c.args.bytes.now c.loop-test.true
      c.in_ok-after.ensures.read c.loop.invariant.same;
  length = omega (arith, shape_length c.loop.rest.now c.in_ok-after.after.now c.in_ok-after.ensures.read, c.loop.invariant.length);
}

pub returns-clause-read : goal.returns-clause-read
returns-clause-read c = shapes_end c.args.count c.loop.counter c.loop.rest.now c.args.bytes.now c.loop-test.false c.loop.invariant.same
