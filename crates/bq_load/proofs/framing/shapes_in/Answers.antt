use Rattle.std.proofs.Common.{◌<◌, length, arith}
use Rattle.std.proofs.lemmas.Bool.Decides.{nat_tests}
use Rattle.bq_load.proofs.ShapesLemmas.{shape_read, shape_not_refused, shapes_more}
use Rattle.bq_load.proofs.framing.shapes_in.Goals as goal

pub returns-in_err-first-clause-err : goal.returns-in_err-first-clause-err
returns-in_err-first-clause-err c =
    let some : 0 < length c.loop-rest.rest.now = grind (arith, nat_tests) in
    absurd (shape_not_refused c.loop-rest.rest.now c.in_err-first.field-0.0 some c.loop-rest.invariant.left c.in_err-first.ensures.read)

pub loop-rest-preserved : goal.loop-rest-preserved
loop-rest-preserved c =
    let some : 0 < length c.loop-rest.rest.now = grind (arith, nat_tests) in
    record {
      left = shape_read c.loop-rest.rest.now c.in_ok-first.after.now some c.loop-rest.invariant.left c.in_ok-first.ensures.read;
      so_far =
          rw c.in_ok-push.ensures.items (shapes_more c.args.bytes.now c.loop-rest.rest.now c.in_ok-first.after.now
          c.loop-rest.shapes.items c.in_ok-first.first c.loop-rest.invariant.so_far c.in_ok-first.ensures.spelled);
    }
