use Rattle.std.proofs.Common.{arith}
use Rattle.bq_policy_file.specs.ShapesText.{parts_after}
use Rattle.bq_policy_file.proofs.NamedShapesLemmas.{no_shape_next, too_many}
use Rattle.bq_policy_file.proofs.shapes_text.shapes_of.Goals as goal

pub returns-in_default : goal.returns-in_default
returns-in_default c =
    no_shape_next c.args.text.now c.loop.rest.now c.cut.result.0.now c.loop.shapes.items (parts_after 44 c.cut.result.1)
    c.loop.invariant.so_far c.cut.ensures c.in_default.ensures.none

pub returns : goal.returns
returns c = too_many c.args.text.now c.loop.rest.now c.loop.shapes.items c.loop.invariant.so_far (omega arith)
