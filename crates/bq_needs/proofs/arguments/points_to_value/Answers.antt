use Rattle.std.proofs.Common.{◌≡◌, Some, rules}
use Rattle.std.specs.List.{slice_get}
use Rattle.bq_needs.proofs.NeedLemmas.{value_pointed, value_points}
use Rattle.bq_needs.proofs.arguments.points_to_value.Goals as goal

pub returns : goal.returns
returns c =
    let is : slice_get c.args.policy.now.form.shapes.items c.in-Some.map ≡ Some c.in-Some-shape_of.shape = search rules in (
      (λ points.
          value_pointed c.args.policy.now c.args.state.now c.in-Some.map c.in-Some-shape_of.shape c.from.result
          c.in-Some.ensures is c.from.ensures (c.points_to.ensures.0 points)),
      (λ points.
          c.points_to.ensures.1 (value_points c.args.policy.now c.args.state.now c.in-Some.map c.in-Some-shape_of.shape
          c.from.result c.in-Some.ensures is c.from.ensures points)),
    )
