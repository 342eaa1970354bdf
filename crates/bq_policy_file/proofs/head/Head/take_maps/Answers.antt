use Rattle.std.proofs.Common.{rules, ◌≡◌, refl}
use Rattle.std.specs.Prelude.{None}
use Rattle.bq_policy_file.specs.ShapesText.{NamesShapes}
use Rattle.bq_policy_file.proofs.head.Head.take_maps.Goals as goal

pub returns-clause-ok : goal.returns-clause-ok
returns-clause-ok c =
    let none : c.args.self.now.maps ≡ None = search rules in
    let names : NamesShapes c.args.value.now c.in-Some.shapes.items = search rules in
    (c.in-Some.shapes, none, names, refl, refl, refl)
