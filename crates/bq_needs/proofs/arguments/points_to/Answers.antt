use Rattle.std.proofs.Common.{◌≡◌, Some, refl, sym, ◌∙◌}
use Rattle.bq_needs.specs.Operands.{known_in}
use Rattle.bq_needs.proofs.arguments.points_to.Goals as goal

pub returns-in-None : goal.returns-in-None
returns-in-None c =
    let known : known_in c.args.state.now c.args.register ≡ Some c.in-Some.pointer = sym c.known.ensures ∙ c.in-Some.is in
    ((λ _. (c.in-Some.pointer, known, c.in-None.ensures)), (λ _. refl))
