use Rattle.std.proofs.Common.{◌≡◌, ◌++◌, ◌∷◌, [], ℕ, length, refl, ap, ◌∙◌, arith}
use Rattle.bq_simulate.proofs.DeedLemmas.{GoesOnUnreported-begins}
use Rattle.bq_simulate.proofs.simulation.Simulation.begin_kind.Goals as goal

pub returns-in-Ok-clause-goes_on : goal.returns-in-Ok-clause-goes_on
returns-in-Ok-clause-goes_on c =
    let was = c.args.self.now in
    let long : length was.firsts.items ≡ c.args.number = grind (arith, c.len.ensures, c.if-len-number.false) in
    λ kinds streams.
    GoesOnUnreported-begins kinds _ _ c.args.number long refl refl refl refl
    (c.in-Ok.ensures.items ∙ ap (λ (n : ℕ). was.firsts.items ++ n ∷ []) (c.in_ok-first.ensures.tasks ∙ streams))
