use Rattle.std.proofs.Common.{◌∙◌}
use Rattle.bq_parts.specs.Choices.{by_programs}
use Rattle.bq_parts.specs.Steps.{ThroughAll}
use Rattle.bq_core.proofs.SizeLemmas.{outcome_count}
use Rattle.bq_core.proofs.sized_core.Core.run.Goals as goal

pub invariant_of-self : goal.invariant_of-self
invariant_of-self g c =
    outcome_count (by_programs g.Q.R.Discipline.discipline) c.self.inside.world c.run.new.self c.args.events.items
    (λ calls. ThroughAll g.B.Board.leads c.args.board.now calls c.run.new.board) c.run.result
    c.run.ensures.ok c.run.ensures.err
    ∙ c.self.invariant
