use Rattle.bq_parts.specs.Choices.{by_programs}
use Rattle.bq_core.proofs.OrderLemmas.{step_keeps}
use Rattle.bq_core.proofs.dynamic_core.DynamicCore.step.Goals as goal

pub invariant_of-self : goal.invariant_of-self
invariant_of-self g c =
    step_keeps (by_programs g.Q.R.Discipline.discipline) c.self.inside.parts c.args.event c.step.new.scratch c.step.result
    c.step.new.self c.step.ensures.step c.self.invariant

pub returns-clause-orderly : goal.returns-clause-orderly
returns-clause-orderly g c =
    step_keeps (by_programs g.Q.R.Discipline.discipline) c.self.inside.parts c.args.event c.step.new.scratch c.step.result
    c.step.new.self c.step.ensures.step c.self.invariant
