use Rattle.std.proofs.Common.{subst}
use Rattle.bq_parts.specs.Choices.{by_programs}
use Rattle.bq_parts.specs.Orderly.{IsOrderly}
use Rattle.bq_core.proofs.OrderLemmas.{run_keeps}
use Rattle.bq_core.proofs.dynamic_core.DynamicCore.run.Goals as goal

pub returns-in_default-clause-throughout : goal.returns-in_default-clause-throughout
returns-in_default-clause-throughout g c =
    run_keeps (by_programs g.Q.R.Discipline.discipline) c.args.self.now c.args.events.items
    (subst IsOrderly c.self.view_is c.self.invariant)

pub returns-clause-throughout : goal.returns-clause-throughout
returns-clause-throughout g c =
    run_keeps (by_programs g.Q.R.Discipline.discipline) c.args.self.now c.args.events.items
    (subst IsOrderly c.self.view_is c.self.invariant)
