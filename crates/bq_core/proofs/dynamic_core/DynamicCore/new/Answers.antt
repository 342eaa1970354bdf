use Rattle.std.proofs.Common.{sym, subst}
use Rattle.bq_parts.specs.World.{World}
use Rattle.bq_parts.specs.Orderly.{IsOrderly}
use Rattle.bq_core.proofs.OrderLemmas.{opening_is_orderly}
use Rattle.bq_core.proofs.dynamic_core.DynamicCore.new.Goals as goal

pub invariant_of-result : goal.invariant_of-result
invariant_of-result g c = subst (λ (w : World). IsOrderly w) (sym c.in_ok-parts.ensures) (opening_is_orderly c.args.count)

pub returns-clause-orderly : goal.returns-clause-orderly
returns-clause-orderly g c = subst (λ (w : World). IsOrderly w) (sym c.in_ok-parts.ensures) (opening_is_orderly c.args.count)
