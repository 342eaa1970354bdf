use Rattle.std.proofs.Common.{List, Option, subst, ◌∙◌}
use Rattle.std.specs.Prelude.{IfErr}
use Rattle.bq_insn.specs.declared.Insn.{Insn}
use Rattle.bq_import.specs.Faults.{IsDisorder}
use Rattle.bq_import.proofs.order.order.Goals as goal

pub returns-clause-disorder : goal.returns-clause-disorder
returns-clause-disorder c =
    subst (λ (s : List (Option Insn)). IfErr c.order_slots.result (IsDisorder s))
    (c.as_slice.ensures.value ∙ c.in_ok-slots.ensures) c.order_slots.ensures.disorder
