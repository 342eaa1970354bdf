use Rattle.std.proofs.Common.{List, reverse, ap, sym, ◌∙◌}
use Rattle.bq_insn.specs.declared.Insn.{Insn}
use Rattle.bq_import.proofs.TurningLemmas.{begun, begun_reversed}
use Rattle.bq_import.proofs.order.turned.Goals as goal

pub returns-clause-insns : goal.returns-clause-insns
returns-clause-insns c =
    c.reverse.ensures.items
    ∙ ap (λ (insns : List Insn). reverse insns) (c.in_ok-insns.ensures ∙ ap begun c.as_slice.ensures.value)
    ∙ sym (begun_reversed c.args.copy.now.slots.items)
