use Rattle.std.proofs.Common.{arith, sym, ◌∙◌}
use Rattle.bq_import.proofs.AddressLemmas.{first_address, slot_small}
use Rattle.bq_import.proofs.section.address_in.Goals as goal

pub returns-then-is_address-clause-some : goal.returns-then-is_address-clause-some
returns-then-is_address-clause-some c =
    first_address c.args.insns.now c.loop-insn.insn-index c.loop-insn.slot _ c.loop-insn-test.true
    c.loop-insn.invariant.counted c.loop-insn.invariant.none (sym c.is_address.ensures ∙ c.if-is_address.true)

pub overflow_add-slot : goal.overflow_add-slot
overflow_add-slot c =
    let small =
    slot_small c.args.insns.now c.loop-insn.insn-index c.loop-insn.slot _ _ c.requires c.loop-insn.invariant.counted
    c.slots-slot.ensures in
    omega (arith, small)
