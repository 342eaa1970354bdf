use Rattle.bq_verify.specs.declared.targets.Targets.{Targets}
use Rattle.bq_import.proofs.SearchLemmas.{are_targets}
use Rattle.bq_import.proofs.linked.find_targets.Goals as goal

pub returns : goal.returns
returns c =
    let targets : Targets = record { next = c.next_slot.result; jump = c.jump_slot.result } in
    are_targets c.args.slots.now c.args.slot c.args.insn c.requires.here c.requires.linked targets c.next_slot.ensures
    c.jump_slot.ensures.some c.jump_slot.ensures.none
