use Rattle.std.proofs.Common.{◌≡◌, ◌-◌, length, take, drop, ap, ◌∙◌, arith}
use Rattle.std.proofs.lemmas.Grind.{common_steps}
use Rattle.byteorder.specs.Endian.{little_number}
use Rattle.bq_insn.proofs.SlotLemmas.{read_back}
use Rattle.bq_insn.proofs.slot.Slot.read.Goals as goal

pub returns-clause-bytes : goal.returns-clause-bytes
returns-clause-bytes c =
    let bytes = c.args.bytes.now in
    let from2 : take (length bytes - 2) (drop 2 bytes) ≡ drop 2 bytes = grind (arith, common_steps) in
    let from4 : take (length bytes - 4) (drop 4 bytes) ≡ drop 4 bytes = grind (arith, common_steps) in
    read_back bytes c.read_u16.result c.read_u32.result c.requires c.type_inv.bytes
    (c.read_u16.ensures ∙ ap (little_number 2) from2) (c.read_u32.ensures ∙ ap (little_number 4) from4)
