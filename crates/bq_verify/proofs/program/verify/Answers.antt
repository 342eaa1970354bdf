use Rattle.bq_insn.proofs.LengthLemmas.{well_formed_in_range}
use Rattle.bq_verify.proofs.SlotLemmas.{some_slots, few_slots}
use Rattle.bq_verify.proofs.program.verify.Goals as goal

pub verify_slots-requires-clause-some : goal.verify_slots-requires-clause-some
verify_slots-requires-clause-some c = some_slots c.args.program.insns.items c.requires

pub verify_slots-requires-clause-short : goal.verify_slots-requires-clause-short
verify_slots-requires-clause-short c = few_slots c.args.program.insns.items c.requires

pub verify_slots-requires-clause-registers : goal.verify_slots-requires-clause-registers
verify_slots-requires-clause-registers c = well_formed_in_range c.args.program.insns.items c.requires
