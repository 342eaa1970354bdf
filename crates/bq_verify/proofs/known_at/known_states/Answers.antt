use Rattle.bq_insn.proofs.LengthLemmas.{well_formed_in_range}
use Rattle.bq_verify.proofs.SlotLemmas.{some_slots, few_slots}
use Rattle.bq_verify.proofs.known_at.known_states.Goals as goal

pub known_in_slots-requires-clause-some : goal.known_in_slots-requires-clause-some
known_in_slots-requires-clause-some c = some_slots c.args.program.now.insns.items c.requires

pub known_in_slots-requires-clause-short : goal.known_in_slots-requires-clause-short
known_in_slots-requires-clause-short c = few_slots c.args.program.now.insns.items c.requires

pub known_in_slots-requires-clause-registers : goal.known_in_slots-requires-clause-registers
known_in_slots-requires-clause-registers c = well_formed_in_range c.args.program.now.insns.items c.requires
