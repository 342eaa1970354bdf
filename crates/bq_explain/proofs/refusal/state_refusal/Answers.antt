use Rattle.std.proofs.Common.{List, Option, sym, subst}
use Rattle.bq_insn.specs.declared.Insn.{Insn}
use Rattle.bq_verify.specs.Faults.{IsFaultless}
use Rattle.bq_verify.proofs.SlotLemmas.{few_slots}
use Rattle.bq_verify.proofs.GraphLemmas.{faultless_sound}
use Rattle.bq_explain.proofs.refusal.state_refusal.Goals as goal

pub known_states-requires : goal.known_states-requires
known_states-requires c = rw c.in_ok-program.ensures.insns c.args.policy.now.whole

pub finding_of-finding-requires-clause-known : goal.finding_of-finding-requires-clause-known
finding_of-finding-requires-clause-known c = rw (← c.in_ok-program.ensures.judged) c.in_ok-states.ensures

pub find_trail-requires-clause-walkable : goal.find_trail-requires-clause-walkable
find_trail-requires-clause-walkable c = record {
  short = rw c.requires.slots (few_slots c.args.policy.now.insns.items c.args.policy.now.whole);
  sound =
      faultless_sound c.args.policy.now.insns.items c.args.slots.now c.requires.slots
      (subst (λ (s : List (Option Insn)). IsFaultless s) (sym c.requires.slots) c.requires.faultless);
}

pub finding_of-finding-requires-clause-inside : goal.finding_of-finding-requires-clause-inside
finding_of-finding-requires-clause-inside c = rw (← c.requires.slots) c.requires.inside
