-- What the pass rests on, and the verdict of the checks of the control graph.
use Rattle.std.proofs.Common.{◌≡◌, ◌<◌, ◌≤◌, ℕ, List, Option, length, true, arith}
use Rattle.std.specs.List.{list_all}
use Rattle.bq_insn.specs.declared.Insn.{Insn}
use Rattle.bq_insn.specs.declared.TheConstants.{SLOTS}
use Rattle.bq_insn.specs.Slots.{spread}
use Rattle.bq_insn.specs.Spelling.{is_insn}
use Rattle.bq_hooks.specs.Hooks.{context_length_of}
use Rattle.bq_hooks.specs.declared.hook.Hook.{Hook}
use Rattle.bq_hooks.specs.declared.hook.Hook.TheVariants.{Place, Preempt, Pull}
use Rattle.bq_hooks.specs.declared.hook.Version.{Version}
use Rattle.bq_hooks.specs.declared.hook.Version.TheVariants.{First, Second}
use Rattle.bq_verify.specs.declared.cause.Cause.{Cause}
use Rattle.bq_verify.specs.declared.cause.Cause.TheVariants.{Graph, State}
use Rattle.bq_verify.specs.declared.policy_form.PolicyForm.{PolicyForm}
use Rattle.bq_verify.specs.declared.refused.Refused.{Refused}
use Rattle.bq_verify.specs.declared.refused.Refused.TheVariants.{At, OutOfMemory}
use Rattle.bq_bpf.specs.Safe.{Safe}
use Rattle.bq_verify.specs.Accepted.{IsAccepted}
use Rattle.bq_verify.specs.Control.{CanBePassed}
use Rattle.bq_verify.specs.Faults.{IsFaultless}
use Rattle.bq_verify.specs.Refusals.{IsGraphVerdict, IsVerdictOn, StopsNowhere}
use Rattle.bq_verify.specs.Subjects.{Subject, subject_of_slots}
use Rattle.bq_verify.proofs.FrameLemmas.{spares_frame}
use Rattle.bq_verify.proofs.GraphLemmas.{faultless_sound, spread_first}

-- no hook has a context of 65,536 bytes or more
pub context_small : (hook : Hook) (version : Version) → context_length_of hook version < 65536
context_small Place First = omega arith
context_small Place Second = omega arith
context_small Preempt version = omega arith
context_small Pull version = omega arith

-- the pass may go over a program whose control graph has no fault
pub passable_program : (insns : List Insn) (slots : List (Option Insn)) (form : PolicyForm)
    → slots ≡ spread insns → list_all is_insn insns ≡ true → 0 < length (spread insns)
    → length (spread insns) ≤ SLOTS → IsFaultless slots
    → CanBePassed (subject_of_slots slots form)
passable_program insns slots form same registers some short faultless = record {
  sound = faultless_sound insns slots same faultless;
  first = spread_first insns slots same (rw same some);
  frame = spares_frame insns slots same registers faultless;
  short = rw same short;
  few = form.few;
  small = context_small form.hook form.version;
}

-- a program over which the pass may go, and in which it stops nowhere, is accepted with the budget within which it is safe
pub accepted_program : (p : Subject) (budget : ℕ) → CanBePassed p → StopsNowhere p → Safe p.slots p.shapes p.context budget
    → IsAccepted p.slots p.shapes p.context budget
accepted_program p budget passable passed safe = record { short = passable.short; few = passable.few; passed = passed; safe = safe }

-- a refusal at a slot is not that memory ran out
pub not_memory : (slot : ℕ) (cause : Cause) → At slot cause ≡ OutOfMemory → ⊥
not_memory slot cause e = cc

-- the verdict of the checks of the control graph is one on the program
pub verdict_of_graph : (p : Subject) (answer : Refused) → IsGraphVerdict p.slots answer → IsVerdictOn p answer
verdict_of_graph p OutOfMemory verdict = tt
verdict_of_graph p (At slot (Graph cause)) verdict = verdict
verdict_of_graph p (At slot (State obligation)) verdict = absurd verdict
