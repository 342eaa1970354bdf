-- Why the pass may stop at an instruction.
use Rattle.std.specs.Prelude.{◌≡◌}
use Rattle.bq_insn.specs.declared.Insn.{Insn}
use Rattle.bq_transfer.specs.Obligations.{MayBeUnproven}
use Rattle.bq_verify.specs.declared.pass_stop.PassStop.TheVariants as stop
use Rattle.bq_verify.specs.declared.pass_stop.PassStop.TheVariants.{Unproven}
use Rattle.bq_verify.specs.declared.pass_stop.PassStop.{PassStop}

-- the pass stops because memory ran out
abbrev pub IsWantOfMemory : PassStop → Type 0
IsWantOfMemory reason = reason ≡ stop.OutOfMemory

-- the pass may stop at the instruction: for an obligation that it may leave unproven, or because memory ran out
abbrev pub MayStop : PassStop → Insn → Type 0
MayStop (Unproven obligation) insn = MayBeUnproven obligation insn
MayStop stop.OutOfMemory insn = Unit {0}
