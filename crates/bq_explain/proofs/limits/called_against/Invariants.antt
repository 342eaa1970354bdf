use Rattle.std.proofs.Common.{take}
use Rattle.std.specs.Prelude.{All, Some}
use Rattle.bq_explain.specs.Verdicts.{CallsNoOther}
use Rattle.bq_explain.proofs.limits.called_against.Given as goal

abbrev pub invariant-loop-insn : goal.invariant-loop-insn
invariant-loop-insn l = All (CallsNoOther (Some l.fn.helpers)) (take l.insn-index l.insns)
