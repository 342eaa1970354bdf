use Rattle.std.proofs.Common.{◌≡◌, take}
use Rattle.std.specs.Prelude.{count_by}
use Rattle.bq_bpf.specs.Instructions.{asks_counter}
use Rattle.bq_explain.proofs.measure.counter_calls.Given as goal

abbrev pub invariant-loop-insn : goal.invariant-loop-insn
invariant-loop-insn l = l.count ≡ count_by asks_counter (take l.insn-index l.insns)
