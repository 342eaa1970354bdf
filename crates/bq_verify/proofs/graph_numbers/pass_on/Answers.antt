use Rattle.std.proofs.Common.{◌≡◌, ◌+◌, ℕ, arith, sym, ap, inl, inr, Some}
use Rattle.bq_bpf.specs.Steps.{instruction_at}
use Rattle.bq_verify.specs.Paths.{counter_calls_of}
use Rattle.bq_verify.proofs.EdgeLemmas.{target_inside}
use Rattle.bq_verify.proofs.CountLemmas.{counted_on}
use Rattle.bq_verify.proofs.graph_numbers.pass_on.Goals as goal

pub raise-requires : goal.raise-requires
raise-requires c = λ k e.
    rw c.requires.room
    (target_inside c.args.slots.now c.args.slot c.find_targets-targets.result c.requires.sound c.find_targets-targets.ensures k (inl e))

pub raise-requires-2 : goal.raise-requires-2
raise-requires-2 c = λ k e.
    let inside = target_inside c.args.slots.now c.args.slot c.find_targets-targets.result c.requires.sound c.find_targets-targets.ensures k (inr e) in
    omega arith

pub returns : goal.returns
returns c =
    let here : instruction_at c.args.slots.now c.args.slot ≡ Some c.in-Some-instruction.insn = sym c.in-Some-instruction.ensures in
    let count_is : c.in-Some.before + c.calls.result ≡ c.in-Some.before + counter_calls_of (instruction_at c.args.slots.now c.args.slot) =
    ap (λ (n : ℕ). c.in-Some.before + n) (rw here c.calls.ensures) in
    counted_on c.args.slots.now c.requires.sound c.args.slot c.find_targets-targets.result c.find_targets-targets.ensures
    c.in-Some.before (c.in-Some.before + c.calls.result) count_is c.args.most.now c.raise.new.most c.raise-2.new.most
    c.raise.ensures c.raise-2.ensures c.requires.counted (sym c.in-Some.ensures)
