use Rattle.std.proofs.Common.{refl, arith, length, ◌<◌}
use Rattle.bq_insn.specs.declared.Insn.TheVariants.{Imm64}
use Rattle.bq_transfer.proofs.PutLemmas.{carries_put}
use Rattle.bq_states.proofs.WordLemmas.{describes_number}
use Rattle.bq_transfer.proofs.moves.immediate.Goals as goal

pub returns-clause-transfers : goal.returns-clause-transfers
returns-clause-transfers c = λ shapes context_length.
    let there : c.args.dst < length c.args.state.now.registers = omega (arith, c.requires) in
    rw c.learn_number.ensures.is (carries_put shapes context_length (Imm64 c.args.dst c.args.value)
    c.args.state.now c.args.dst _ there (λ f s suits contains. (
      c.args.value,
      (c.requires, refl),
      describes_number f.shapes c.single.result c.args.value
          (omega (arith, c.single.ensures.lo), omega (arith, c.single.ensures.hi)),
    )))
