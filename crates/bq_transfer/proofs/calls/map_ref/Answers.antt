use Rattle.std.proofs.Common.{pos, ◌≡◌, ◌<◌, length, arith, refl}
use Rattle.std.proofs.lemmas.Int.{ints}
use Rattle.bq_insn.specs.declared.Insn.TheVariants.{MapRef}
use Rattle.bq_bpf.specs.Memory.{reference}
use Rattle.bq_transfer.proofs.PutLemmas.{carries_put, reference_is}
use Rattle.bq_transfer.proofs.calls.map_ref.Goals as goal

pub returns-clause-transfers : goal.returns-clause-transfers
returns-clause-transfers c = λ context_length.
    let there : c.args.dst < length c.args.state.now.registers = omega (arith, c.requires.below) in
    rw c.set_register.ensures.is
    (carries_put c.args.shapes.now context_length (MapRef c.args.dst c.args.index) c.args.state.now c.args.dst _ there
    (λ f s suits contains.
    let index : c.args.index ≡ pos c.in-Some.map = omega (arith, ints, c.in-Some.ensures.index) in
    let inside : c.in-Some.map < length f.shapes = rw suits.shapes_are c.in-Some.ensures.there in (
      reference c.in-Some.map,
      (c.in-Some.map, index, inside, c.requires.below, refl),
      reference_is f.shapes c.in-Some.map c.single.result inside (omega arith) c.single.ensures.lo,
    )))
