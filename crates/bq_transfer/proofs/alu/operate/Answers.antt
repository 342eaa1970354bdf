use Rattle.std.proofs.Common.{ℕ, Option, Some, refl, sym, subst, arith, length, ◌<◌}
use Rattle.bq_insn.specs.declared.Insn.TheVariants.{Alu}
use Rattle.bq_bpf.specs.Meaning.{alu_result, word_of}
use Rattle.bq_states.specs.declared.abstract_state.ValueKind.TheVariants.{Stack}
use Rattle.bq_states.specs.declared.abstract_state.AbstractValue.{AbstractValue}
use Rattle.bq_states.specs.declared.abstract_state.AbstractState.{AbstractState}
use Rattle.bq_states.specs.Certainty.{IsMade, IsWord, Pointer, CertaintyHolds}
use Rattle.bq_states.proofs.WordLemmas.{word_fits}
use Rattle.bq_transfer.proofs.PlaceLemmas.{sum_on_stack}
use Rattle.bq_transfer.proofs.CertaintyLemmas.{knowing_made, made_classes}
use Rattle.bq_transfer.proofs.PutLemmas.{carries_put, left_from_set}
use Rattle.bq_transfer.proofs.SumLemmas.{carries_sum}
use Rattle.bq_states.proofs.LearnLemmas.{found_at}
use Rattle.bq_transfer.proofs.alu.operate.Goals as goal

pub returns-in-Some-constant_added-clause-transfers : goal.returns-in-Some-constant_added-clause-transfers
returns-in-Some-constant_added-clause-transfers c = λ shapes context_length.
    let there : c.args.dst < length c.args.state.now.registers = omega (arith, c.requires.below) in
    let related = rw c.set_register.ensures.is at c.relate_sum.ensures in
    rw c.set_register.ensures.is (carries_sum shapes context_length (Alu c.args.width c.args.op c.args.dst c.args.src)
    c.args.state.now c.args.dst c.class_at-class.result c.in-Some-constant_added.more c.in-Some-combine.word
    c.relate_sum.new.classes c.relate_sum.new.related there (omega (arith, c.requires.below)) c.class_at-class.ensures
    (λ f s suits contains.
    let right = c.in-Some.ensures.finds f s contains in
    let left = found_at f c.args.state.now s c.args.dst c.in-Some-known.left c.in-Some-known.ensures contains in (
      left.0,
      alu_result c.args.width c.args.op left.0 right.0,
      left.1,
      (left.0, right.0, left_from_set c.args.op (s.register c.args.dst) left.0 left.1, right.1, c.requires.below, refl),
      c.in-Some-combine.ensures.describes f.shapes left.0 right.0 left.2 right.2,
      word_fits f.shapes c.in-Some-known.left left.0 left.2,
      c.in-Some-constant_added.ensures f.shapes left.0 right.0 left.2 right.2,
    )) related)

pub returns-in_default-constant_added-clause-transfers : goal.returns-in_default-constant_added-clause-transfers
returns-in_default-constant_added-clause-transfers c = λ shapes context_length.
    let there : c.args.dst < length c.args.state.now.registers = omega (arith, c.requires.below) in
    rw c.set_register.ensures.is (carries_put shapes context_length (Alu c.args.width c.args.op c.args.dst c.args.src)
    c.args.state.now c.args.dst c.in-Some-combine.word there (λ f s suits contains.
    let right = c.in-Some.ensures.finds f s contains in
    let left = found_at f c.args.state.now s c.args.dst c.in-Some-known.left c.in-Some-known.ensures contains in (
      alu_result c.args.width c.args.op left.0 right.0,
      (left.0, right.0, left_from_set c.args.op (s.register c.args.dst) left.0 left.1, right.1, c.requires.below, refl),
      c.in-Some-combine.ensures.describes f.shapes left.0 right.0 left.2 right.2,
    )))

pub returns-in-Some-constant_added-clause-moves : goal.returns-in-Some-constant_added-clause-moves
returns-in-Some-constant_added-clause-moves c = λ m.
    let there : c.args.dst < length c.args.state.now.registers = omega (arith, c.requires.below) in
    let left : CertaintyHolds (Pointer Stack m.base) (Some c.in-Some-known.left) =
    subst (λ (v : Option AbstractValue). CertaintyHolds (Pointer Stack m.base) v) (sym c.in-Some-known.ensures) m.stands in
    let right : IsWord (word_of m.distance) (Some c.in-Some.right) = c.in-Some.ensures.immediate m.distance m.by_distance in
    let moved = c.in-Some-combine.ensures.moves m.base (word_of m.distance) m.whole m.is_sum left right in
    let stands : CertaintyHolds (Pointer Stack m.at) (Some c.in-Some-combine.word) =
    subst (λ (n : ℕ). CertaintyHolds (Pointer Stack n) (Some c.in-Some-combine.word))
    (sum_on_stack m.base m.at m.distance m.below m.small m.at_is) moved in (
      refl,
      made_classes (Pointer Stack m.at) c.args.state.now c.set_register.new.state c.args.dst c.relate_sum.new.classes
          c.relate_sum.new.related (subst
          (λ (v : AbstractState). IsMade (Pointer Stack m.at) c.args.state.now v c.args.dst) (sym c.set_register.ensures.is)
          (knowing_made (Pointer Stack m.at) c.args.state.now c.args.dst c.in-Some-combine.word there stands)),
    )

pub returns-in_default-constant_added-clause-moves : goal.returns-in_default-constant_added-clause-moves
returns-in_default-constant_added-clause-moves c = λ m.
    let there : c.args.dst < length c.args.state.now.registers = omega (arith, c.requires.below) in
    let left : CertaintyHolds (Pointer Stack m.base) (Some c.in-Some-known.left) =
    subst (λ (v : Option AbstractValue). CertaintyHolds (Pointer Stack m.base) v) (sym c.in-Some-known.ensures) m.stands in
    let right : IsWord (word_of m.distance) (Some c.in-Some.right) = c.in-Some.ensures.immediate m.distance m.by_distance in
    let moved = c.in-Some-combine.ensures.moves m.base (word_of m.distance) m.whole m.is_sum left right in
    let stands : CertaintyHolds (Pointer Stack m.at) (Some c.in-Some-combine.word) =
    subst (λ (n : ℕ). CertaintyHolds (Pointer Stack n) (Some c.in-Some-combine.word))
    (sum_on_stack m.base m.at m.distance m.below m.small m.at_is) moved in (
      refl,
      subst (λ (v : AbstractState). IsMade (Pointer Stack m.at) c.args.state.now v c.args.dst) (sym c.set_register.ensures.is)
          (knowing_made (Pointer Stack m.at) c.args.state.now c.args.dst c.in-Some-combine.word there stands),
    )
