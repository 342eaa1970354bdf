use Rattle.std.proofs.Common.{rules, ◌≡◌, ℕ, Some, refl, sym, subst, arith, length, ◌<◌}
use Rattle.std.proofs.lemmas.Option.{same_Some}
use Rattle.bq_insn.specs.declared.Operation.TheVariants.{Mov}
use Rattle.bq_bpf.specs.Meaning.{alu_result, word_of}
use Rattle.bq_states.specs.declared.abstract_state.AbstractValue.{AbstractValue}
use Rattle.bq_states.specs.declared.abstract_state.AbstractState.{AbstractState}
use Rattle.bq_states.specs.Certainty.{Exact, IsMade, CertaintyHolds}
use Rattle.bq_insn.specs.declared.Source.{Source}
use Rattle.bq_insn.specs.declared.Source.TheVariants.{Reg}
use Rattle.bq_bpf.specs.Steps.{IsOperand, put}
use Rattle.bq_states.specs.AbstractStates.{Contains, knowing}
use Rattle.bq_states.proofs.CopyLemmas.{put_here, put_there}
use Rattle.bq_transfer.proofs.CertaintyLemmas.{knowing_made, made_classes}
use Rattle.bq_transfer.proofs.PutLemmas.{contains_put, contains_same}
use Rattle.bq_transfer.proofs.alu.copy.Goals as goal

pub returns-clause-transfers : goal.returns-clause-transfers
returns-clause-transfers c = λ shapes context_length f s suits contains.
    let there : c.args.dst < length c.args.state.now.registers = omega (arith, c.requires) in
    let right = c.in-Some.ensures.finds f s contains in
    let value : ℕ = alu_result c.args.width Mov 0 right.0 in
    let put_contains : Contains f (knowing c.args.state.now c.args.dst c.in-Some-copied.word) (put s 1 c.args.dst value) =
    contains_put f c.args.state.now s 1 c.args.dst value c.in-Some-copied.word there contains
    (c.in-Some-copied.ensures.describes f.shapes 0 right.0 right.2) in
    let learnt : Contains f c.set_register.new.state (put s 1 c.args.dst value) =
    subst (λ (v : AbstractState). Contains f v (put s 1 c.args.dst value)) (sym c.set_register.ensures.is) put_contains in
    let copies =
    c.link_copy.ensures (put s 1 c.args.dst value) learnt.copies (λ r is other. record {
      shapes = f.shapes;
      word = right.0;
      from_is =
          put_there s 1 c.args.dst value r right.0 other
          (let at : IsOperand s (Reg r) right.0 = subst (λ (x : Source). IsOperand s x right.0) is right.1 in at);
      described = right.2;
      to_is = put_here s 1 c.args.dst value;
    }) in (
      put s 1 c.args.dst value,
      (0, right.0, tt, right.1, c.requires, refl),
      record {
        registers = learnt.registers;
        set = learnt.set;
        kept = learnt.kept;
        parts = learnt.parts;
        maps = learnt.maps;
        copies = copies;
      },
      refl,
    )

pub returns-clause-exact : goal.returns-clause-exact
returns-clause-exact c = λ i is whole.
    let there : c.args.dst < length c.args.state.now.registers = omega (arith, c.requires) in
    let word = c.in-Some.ensures.immediate i is in
    let same : c.in-Some-copied.word ≡ c.in-Some.right =
    same_Some c.in-Some-copied.word c.in-Some.right (c.in-Some-copied.ensures.same whole) in
    let stands : CertaintyHolds (Exact (word_of i)) (Some c.in-Some-copied.word) =
    subst (λ (k : AbstractValue). CertaintyHolds (Exact (word_of i)) (Some k)) (sym same) word in
    made_classes (Exact (word_of i)) c.args.state.now c.set_register.new.state c.args.dst c.link_copy.new.classes
    c.link_copy.new.related (subst (λ (v : AbstractState). IsMade (Exact (word_of i)) c.args.state.now v c.args.dst)
    (sym c.set_register.ensures.is) (knowing_made (Exact (word_of i)) c.args.state.now c.args.dst c.in-Some-copied.word there stands))

pub returns-then-is_whole-clause-transfers : goal.returns-then-is_whole-clause-transfers
returns-then-is_whole-clause-transfers c = λ shapes context_length f s suits contains.
    let right = c.in-Some.ensures.finds f s contains in
    let itself : c.args.src ≡ Reg c.args.dst = search rules in
    let whole = c.is_whole.ensures c.if-is_whole.true f.shapes right.0 right.2 in
    let here : IsOperand s (Reg c.args.dst) right.0 = subst (λ (x : Source). IsOperand s x right.0) itself right.1 in (
      put s 1 c.args.dst (alu_result c.args.width Mov 0 right.0),
      (0, right.0, tt, right.1, c.requires, refl),
      rw whole (contains_same f c.args.state.now s 1 c.args.dst right.0 here contains),
      refl,
    )
