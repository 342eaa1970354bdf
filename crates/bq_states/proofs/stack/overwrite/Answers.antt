use Rattle.std.proofs.Common.{◌+◌, refl, inr, arith}
use Rattle.bq_insn.specs.Slots.{byte_count}
use Rattle.bq_states.proofs.StackLemmas.{contains_over, marks_wider}
use Rattle.bq_states.proofs.stack.overwrite.Goals as goal

pub returns-then-not-is_single-clause-contains : goal.returns-then-not-is_single-clause-contains
returns-then-not-is_single-clause-contains c = λ f s o bytes contains within long small.
    contains_over f c.args.state.now _ s c.args.at (byte_count c.args.size) o bytes refl refl
    (λ i h. inr h) (rw c.bytes.ensures at c.forget.ensures) (rw c.bytes.ensures at c.forget_parts.ensures)
    (rw c.bytes.ensures at c.forget_slot_classes.ensures) contains within long small

pub returns-clause-contains : goal.returns-clause-contains
returns-clause-contains c = λ f s o bytes contains within long small.
    let single = c.is_single.ensures.0 c.if-not-is_single.false in
    contains_over f c.args.state.now _ s c.args.at (byte_count c.args.size) o bytes refl refl
    (marks_wider c.args.state.now.set c.mark.new.set c.args.at.lo (c.args.at.hi + byte_count c.args.size) o
    (o + byte_count c.args.size) (omega arith) (omega arith) (rw c.bytes.ensures at c.mark.ensures.only))
    (rw c.bytes.ensures at c.forget.ensures) (rw c.bytes.ensures at c.forget_parts.ensures)
    (rw c.bytes.ensures at c.forget_slot_classes.ensures) contains within long small
