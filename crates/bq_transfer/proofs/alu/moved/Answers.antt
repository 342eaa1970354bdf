use Rattle.std.proofs.Common.{ℕ, sym, ap, ◌∙◌}
use Rattle.bq_insn.specs.declared.Width.TheVariants.{W64}
use Rattle.bq_insn.specs.declared.Operation.TheVariants.{Add}
use Rattle.bq_bpf.specs.Meaning.{alu_result}
use Rattle.bq_transfer.proofs.PlaceLemmas.{sum_is}
use Rattle.bq_states.proofs.WordLemmas.{number_within}
use Rattle.bq_transfer.proofs.ResultLemmas.{moved_up, moved_down}
use Rattle.bq_transfer.proofs.alu.moved.Goals as goal

pub returns-in-W64-Add-clause-describes : goal.returns-in-W64-Add-clause-describes
returns-in-W64-Add-clause-describes c = λ shapes x y p q.
    rw (c.in-W64-Add.is-0, c.in-W64-Add.is-1)
    (moved_up shapes c.args.a.kind c.args.a.offset c.alu.result x y c.args.b.offset p
    (number_within shapes c.args.b y c.requires q) (λ u v s t. rw (← sum_is u v) (c.alu.ensures.holds u v s t)))

pub returns-in-W64-Sub-clause-describes : goal.returns-in-W64-Sub-clause-describes
returns-in-W64-Sub-clause-describes c = λ shapes x y p q.
    rw (c.in-W64-Sub.is-0, c.in-W64-Sub.is-1)
    (moved_down shapes c.args.a.kind c.args.a.offset c.sub.result x y c.args.b.offset p
    (number_within shapes c.args.b y c.requires q) c.sub.ensures.holds)

pub returns-in-W64-Add-clause-moves : goal.returns-in-W64-Add-clause-moves
returns-in-W64-Add-clause-moves c = λ base word whole sum stands is.
    let one = stands.2 ∙ sym stands.3 in
    let other = is.1 ∙ sym is.2 in
    let sums = ap (λ (n : ℕ). alu_result W64 Add n c.args.b.offset.lo) stands.2 ∙ ap (λ (n : ℕ). alu_result W64 Add base n) is.1 in
    (stands.0, stands.1, c.alu.ensures.single_low one other ∙ sums, c.alu.ensures.single_high one other ∙ sums)
