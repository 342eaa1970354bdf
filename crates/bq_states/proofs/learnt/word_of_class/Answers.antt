use Rattle.std.proofs.Common.{◌≡◌, ◌≢◌, ◌<◌, ◌∙◌, ℕ, None, length, get_or, sym, subst, arith, rules}
use Rattle.std.specs.Prelude.{slice_index}
use Rattle.std.proofs.lemmas.List.{get_or_read}
use Rattle.bq_ranges.specs.Within.{Within}
use Rattle.bq_states.proofs.LearntLemmas.{class_within}
use Rattle.bq_states.proofs.learnt.word_of_class.Goals as goal

pub returns-then-state-register : goal.returns-then-state-register
returns-then-state-register c = λ f s is small.
    let here : slice_index c.args.state.now.classes c.loop-register.register ≡ c.args.class = search rules in
    let some : slice_index c.args.state.now.classes c.loop-register.register ≢ 0 = λ e. c.if-class-eq0.false (sym here ∙ e) in
    let low : c.loop-register.register < 11 = omega arith in
    let there : c.loop-register.register < length c.args.state.now.registers = omega arith in
    let read =
    sym c.index-state-register.is
    ∙ get_or_read c.args.state.now.registers c.loop-register.register c.index-state-register.result there
    c.index-state-register.is None in
    subst (λ (k : ℕ). Within c.numbers_of.result (is.copies.0 k)) here
    (class_within f c.args.state.now s is c.loop-register.register
    (get_or c.args.state.now.registers c.loop-register.register c.index-state-register.result) c.numbers_of.result low some
    read c.numbers_of.ensures.any c.numbers_of.ensures.known (rw here small))
