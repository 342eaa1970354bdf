use Rattle.std.proofs.Common.{◌≡◌, ◌<◌, ◌+◌, Some, ℕ, subst, sym, arith, rules}
use Rattle.bq_states.specs.Copies.{HasWord}
use Rattle.bq_states.proofs.CopyLemmas.{register_word, slot_copy}
use Rattle.bq_transfer.proofs.stores.link_slot.Goals as goal

pub returns-clause-copies : goal.returns-clause-copies
returns-clause-copies c = λ s word copies is there.
    let from : c.from.result ≡ c.args.register = search rules in
    let low : c.from.result < 11 = omega arith in
    let from_is : s.register c.from.result ≡ Some word = subst (λ (r : ℕ). s.register r ≡ Some word) (sym from) is in
    let has : HasWord s (11 + c.in-Some.slot) word = there c.in-Some.slot c.in-Some.is in
    c.link.ensures s word copies (register_word s c.from.result word low from_is)
    (λ m h. slot_copy s c.in-Some.slot c.from.result word m low from_is has h)
