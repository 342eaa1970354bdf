use Rattle.std.proofs.Common.{◌≡◌, ◌<◌, ◌∙◌, ap, Some, ℕ, subst, sym, arith, rules}
use Rattle.bq_states.proofs.CopyLemmas.{register_copy, register_word}
use Rattle.bq_transfer.proofs.alu.link_copy.Goals as goal

pub returns : goal.returns
returns c = λ s copies copied.
    let to : c.from.result ≡ c.args.dst = search rules in
    let from : c.from-2.result ≡ c.in-Reg.from = search rules in
    let is = copied c.in-Reg.from c.in-Reg.is c.if-from-dst.false in
    let whole = c.is_whole.ensures c.if-not-is_whole.false is.shapes is.word is.described in
    let low : c.from.result < 11 = omega arith in
    let low' : c.from-2.result < 11 = omega arith in
    let from_is : s.register c.from-2.result ≡ Some is.word = subst (λ (r : ℕ). s.register r ≡ Some is.word) (sym from) is.from_is in
    let to_is : s.register c.from.result ≡ Some is.word =
    subst (λ (r : ℕ). s.register r ≡ Some is.word) (sym to) (is.to_is ∙ ap (λ (n : ℕ). Some n) whole) in
    c.link.ensures s is.word copies (register_word s c.from-2.result is.word low' from_is)
    (λ m has. register_copy s c.from.result c.from-2.result is.word m low low' from_is to_is has)
