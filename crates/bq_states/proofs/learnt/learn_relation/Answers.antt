use Rattle.std.proofs.Common.{◌≡◌, ◌<◌, ◌∙◌, ℕ, Option, Some, sym, arith, rules}
use Rattle.std.proofs.lemmas.Option.{same_Some}
use Rattle.bq_states.specs.Relations.{Relates}
use Rattle.bq_states.proofs.CopyLemmas.{register_word}
use Rattle.bq_states.proofs.LearntLemmas.{contains_copies}
use Rattle.bq_states.proofs.learnt.learn_relation.Goals as goal

held : (register : ℕ → Option ℕ) (place a n : ℕ) → register place ≡ Some a → register place ≡ Some n → n ≡ a
held register place a n is is' = same_Some n a (sym is' ∙ is)

pub returns-clause-contains : goal.returns-clause-contains
returns-clause-contains c = λ f s a contains is right.
    let left_place : c.from.result ≡ c.args.dst = search rules in
    let right_place : c.from-2.result ≡ c.in-Reg.register = search rules in
    let low : c.from.result < 11 = omega arith in
    let low' : c.from-2.result < 11 = omega arith in
    let left_is : s.register c.from.result ≡ Some a = rw left_place is in
    let b = right c.in-Reg.register c.in-Reg.is in
    let right_is : s.register c.from-2.result ≡ Some b.0 = rw right_place b.1 in
    let first = c.class_of-left.ensures.word s a contains.copies (register_word s c.from.result a low left_is) in
    let second = c.class_of-right.ensures.word s b.0 first.0.0 (register_word s c.from-2.result b.0 low' right_is) in
    let left_word : second.0.0.0 c.class_of-left.result ≡ a =
    rw second.1 (held s.register c.from.result a (first.0.0.0 c.class_of-left.result) left_is (first.0.1.0 low)) in
    let right_word : second.0.0.0 c.class_of-right.result ≡ b.0 =
    held s.register c.from-2.result b.0 (second.0.0.0 c.class_of-right.result) right_is (second.0.1.0 low') in
    let relates : Relates c.args.relation (second.0.0.0 c.class_of-left.result) (second.0.0.0 c.class_of-right.result) =
    rw (left_word, right_word) b.2 in
    contains_copies f c.args.state.now s c.class_of-right.new.classes c.relate.new.related
    (second.0.0.0, second.0.0.1, c.relate.ensures second.0.0.0 second.0.0.2 relates) contains
