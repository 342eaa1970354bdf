use Rattle.std.proofs.Common.{◌≡◌, ◌<◌, ℕ, Some, subst, sym, ◌∙◌, arith, rules}
use Rattle.std.proofs.lemmas.Option.{same_Some}
use Rattle.bq_states.specs.Relations.{Relates}
use Rattle.bq_states.specs.declared.relations.Relation.TheVariants.{Sum}
use Rattle.bq_states.proofs.CopyLemmas.{register_word}
use Rattle.bq_transfer.proofs.alu.relate_sum.Goals as goal

pub returns : goal.returns
returns c = λ s a copies is relates.
    let to : c.from.result ≡ c.args.register = search rules in
    let low : c.from.result < 11 = omega arith in
    let there : s.register c.from.result ≡ Some a = subst (λ (r : ℕ). s.register r ≡ Some a) (sym to) is in
    let given = c.class_of-left.ensures.word s a copies (register_word s c.from.result a low there) in
    let left : a ≡ given.0.0.0 c.class_of-left.result = same_Some a (given.0.0.0 c.class_of-left.result) (sym there ∙ given.0.1.0 low) in
    let known : Relates (Sum c.args.more) (given.0.0.0 c.class_of-left.result) (given.0.0.0 c.args.class) =
    subst (λ (x : ℕ). Relates (Sum c.args.more) x (given.0.0.0 c.args.class)) left
    (subst (λ (y : ℕ). Relates (Sum c.args.more) a y) (sym given.1) (relates c.if-class-eq0.false)) in
    (given.0.0.0, given.0.0.1, c.relate.ensures given.0.0.0 given.0.0.2 known)
