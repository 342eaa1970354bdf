use Rattle.std.proofs.Common.{◌≡◌, ◌<◌, ℕ, Option, Some, length, refl, sym, subst, arith, rules}
use Rattle.bq_states.proofs.LearntLemmas.{contains_sharper_one, has_sharper, set_each, learnt_class}
use Rattle.bq_states.specs.Certainty.{CertaintyHolds}
use Rattle.bq_states.specs.declared.abstract_state.AbstractValue.{AbstractValue}
use Rattle.bq_states.specs.Learnt.{IsLastingWord, IsSharper}
use Rattle.bq_states.proofs.learnt.sharpen.Goals as goal

pub returns-then-class-eq0-clause-contains : goal.returns-then-class-eq0-clause-contains
returns-then-class-eq0-clause-contains c = λ f s n contains is d.
    let same : c.from-register.result ≡ c.args.register = search rules in
    let there : c.from-register.result < length c.args.state.now.registers = omega arith in
    contains_sharper_one f c.args.state.now s c.args.learnt c.from-register.result n contains
    (subst (λ (r : ℕ). s.register r ≡ Some n) (sym same) is) d c.index-state-register.result c.sharper.result there
    c.index-state-register.is (subst (λ (v : Option AbstractValue). IsSharper c.args.learnt v c.sharper.result)
    (sym c.index-state-register.is) c.sharper.ensures.sharper)

pub returns-then-class-eq0-clause-has : goal.returns-then-class-eq0-clause-has
returns-then-class-eq0-clause-has c = λ x lasting has.
    let same : c.from-register.result ≡ c.args.register = search rules in
    let there : c.from-register.result < length c.args.state.now.registers = omega arith in
    has_sharper x c.args.state.now _ c.args.state.now.kept
    (λ s.
    set_each (λ k a b. IsLastingWord s → CertaintyHolds s a → CertaintyHolds s b) c.args.state.now.registers
    c.args.state.now.registers c.from-register.result c.sharper.result c.index-state-register.result there
    c.index-state-register.is refl (subst
    (λ (v : Option AbstractValue). IsLastingWord s → CertaintyHolds s v → CertaintyHolds s c.sharper.result)
    (sym c.index-state-register.is) (c.sharper.ensures.stands s)) (λ k lasts stands. stands))
    (λ s k lasts stands. stands) lasting has

pub returns-clause-contains : goal.returns-clause-contains
returns-clause-contains c = λ f s n contains is d.
    let same : c.from-register.result ≡ c.args.register = search rules in
    let low : c.from-register.result < 11 = omega arith in
    let d' =
    learnt_class f c.args.state.now s c.args.learnt c.from-register.result n contains
    (subst (λ (r : ℕ). s.register r ≡ Some n) (sym same) is) d low c.if-class-eq0.false in
    let is' = c.sharpen_class.ensures.contains f s contains d' in
    (c.sharpen_related.ensures.contains f s is'.0 (rw is'.1 d')).0

pub returns-clause-has : goal.returns-clause-has
returns-clause-has c = λ x lasting has. c.sharpen_related.ensures.has x lasting (c.sharpen_class.ensures.has x lasting has)
