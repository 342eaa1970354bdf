use Rattle.std.proofs.Common.{◌≡◌, ◌<◌, ℕ, Some, length, sym, subst, arith, rules}
use Rattle.bq_states.specs.Learnt.{HasLearnt}
use Rattle.bq_states.proofs.LearntLemmas.{contains_left, has_left_learnt}
use Rattle.bq_states.proofs.WordLemmas.{word_fits}
use Rattle.bq_states.proofs.learnt.learn_branch.Goals as goal

pub returns-clause-contains : goal.returns-clause-contains
returns-clause-contains c = λ f s contains learnt.
    let same : c.from.result ≡ c.args.dst = search rules in
    let there : c.from.result < length c.sharpen.new.state.registers = omega arith in
    contains_left f c.sharpen.new.state s c.from.result learnt.word c.args.left there
    (subst (λ (r : ℕ). s.register r ≡ Some learnt.word) (sym same) learnt.is)
    (c.sharpen.ensures.contains f s learnt.word
    (c.learn_right.ensures.contains f s
    (c.learn_relation.ensures.contains f s learnt.word contains learnt.is (λ r e.
    let right = learnt.right_is r e in (
      right.0,
      right.1,
      record {
        left = word_fits f.shapes c.args.left learnt.word learnt.left_is;
        right = word_fits f.shapes c.args.right right.0 right.2.0;
        is = right.2.1;
      },
    ))) (λ r e. let right = learnt.right_is r e in (right.0, right.1, right.2.0))) learnt.is learnt.left_is) learnt.left_is

pub returns-clause-has : goal.returns-clause-has
returns-clause-has c = λ x lasting has.
    let same : c.from.result ≡ c.args.dst = search rules in
    let there : c.from.result < length c.args.state.now.registers = omega arith in
    let there' : c.from.result < length c.sharpen.new.state.registers = omega arith in
    has_left_learnt x c.args.state.now c.sharpen.new.state c.from.result c.args.left there there'
    (λ y lasts had. c.sharpen.ensures.has y lasts (c.learn_right.ensures.has y lasts (c.learn_relation.ensures.has y had)))
    lasting (subst (λ (r : ℕ). HasLearnt x c.args.state.now r c.args.left) (sym same) has)
