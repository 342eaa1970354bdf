use Rattle.std.proofs.Common.{◌≤◌, length, refl, arith}
use Rattle.bq_states.proofs.LearntLemmas.{contains_sharper_all, has_sharper}
use Rattle.bq_states.proofs.learnt.sharpen_class.Goals as goal

pub returns-then-class-eq0-clause-contains : goal.returns-then-class-eq0-clause-contains
returns-then-class-eq0-clause-contains c = λ f s was d. (was, refl)

pub returns-clause-contains : goal.returns-clause-contains
returns-clause-contains c = λ f s was d.
    let short : length c.args.state.now.registers ≤ 11 = omega arith in
    contains_sharper_all f c.args.state.now s c.args.learnt was c.args.class d c.sharpen_all.new.words
    c.sharpen_all-2.new.words c.if-class-eq0.false short c.sharpen_all.ensures.sharper c.sharpen_all.ensures.others
    c.sharpen_all-2.ensures.sharper c.sharpen_all-2.ensures.others

pub returns-clause-has : goal.returns-clause-has
returns-clause-has c = λ x lasting has.
    has_sharper x c.args.state.now c.sharpen_all.new.words c.sharpen_all-2.new.words c.sharpen_all.ensures.stands
    c.sharpen_all-2.ensures.stands lasting has
