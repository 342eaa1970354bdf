use Rattle.std.proofs.Common.{Option, refl, subst}
use Rattle.bq_states.specs.declared.abstract_state.AbstractValue.{AbstractValue}
use Rattle.bq_verify.specs.Control.{IsOnSide}
use Rattle.bq_verify.proofs.flow.keep_on_side.Goals as goal

pub returns-clause-contains : goal.returns-clause-contains
returns-clause-contains c = λ f s side.
    let on =
    subst (λ (k : Option AbstractValue).
    IsOnSide f c.args.state.now c.args.learnt.dst c.args.learnt.src k c.args.learnt.right c.args.learnt.relation s)
    c.in-Some.is side in
    (refl, c.learn_branch.ensures.contains f s on.0 on.1)
