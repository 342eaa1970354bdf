use Rattle.std.proofs.Common.{Option, subst}
use Rattle.std.proofs.lemmas.Result.{on_ok_weaker}
use Rattle.bq_states.specs.declared.abstract_state.AbstractValue.{AbstractValue}
use Rattle.bq_verify.specs.Control.{IsOnSide}
use Rattle.bq_verify.specs.Ways.{HasOnSide}
use Rattle.bq_verify.proofs.flow.wait_on_side.Goals as goal

pub returns-clause-added : goal.returns-clause-added
returns-clause-added c =
    on_ok_weaker c.wait.result (λ added f s shapes at side.
    let on =
    subst (λ (k : Option AbstractValue).
    IsOnSide f c.args.state.now c.args.learnt.dst c.args.learnt.src k c.args.learnt.right c.args.learnt.relation s)
    c.in-Some.is side in
    added f s shapes at (c.learn_branch.ensures.contains f s on.0 on.1)) c.wait.ensures.added

pub returns-clause-has : goal.returns-clause-has
returns-clause-has c =
    on_ok_weaker c.wait.result
    (λ has x k waits there.
    has x k waits (λ same.
    let on = subst (λ (side : Option AbstractValue). HasOnSide x c.args.state.now c.args.learnt.dst side) c.in-Some.is (there same) in
    c.learn_branch.ensures.has x on.0 on.1))
    c.wait.ensures.has
